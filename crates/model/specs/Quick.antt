-- The quick test of two accesses: subscript by subscript, by the greatest common divisor and by ranges.
use Rattle.std.specs.Prelude.{Bool, false, cond, not, ◌||◌, List, [], ◌∷◌, ◌++◌, map, ℕ, ◌%◌, eqb, ℤ, pos, negsuc, neg_ℤ, nat_abs, ◌+ℤ◌, ◌-ℤ◌, ◌*ℤ◌, ◌≤ℤ◌}
use Rattle.std.specs.Int.Signed.{lt_z}
use Rattle.integers.specs.Division.{floor_div, ceil_div}
use Rattle.integers.specs.Gcd.{gcd_of}
use Rattle.lists.specs.Tests.{any}
use Rattle.model.specs.Ticket.{Loop, Subscript, Access}
use Rattle.model.specs.Points.{max_z, min_z, largest, smallest}

-- the least and the greatest value of an index
pub record Range : Type 0 where
  pub least : ℤ
  pub greatest : ℤ

pub record Contains (r : Range) (x : ℤ) : Type 0 where
  pub low : r.least ≤ℤ x
  pub high : x ≤ℤ r.greatest

-- each index in its range
abbrev pub InRanges : List Range → List ℤ → Type 0
InRanges [] [] = Unit {0}
InRanges [] (x ∷ xs) = ⊥
InRanges (r ∷ rs) [] = ⊥
InRanges (r ∷ rs) (x ∷ xs) = Contains r x × InRanges rs xs

-- a coefficient times its index: least values for positive coefficients and greatest for negative, and the reverse
unfoldable pub least_term : ℤ → Range → ℤ
least_term c r = cond (lt_z (pos 0) c) (c *ℤ r.least) (c *ℤ r.greatest)

unfoldable pub greatest_term : ℤ → Range → ℤ
greatest_term c r = cond (lt_z (pos 0) c) (c *ℤ r.greatest) (c *ℤ r.least)

unfoldable pub least_sum : List ℤ → List Range → ℤ
least_sum [] rs = pos 0
least_sum (c ∷ cs) [] = pos 0
least_sum (c ∷ cs) (r ∷ rs) = least_term c r +ℤ least_sum cs rs

unfoldable pub greatest_sum : List ℤ → List Range → ℤ
greatest_sum [] rs = pos 0
greatest_sum (c ∷ cs) [] = pos 0
greatest_sum (c ∷ cs) (r ∷ rs) = greatest_term c r +ℤ greatest_sum cs rs

-- cut to ±32767
unfoldable pub cut : ℤ → ℤ
cut x = max_z (negsuc 32766) (min_z (pos 32767) x)

-- the least value of a loop: the largest, over its lower limits, of the least e divided by p, rounded up; the greatest is the mirror
unfoldable pub range_of : List Range → Loop → Range
range_of rs L = record {
  least = cut (largest (map (λ l. ceil_div (l.constant +ℤ least_sum l.coefficients rs) (pos l.multiplier)) L.lower));
  greatest = cut (smallest (map (λ l. floor_div (l.constant +ℤ greatest_sum l.coefficients rs) (pos l.multiplier)) L.upper));
}

-- the ranges of the loops N inside those of rs
unfoldable pub ranges_from : List Range → List Loop → List Range
ranges_from rs [] = rs
ranges_from rs (L ∷ N) = ranges_from (rs ++ (range_of rs L ∷ [])) N

unfoldable pub ranges : List Loop → List Range
ranges N = ranges_from [] N

-- the two subscripts subtracted, over two free iterations
unfoldable pub difference : Subscript → Subscript → Subscript
difference f g = record { constant = f.constant -ℤ g.constant; coefficients = f.coefficients ++ map neg_ℤ g.coefficients }

-- 0 divides 0 alone (n % 0 is n)
unfoldable pub divides : ℕ → ℤ → Bool
divides g c = eqb (nat_abs c % g) 0

-- the greatest common divisor fails to divide the constant, or 0 lies outside the least and the greatest value
unfoldable pub never_zero : List Range → Subscript → Bool
never_zero rs d =
    not (divides (gcd_of d.coefficients) d.constant)
    || (lt_z (pos 0) (d.constant +ℤ least_sum d.coefficients rs) || lt_z (d.constant +ℤ greatest_sum d.coefficients rs) (pos 0))

unfoldable pub some_apart : List Range → List Subscript → List Subscript → Bool
some_apart rs [] gs = false
some_apart rs (f ∷ fs) [] = false
some_apart rs (f ∷ fs) (g ∷ gs) = never_zero (rs ++ rs) (difference f g) || some_apart rs fs gs

pub data Independence : Type 0 where
  apart perhaps : Independence

unfoldable pub is_apart : List Loop → Access → Access → Bool
is_apart N u v =
    not (eqb u.array v.array)
    || (any (λ r. lt_z r.greatest r.least) (ranges N) || some_apart (ranges N) u.subscripts v.subscripts)

unfoldable pub quick_test : List Loop → Access → Access → Independence
quick_test N u v = cond (is_apart N u v) apart perhaps
