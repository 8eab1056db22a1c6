-- The difference of two subscripts over two free iterations: its least value is the least of the one less the greatest of the other, its
-- greatest the reverse. Then what the machine makes of it, and the test of one dimension.
use mathlib.Core.Path.{◌≡◌, sym, ◌∙◌, ap, ap₂}
use mathlib.Core.Bool.{Bool, true, false, not, ◌||◌}
use mathlib.Core.List.{List, [], ◌∷◌, ◌++◌, map}
use Prim.Native.Nat.{ℕ, zero, suc, ◌+◌, ◌*◌, ◌≤◌}
use native.Mathlib.Omega.{arith}
use lib.IntN.{ℤ, pos, negsuc, neg_ℤ, ◌+ℤ◌, ◌-ℤ◌, ◌*ℤ◌}
use lib.Signed.{lt_z}
use lib.ListN.{length, get_or, take, drop, length-take, length-drop}
use mir.Syntax.{w64}
use mir.Val.{SFits}
use Rattle.integers.specs.Difference.{size}
use Rattle.integers.specs.Gcd.{gcd_of}
use Rattle.integers.proofs.RangeLaws.{back, size_fits, size-add, size-sub, lt_test}
use Rattle.integers.proofs.RingLaws.{zarith}
use Rattle.integers.proofs.AffineLaws.{within-at}
use Rattle.integers.proofs.Polynomial.{◌⊕◌, ◌⊖◌, ◌⊗◌, ⊝, #}
use Rattle.integers.proofs.Linear.{lin, ◌≐◌}
use Rattle.model.specs.Quick as Model
use Rattle.model.specs.Quick.{least_term, greatest_term, difference, divides, never_zero}
use Rattle.model.specs.Ticket.{Subscript}
use Rattle.nest_index_range.proofs.LimitLaws.{copied}
use Rattle.nest_index_range.specs.declared.Side.{Side}
use Rattle.nest_index_range.specs.declared.Side.TheVariants.{Lower, Upper}
use Rattle.nest_index_range.specs.Sides.{other}
use Rattle.nest_flat.specs.Layout.{form_at}
use Rattle.nest_loop_ranges.specs.declared.Range.{Range}
use Rattle.nest_loop_ranges.specs.Ranges.{ranges_of, term_by}
use Rattle.nest_quick_test.specs.Differences.{difference_at, extreme_difference, PairIn, DifferenceIn}
use Rattle.nest_loop_ranges.specs.Extremes.{extreme_term, extreme_sum}
use Rattle.nest_loop_ranges.proofs.TermLaws.{copy}
use Rattle.nest_loop_ranges.proofs.ExtremeLaws.{sum-none, sum-short, sum-cons}
use Rattle.nest_loop_ranges.proofs.SumLaws.{count_of}

-- ---- sums of two lists, and of negatives

sum-append : (d : Side) (cs ds : List ℤ) (rs ss : List Model.Range) → length cs ≡ length rs
    → extreme_sum d (cs ++ ds) (rs ++ ss) ≡ extreme_sum d cs rs +ℤ extreme_sum d ds ss
sum-append d [] ds [] ss e = rw (sum-none d []) (lin (extreme_sum d ds ss ∷ []) (λ x. x ≐ # 0 ⊕ x) tt)
sum-append d [] ds (r ∷ rs) ss e = absurd (omega arith)
sum-append d (c ∷ cs) ds [] ss e = absurd (omega arith)
sum-append d (c ∷ cs) ds (r ∷ rs) ss e = sum-cons d c (cs ++ ds) r (rs ++ ss) ∙ ap (extreme_term d c r +ℤ◌) (sum-append d cs ds rs ss (omega arith))
    ∙ lin (extreme_term d c r ∷ extreme_sum d cs rs ∷ extreme_sum d ds ss ∷ []) (λ x y z. x ⊕ (y ⊕ z) ≐ (x ⊕ y) ⊕ z) tt
    ∙ ap (◌+ℤ extreme_sum d ds ss) (sym (sum-cons d c cs r rs))

neg-times : (a b : ℤ) → neg_ℤ a *ℤ b ≡ neg_ℤ (a *ℤ b)
neg-times a b = lin (a ∷ b ∷ []) (λ a b. ⊝ a ⊗ b ≐ ⊝ (a ⊗ b)) tt

zero-times : (a b : ℤ) → pos 0 *ℤ a ≡ neg_ℤ (pos 0 *ℤ b)
zero-times a b = lin (a ∷ b ∷ []) (λ a b. # 0 ⊗ a ≐ ⊝ (# 0 ⊗ b)) tt

above : (n : ℕ) → lt_z (pos 0) (pos (suc n)) ≡ true
above n = lt_test {a = pos 0} {b = pos (suc n)} (omega zarith)

by-neg : (c x y : ℤ) → term_by (neg_ℤ c) x y ≡ neg_ℤ (term_by c y x)
unfolding term_by
by-neg (pos zero) x y = zero-times y x
by-neg (pos (suc n)) x y = rw (above n) (neg-times (pos (suc n)) y)
by-neg (negsuc n) x y = rw (above n) (neg-times (negsuc n) x)

term-neg : (d : Side) (c : ℤ) (r : Model.Range) → extreme_term d (neg_ℤ c) r ≡ neg_ℤ (extreme_term (other d) c r)
unfolding least_term greatest_term term_by
term-neg Lower c r = by-neg c r.least r.greatest
term-neg Upper c r = by-neg c r.greatest r.least

neg-sum : (a b : ℤ) → neg_ℤ a +ℤ neg_ℤ b ≡ neg_ℤ (a +ℤ b)
neg-sum a b = lin (a ∷ b ∷ []) (λ a b. ⊝ a ⊕ ⊝ b ≐ ⊝ (a ⊕ b)) tt

sum-neg : (d : Side) (cs : List ℤ) (rs : List Model.Range) → extreme_sum d (map neg_ℤ cs) rs ≡ neg_ℤ (extreme_sum (other d) cs rs)
sum-neg d [] rs = sum-none d rs ∙ ap neg_ℤ (sym (sum-none (other d) rs))
sum-neg d (c ∷ cs) [] = sum-short d (neg_ℤ c) (map neg_ℤ cs) ∙ ap neg_ℤ (sym (sum-short (other d) c cs))
sum-neg d (c ∷ cs) (r ∷ rs) = sum-cons d (neg_ℤ c) (map neg_ℤ cs) r rs ∙ ap₂ ◌+ℤ◌ (term-neg d c r) (sum-neg d cs rs)
    ∙ neg-sum (extreme_term (other d) c r) (extreme_sum (other d) cs rs) ∙ ap neg_ℤ (sym (sum-cons (other d) c cs r rs))

of-difference : (d : Side) (f g : Subscript) (rs : List Model.Range) → length f.coefficients ≡ length rs
    → extreme_sum d (difference f g).coefficients (rs ++ rs) ≡ extreme_sum d f.coefficients rs -ℤ extreme_sum (other d) g.coefficients rs
unfolding difference
of-difference d f g rs e = sum-append d f.coefficients (map neg_ℤ g.coefficients) rs rs e
    ∙ ap (extreme_sum d f.coefficients rs +ℤ◌) (sum-neg d g.coefficients rs)
    ∙ lin (extreme_sum d f.coefficients rs ∷ extreme_sum (other d) g.coefficients rs ∷ []) (λ x y. x ⊕ ⊝ y ≐ x ⊖ y) tt

-- ---- the machine's differences

module _ (w : List ℤ) (u v n : ℕ) (p : PairIn w u v n) where
  small : (j : ℕ) → size (get_or w j (pos 0)) ≤ 32767
  small j = within-at 32767 w p.first.small j

  abbrev first : ℤ
  first = get_or w (u * 8) (pos 0)

  abbrev second : ℤ
  second = get_or w (v * 8) (pos 0)

  constant-size : size (first -ℤ second) ≤ 65534
  constant-size = let a = small (u * 8) in let b = small (v * 8) in omega (arith, size-sub first second)

  module _ {c d : ℤ} (e : c ≡ first) (f : d ≡ second) where
    constants : copy c -ℤ copy d ≡ first -ℤ second
    constants = let a = small (u * 8) in let b = small (v * 8) in ap₂ (λ (x y : ℤ). copy x -ℤ copy y) e f
        ∙ rw (copied first (omega arith), copied second (omega arith))

    pub constant-fits : SFits w64 (copy c -ℤ copy d)
    constant-fits = rw constants (size_fits constant-size (omega arith))

    pub constant-is : (copy (copy c -ℤ copy d) ≡ (difference_at w n u v).constant) × (size (copy (copy c -ℤ copy d)) ≤ 65534)
    unfolding difference_at difference form_at
    constant-is = let e = back constant-fits ∙ constants in (e, rw e constant-size)

module _ (c x y : ℤ) (hc : size c ≤ 65534) (hx : size x ≤ 6442057734) (hy : size y ≤ 6442057734) where
  parts : copy x -ℤ copy y ≡ x -ℤ y
  parts = rw (copied x (omega arith), copied y (omega arith))

  parts-size : size (x -ℤ y) ≤ 12884115468
  parts-size = omega (arith, size-sub x y)

  pub parts-fit : SFits w64 (copy x -ℤ copy y)
  parts-fit = rw parts (size_fits parts-size (omega arith))

  all-parts : copy c +ℤ copy (copy x -ℤ copy y) ≡ c +ℤ (x -ℤ y)
  all-parts = rw (back parts-fit, parts, copied c (omega arith))

  all-size : size (c +ℤ (x -ℤ y)) ≤ 34359738368
  all-size = let s = parts-size in omega (arith, size-add c (x -ℤ y))

  pub all_fit : SFits w64 (copy c +ℤ copy (copy x -ℤ copy y))
  all_fit = rw all-parts (size_fits all-size (omega arith))

  pub all-is : (copy (copy c +ℤ copy (copy x -ℤ copy y)) ≡ c +ℤ (x -ℤ y)) × (size (copy (copy c +ℤ copy (copy x -ℤ copy y))) ≤ 34359738368)
  all-is = let e = back all_fit ∙ all-parts in (e, rw e all-size)

module _ (w : List ℤ) (u v n : ℕ) (b : List Range) (p : DifferenceIn w u v n b) where
  as_many : length (form_at w n u).coefficients ≡ length (ranges_of n b)
  unfolding form_at
  as_many = let c = count_of n b p.ranges in let i = p.pair.first.inside in let f = p.ranges.few in
      let l = length-take n (drop (u * 8 + 1) w) in let d = length-drop (u * 8 + 1) w in omega arith

  pub difference-is : (d : Side) {c x y r : ℤ} → c ≡ (difference_at w n u v).constant → x ≡ extreme_sum d (take n (drop (u * 8 + 1) w)) (ranges_of n b)
      → y ≡ extreme_sum (other d) (take n (drop (v * 8 + 1) w)) (ranges_of n b) → r ≡ c +ℤ (x -ℤ y)
      → r ≡ extreme_difference d w u v n (ranges_of n b)
  unfolding extreme_difference difference_at form_at
  difference-is d hc hx hy e = e ∙ rw (hc, hx, hy)
      (ap ((difference_at w n u v).constant +ℤ◌) (sym (of-difference d (form_at w n u) (form_at w n v) (ranges_of n b) as_many)))

-- ---- one dimension

pub divisor-asks : (c : ℤ) → size c ≤ 65534 → size (copy c) ≤ 34359738368
divisor-asks c h = rw (copied c (omega arith)) (omega arith)

module _ (w : List ℤ) (n u v : ℕ) (rs : List Model.Range) (g : ℕ) (c : ℤ) (t : Bool) (eg : g ≡ gcd_of (difference_at w n u v).coefficients)
    (ec : (c ≡ (difference_at w n u v).constant) × (size c ≤ 65534)) (et : t ≡ divides g (copy c)) where
  decides : divides (gcd_of (difference_at w n u v).coefficients) (difference_at w n u v).constant ≡ t
  decides = let h = ec.1 in sym (et ∙ rw (copied c (omega arith), eg, ec.0))

  pub never-divided : not t ≡ true → true ≡ never_zero (rs ++ rs) (difference_at w n u v)
  unfolding never_zero
  never-divided e = rw (ap not decides ∙ e)

  pub never-reached : not t ≡ false → (x y : ℤ) (r : Bool) → x ≡ extreme_difference Lower w u v n rs → y ≡ extreme_difference Upper w u v n rs
      → r ≡ (lt_z (pos 0) x || lt_z y (pos 0)) → r ≡ never_zero (rs ++ rs) (difference_at w n u v)
  unfolding never_zero extreme_difference
  never-reached e x y r ex ey er = er ∙ rw (ex, ey) (sym (rw (ap not decides ∙ e)))
