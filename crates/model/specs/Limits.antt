-- What a step makes of the limits and the subscripts. Place a is that of the loop the step names; a limit has a coefficient for each loop outside.
use Rattle.std.specs.Prelude.{Bool, ◌&&◌, ℕ, zero, suc, ◌*◌, ◌-◌, eqb, ℤ, pos, negsuc, neg_ℤ, ◌+ℤ◌, ◌-ℤ◌, ◌*ℤ◌, get_or, take, replicate}
use mathlib.Core.List.{List, [], ◌∷◌, ◌++◌, map, flat_map, zip_with}
use Rattle.integers.specs.Sign.{eq_z}
use Rattle.lists.specs.Place.{under, on_head, swapped, swap_all}
use Rattle.lists.specs.Tests.{same_by, unique}
use Rattle.model.specs.Ticket.{Limit, Loop, Subscript, Access, Statement, Step, exchange, reversal, skew, section, circulation, Nest}
use Rattle.model.specs.Steps.{chain}

-- deeper loops change their coefficients alone
unfoldable pub on_coefficients : (List ℤ → List ℤ) → Limit → Limit
on_coefficients g l = record { multiplier = l.multiplier; constant = l.constant; coefficients = g l.coefficients }

unfoldable pub on_limits : (Limit → Limit) → Loop → Loop
on_limits f L = record { lower = map f L.lower; upper = map f L.upper }

unfoldable pub deeper : (List ℤ → List ℤ) → List Loop → List Loop
deeper g N = map (on_limits (on_coefficients g)) N

-- ---- reversal: the two lists trade sides, and in them every constant and coefficient changes sign

unfoldable pub negated : Limit → Limit
negated l = record { multiplier = l.multiplier; constant = neg_ℤ l.constant; coefficients = map neg_ℤ l.coefficients }

unfoldable pub reverse_at : ℕ → List Loop → List Loop
reverse_at a [] = []
reverse_at a (L ∷ N) = record { lower = map negated L.upper; upper = map negated L.lower } ∷ deeper (under a (on_head neg_ℤ)) N

-- ---- skew: old b = new b − c × a, substituted everywhere

-- what b's coefficient k gives to a's: k b is k (new b) − k c a
unfoldable pub skew_coefficients : ℕ → ℤ → List ℤ → List ℤ
skew_coefficients d c [] = []
skew_coefficients d c (x ∷ xs) = (x -ℤ (c *ℤ (get_or xs d (pos 0)))) ∷ xs

-- in b's own limits p b is p (new b) − p c a, and p c a moves across
unfoldable pub skew_limit : ℕ → ℤ → Limit → Limit
skew_limit a c l = record {
  multiplier = l.multiplier;
  constant = l.constant;
  coefficients = under a (on_head (λ x. x +ℤ (c *ℤ (pos l.multiplier)))) l.coefficients;
}

unfoldable pub skew_inner : ℕ → ℕ → ℤ → List Loop → List Loop
skew_inner a d c [] = []
skew_inner a d c (L ∷ N) = on_limits (skew_limit a c) L ∷ deeper (under a (skew_coefficients d c)) N

unfoldable pub skew_at : ℕ → ℕ → ℤ → List Loop → List Loop
skew_at a d c [] = []
skew_at a d c (L ∷ N) = L ∷ under d (skew_inner a d c) N

-- ---- section: index = w × S + E

-- p w S ≥ e − p (w − 1) and p w S ≤ e
unfoldable pub section_lower : ℕ → Limit → Limit
section_lower w l = record {
  multiplier = l.multiplier * w;
  constant = l.constant -ℤ pos l.multiplier *ℤ pos (w - 1);
  coefficients = l.coefficients;
}

unfoldable pub section_upper : ℕ → Limit → Limit
section_upper w l = record { multiplier = l.multiplier * w; constant = l.constant; coefficients = l.coefficients }

-- E gets each old limit with w × S moved across
unfoldable pub element_limit : ℕ → Limit → Limit
element_limit w l = record {
  multiplier = l.multiplier;
  constant = l.constant;
  coefficients = l.coefficients ++ (neg_ℤ (pos l.multiplier *ℤ pos w) ∷ []);
}

unfoldable pub constant_limit : ℕ → ℕ → Limit
constant_limit a n = record { multiplier = 1; constant = pos n; coefficients = replicate (suc a) (pos 0) }

-- a coefficient k of the index becomes k w on S and k on E
unfoldable pub split_coefficients : ℕ → List ℤ → List ℤ
split_coefficients w [] = []
split_coefficients w (x ∷ xs) = (x *ℤ pos w) ∷ x ∷ xs

unfoldable pub section_at : ℕ → ℕ → List Loop → List Loop
section_at a w [] = []
section_at a w (L ∷ N) =
    record { lower = map (section_lower w) L.lower; upper = map (section_upper w) L.upper }
    ∷ record { lower = constant_limit a 0 ∷ map (element_limit w) L.lower; upper = constant_limit a (w - 1) ∷ map (element_limit w) L.upper }
    ∷ deeper (under a (split_coefficients w)) N

-- ---- exchange of I outside J

-- the coefficient of I in a J limit
unfoldable pub outer_coefficient : ℕ → Limit → ℤ
outer_coefficient a l = get_or l.coefficients a (pos 0)

-- a J limit without I
unfoldable pub kept : ℕ → Limit → Limit
kept a l = record { multiplier = l.multiplier; constant = l.constant; coefficients = take a l.coefficients }

-- p J against e' + c I, and q I against f: p q J against q e' + c f
unfoldable pub combined : ℕ → ℤ → Limit → Limit → Limit
combined a c l m = record {
  multiplier = l.multiplier * m.multiplier;
  constant = pos m.multiplier *ℤ l.constant +ℤ c *ℤ m.constant;
  coefficients = zip_with (λ x y. pos m.multiplier *ℤ x +ℤ c *ℤ y) (take a l.coefficients) m.coefficients;
}

-- J keeps a limit with c = 0; every other is combined with each limit of I on the same side as J's if c > 0, on the other if c < 0
unfoldable pub outer_part : ℕ → List Limit → List Limit → ℤ → Limit → List Limit
outer_part a same other (pos zero) l = kept a l ∷ []
outer_part a same other (pos (suc n)) l = map (combined a (pos (suc n)) l) same
outer_part a same other (negsuc n) l = map (combined a (negsuc n) l) other

unfoldable pub new_outer : ℕ → Loop → Loop → Loop
new_outer a I J = record {
  lower = flat_map (λ l. outer_part a I.lower I.upper (outer_coefficient a l) l) J.lower;
  upper = flat_map (λ l. outer_part a I.upper I.lower (outer_coefficient a l) l) J.upper;
}

-- a J limit solved for |c| × I: p J ≥ e' + c I with c > 0 is c I ≤ p J − e', with c < 0 it is |c| I ≥ e' − p J; and so for p J ≤ e' + c I
unfoldable pub solved_positive : ℕ → ℕ → Limit → Limit
solved_positive a n l = record {
  multiplier = n;
  constant = neg_ℤ l.constant;
  coefficients = map neg_ℤ (take a l.coefficients) ++ (pos l.multiplier ∷ []);
}

unfoldable pub solved_negative : ℕ → ℕ → Limit → Limit
solved_negative a n l = record {
  multiplier = n;
  constant = l.constant;
  coefficients = take a l.coefficients ++ (neg_ℤ (pos l.multiplier) ∷ []);
}

unfoldable pub when_positive : ℕ → ℤ → Limit → List Limit
when_positive a (pos zero) l = []
when_positive a (pos (suc n)) l = solved_positive a (suc n) l ∷ []
when_positive a (negsuc n) l = []

unfoldable pub when_negative : ℕ → ℤ → Limit → List Limit
when_negative a (pos n) l = []
when_negative a (negsuc n) l = solved_negative a (suc n) l ∷ []

-- an I limit, with no coefficient of J
unfoldable pub widened : Limit → Limit
widened l = record { multiplier = l.multiplier; constant = l.constant; coefficients = l.coefficients ++ (pos 0 ∷ []) }

-- I keeps its limits, then takes each J limit with c ≠ 0, lower ones first
unfoldable pub new_inner : ℕ → Loop → Loop → Loop
new_inner a I J = record {
  lower = map widened I.lower
      ++ (flat_map (λ l. when_negative a (outer_coefficient a l) l) J.lower ++ flat_map (λ l. when_positive a (outer_coefficient a l) l) J.upper);
  upper = map widened I.upper
      ++ (flat_map (λ l. when_positive a (outer_coefficient a l) l) J.lower ++ flat_map (λ l. when_negative a (outer_coefficient a l) l) J.upper);
}

unfoldable pub same_limit : Limit → Limit → Bool
same_limit l m = eqb l.multiplier m.multiplier && (eq_z l.constant m.constant && same_by eq_z l.coefficients m.coefficients)

-- a limit equal to an earlier one in every number is dropped
unfoldable pub deduplicated : Loop → Loop
deduplicated L = record { lower = unique same_limit L.lower; upper = unique same_limit L.upper }

unfoldable pub exchange_at : ℕ → List Loop → List Loop
exchange_at a [] = []
exchange_at a (I ∷ []) = I ∷ []
exchange_at a (I ∷ J ∷ N) = deduplicated (new_outer a I J) ∷ deduplicated (new_inner a I J) ∷ deeper (under a swapped) N

-- ---- circulation: neighbours exchanged at each of these places, one after another

unfoldable pub exchange_all : List ℕ → List Loop → List Loop
exchange_all [] N = N
exchange_all (k ∷ ks) N = exchange_all ks (under k (exchange_at k) N)

-- ---- any step

unfoldable pub loops_after : Step → List Loop → List Loop
loops_after (exchange a) N = under a (exchange_at a) N
loops_after (reversal a) N = under a (reverse_at a) N
loops_after (skew a d c) N = under a (skew_at a d c) N
loops_after (section a w) N = under a (section_at a w) N
loops_after (circulation a b) N = exchange_all (chain a b) N

unfoldable pub coefficients_after : Step → List ℤ → List ℤ
coefficients_after (exchange a) cs = under a swapped cs
coefficients_after (reversal a) cs = under a (on_head neg_ℤ) cs
coefficients_after (skew a d c) cs = under a (skew_coefficients d c) cs
coefficients_after (section a w) cs = under a (split_coefficients w) cs
coefficients_after (circulation a b) cs = swap_all (chain a b) cs

unfoldable pub subscript_after : Step → Subscript → Subscript
subscript_after t s = record { constant = s.constant; coefficients = coefficients_after t s.coefficients }

unfoldable pub access_after : Step → Access → Access
access_after t a = record { array = a.array; subscripts = map (subscript_after t) a.subscripts }

unfoldable pub statement_after : Step → Statement → Statement
statement_after t s = record {
  rule = s.rule;
  constant = s.constant;
  writes = map (access_after t) s.writes;
  reads = map (access_after t) s.reads;
}

unfoldable pub nest_after : Step → Nest → Nest
nest_after t N = record { loops = loops_after t N.loops; arrays = N.arrays; statements = map (statement_after t) N.statements }

unfoldable pub nest_after_all : List Step → Nest → Nest
nest_after_all [] N = N
nest_after_all (t ∷ ts) N = nest_after_all ts (nest_after t N)
