-- The steps: what each makes of a point, how it is undone, and what it makes of a vector of signs (Wolfe's tables).
use Rattle.std.specs.Prelude.{Bool, ℕ, zero, suc, ◌+◌, ◌-◌, ℤ, pos, neg_ℤ, ◌+ℤ◌, ◌-ℤ◌, ◌*ℤ◌}
use mathlib.Core.List.{List, [], ◌∷◌, ◌++◌, map, flat_map}
use Rattle.integers.specs.Division.{floor_div}
use Rattle.integers.specs.Sign.{Sign, less, equal, greater, sign, turned}
use Rattle.lists.specs.Place.{under, under_each, on_head, swapped, swap_all, swap_back}
use Rattle.lists.specs.Tests.{any}
use Rattle.model.specs.Ticket.{Step, exchange, reversal, skew, section, circulation}
use Rattle.model.specs.Directions.{by_sign, backwards, up_from}

-- ---- points

-- the loop d + 1 places inside: new b = old b + c × a
unfoldable pub skewed : ℕ → ℤ → List ℤ → List ℤ
skewed d c [] = []
skewed d c (x ∷ p) = x ∷ under d (on_head (λ y. y +ℤ (c *ℤ x))) p

unfoldable pub unskewed : ℕ → ℤ → List ℤ → List ℤ
unskewed d c [] = []
unskewed d c (x ∷ p) = x ∷ under d (on_head (λ y. y -ℤ (c *ℤ x))) p

-- index = w × S + E, E from 0 to w − 1
unfoldable pub sectioned : ℕ → List ℤ → List ℤ
sectioned w [] = []
sectioned w (x ∷ p) = floor_div x (pos w) ∷ (x -ℤ pos w *ℤ floor_div x (pos w)) ∷ p

unfoldable pub unsectioned : ℕ → List ℤ → List ℤ
unsectioned w [] = []
unsectioned w (s ∷ []) = s ∷ []
unsectioned w (s ∷ e ∷ p) = (pos w *ℤ s +ℤ e) ∷ p

-- k + n − 1, .., k
unfoldable pub down_to : ℕ → ℕ → List ℕ
down_to k zero = []
down_to k (suc n) = (k + n) ∷ down_to k n

-- the neighbouring exchanges that bring loop a to place b, each by the place of its outer loop
unfoldable pub chain : ℕ → ℕ → List ℕ
chain a b = up_from a (b - a) ++ down_to b (a - b)

unfoldable pub forward : Step → List ℤ → List ℤ
forward (exchange a) = under a swapped
forward (reversal a) = under a (on_head neg_ℤ)
forward (skew a d c) = under a (skewed d c)
forward (section a w) = under a (sectioned w)
forward (circulation a b) = swap_all (chain a b)

unfoldable pub undo : Step → List ℤ → List ℤ
undo (exchange a) = under a swapped
undo (reversal a) = under a (on_head neg_ℤ)
undo (skew a d c) = under a (unskewed d c)
undo (section a w) = under a (unsectioned w)
undo (circulation a b) = swap_back (chain a b)

unfoldable pub forward_all : List Step → List ℤ → List ℤ
forward_all [] p = p
forward_all (t ∷ ts) p = forward_all ts (forward t p)

-- the original iteration: the steps undone, last first
unfoldable pub undo_all : List Step → List ℤ → List ℤ
undo_all [] p = p
undo_all (t ∷ ts) p = undo t (undo_all ts p)

-- ---- vectors

unfoldable pub any_sign : List Sign
any_sign = less ∷ equal ∷ greater ∷ []

-- the signs that a sum may have: all three where it is unknown
unfoldable pub sum_signs : Sign → Sign → List Sign
sum_signs equal t = t ∷ []
sum_signs less less = less ∷ []
sum_signs less equal = less ∷ []
sum_signs less greater = any_sign
sum_signs greater less = any_sign
sum_signs greater equal = greater ∷ []
sum_signs greater greater = greater ∷ []

-- the sign at b becomes that of a sum: of the sign at b and that at a, which a negative factor turns
unfoldable pub signed_sign : ℤ → Sign → Sign
signed_sign c s = by_sign (sign (pos 0) c) s equal (turned s)

unfoldable pub head_sum : Sign → List Sign → List (List Sign)
head_sum s [] = [] ∷ []
head_sum s (t ∷ v) = map (λ r. r ∷ v) (sum_signs t s)

unfoldable pub skew_signs : ℕ → ℤ → List Sign → List (List Sign)
skew_signs d c [] = [] ∷ []
skew_signs d c (s ∷ v) = map (λ r. s ∷ r) (under_each d (head_sum (signed_sign c s)) v)

-- = becomes (=,=); < becomes (=,<) and (<, each of three); > becomes (=,>) and (>, each of three)
unfoldable pub split_sign : Sign → List (List Sign)
split_sign equal = (equal ∷ equal ∷ []) ∷ []
split_sign less = (equal ∷ less ∷ []) ∷ map (λ s. less ∷ s ∷ []) any_sign
split_sign greater = (equal ∷ greater ∷ []) ∷ map (λ s. greater ∷ s ∷ []) any_sign

unfoldable pub split_signs : List Sign → List (List Sign)
split_signs [] = [] ∷ []
split_signs (s ∷ v) = map (λ r. r ++ v) (split_sign s)

unfoldable pub vectors : Step → List Sign → List (List Sign)
vectors (exchange a) v = under a swapped v ∷ []
vectors (reversal a) v = under a (on_head turned) v ∷ []
vectors (skew a d c) v = under_each a (skew_signs d c) v
vectors (section a w) v = under_each a split_signs v
vectors (circulation a b) v = swap_all (chain a b) v ∷ []

-- the set of vectors after a step
unfoldable pub vectors_after : Step → List (List Sign) → List (List Sign)
vectors_after t vs = flat_map (vectors t) vs

-- and after all steps
unfoldable pub vectors_after_all : List Step → List (List Sign) → List (List Sign)
vectors_after_all [] vs = vs
vectors_after_all (t ∷ ts) vs = vectors_after_all ts (vectors_after t vs)

unfoldable pub some_points_back : List (List Sign) → Bool
some_points_back vs = any backwards vs
