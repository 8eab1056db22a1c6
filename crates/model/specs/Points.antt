-- The points of a nest: every loop runs upwards by 1 from its largest lower to its smallest upper limit, rounded up and down.
use Rattle.std.specs.Prelude.{cond, ℕ, zero, suc, ℤ, pos, negsuc, ◌+ℤ◌, ◌-ℤ◌, take}
use mathlib.Core.List.{List, [], ◌∷◌, ◌++◌, map, flat_map}
use Rattle.std.specs.Int.Signed.{lt_z}
use Rattle.integers.specs.Division.{floor_div, ceil_div}
use Rattle.integers.specs.Affine.{affine}
use Rattle.model.specs.Ticket.{Limit, Loop}

unfoldable pub max_z : ℤ → ℤ → ℤ
max_z a b = cond (lt_z b a) a b

unfoldable pub min_z : ℤ → ℤ → ℤ
min_z a b = cond (lt_z a b) a b

-- the largest and the smallest of a list; a side of a loop has a limit
unfoldable pub largest : List ℤ → ℤ
largest [] = pos 0
largest (x ∷ []) = x
largest (x ∷ y ∷ l) = max_z x (largest (y ∷ l))

unfoldable pub smallest : List ℤ → ℤ
smallest [] = pos 0
smallest (x ∷ []) = x
smallest (x ∷ y ∷ l) = min_z x (smallest (y ∷ l))

-- e: the constant, and the coefficients times the indices of the loops outside
unfoldable pub value : Limit → List ℤ → ℤ
value l outer = affine l.constant l.coefficients outer

unfoldable pub first_index : Loop → List ℤ → ℤ
first_index L outer = largest (map (λ l. ceil_div (value l outer) (pos l.multiplier)) L.lower)

unfoldable pub last_index : Loop → List ℤ → ℤ
last_index L outer = smallest (map (λ l. floor_div (value l outer) (pos l.multiplier)) L.upper)

-- how many numbers from a to a + d
unfoldable pub span : ℤ → ℕ
span (pos n) = suc n
span (negsuc n) = zero

-- a, a + 1, .. (n of them)
unfoldable pub ints : ℤ → ℕ → List ℤ
ints a zero = []
ints a (suc n) = a ∷ ints (a +ℤ pos 1) n

unfoldable pub indices : Loop → List ℤ → List ℤ
indices L outer = ints (first_index L outer) (span (last_index L outer -ℤ first_index L outer))

-- the indices that go on from those outside, by rising first index, then second and so on
unfoldable pub points : List Loop → List ℤ → List (List ℤ)
unfolding flat_map
points [] outer = [] ∷ []
points (L ∷ N) outer = flat_map (λ i. map (λ y. i ∷ y) (points N (outer ++ (i ∷ [])))) (indices L outer)

-- a partial point of depth k is a choice of the first k indices within their limits
unfoldable pub partial_points : ℕ → List Loop → List (List ℤ)
partial_points k N = points (take k N) []

-- an iteration is a partial point of full depth
unfoldable pub iterations : List Loop → List (List ℤ)
iterations N = points N []
