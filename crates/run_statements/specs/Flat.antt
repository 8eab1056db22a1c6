-- The run by numbers: the place in the store of access k at point x, of `count` points, is number `count` k + x. A statement has a size (the
-- number of its accesses, the written one first), a rule and a constant. Then where the arrays begin, and what each function asks.
use Rattle.std.specs.Prelude.{◌≡◌, ℕ, zero, suc, ◌+◌, ◌-◌, ◌*◌, ◌^◌, ◌<◌, ◌≤◌, List, [], ◌∷◌, length, slice_index, slice_set}
use Rattle.model.specs.Store.{base, sum, make}
use Rattle.model.specs.Grammar.{most_statements, most_accesses}
use Rattle.nest_flat.specs.Layout.{arrays_of}

-- ---- the run

abbrev pub number_at : List ℕ → ℕ → ℕ → ℕ → ℕ
number_at numbers count k x = slice_index numbers (k * count + x)

-- the words of n accesses, from access k on
unfoldable pub fetched : List ℕ → ℕ → ℕ → List ℕ → ℕ → ℕ → List ℕ
fetched numbers count x w k zero = []
fetched numbers count x w k (suc n) = slice_index w (number_at numbers count k x) ∷ fetched numbers count x w (suc k) n

-- a statement that writes access k and reads the n after it
unfoldable pub performed : List ℕ → ℕ → ℕ → ℕ → ℕ → ℕ → ℕ → List ℕ → List ℕ
performed numbers count x rule constant k n w = slice_set w (number_at numbers count k x) (make rule constant (fetched numbers count x w (suc k) n))

-- the statements of these sizes, from access k and statement i on, at point x
unfoldable pub body_from : List ℕ → List ℕ → List ℕ → ℕ → ℕ → ℕ → ℕ → List ℕ → List ℕ → List ℕ
body_from rules constants numbers count x k i [] w = w
body_from rules constants numbers count x k i (m ∷ ms) w =
    body_from rules constants numbers count x (k + m) (suc i) ms (performed numbers count x (slice_index rules i) (slice_index constants i) k (m - 1) w)

-- n points from point x on
unfoldable pub points_from : List ℕ → List ℕ → List ℕ → List ℕ → ℕ → ℕ → ℕ → List ℕ → List ℕ
points_from rules constants sizes numbers count x zero w = w
points_from rules constants sizes numbers count x (suc n) w = points_from rules constants sizes numbers count (suc x) n
    (body_from rules constants numbers count x 0 0 sizes w)

-- ---- where the arrays begin

-- of the first n arrays, array i at number i
abbrev pub BasesAre : List ℕ → ℕ → List ℕ → Type 0
BasesAre a n bases = (i : ℕ) → i < n → slice_index bases i ≡ base (arrays_of a) i

-- ---- what is asked

-- n accesses from access k on, at point x, in a store of this length
pub record FetchIn (numbers : List ℕ) (count room x k n : ℕ) : Type 0 where
  pub few : k + n ≤ most_accesses
  pub point : x < count
  pub numbered : (k + n) * count ≤ length numbers
  pub inside : (j : ℕ) → j < k + n → number_at numbers count j x < room

-- all accesses at point x: each has its place in the store, not before its array, which begins at its base
pub record PointIn (o bases numbers : List ℕ) (count room x : ℕ) : Type 0 where
  pub few : length o ≤ most_accesses
  pub point : x < count
  pub numbered : length o * count ≤ length numbers
  pub inside : (k : ℕ) → k < length o → number_at numbers count k x < room
  pub arrays : (k : ℕ) → k < length o → slice_index o k < length bases
  pub begins : (k : ℕ) → k < length o → slice_index bases (slice_index o k) ≤ number_at numbers count k x

-- the statements share out the accesses
pub record BodyIn (o sizes rules constants : List ℕ) : Type 0 where
  pub all-accesses : sum sizes ≤ length o
  pub each : (i : ℕ) → i < length sizes → 1 ≤ slice_index sizes i
  pub few : length sizes ≤ most_statements
  pub some-rules : length sizes ≤ length rules
  pub some-constants : length sizes ≤ length constants
  pub words : (i : ℕ) → i < length sizes → slice_index constants i < 2 ^ 32
