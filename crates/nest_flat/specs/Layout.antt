-- Arrays and accesses as flat slices, and what they stand for in the model.
-- Arrays: array_room words each, the number of dimensions and an extent for each. Accesses, in ticket order: access_room words each, 8 for each of
-- 3 dimensions (a constant, and coefficients for the n loops); and beside, for each access, the number of its array. Statements: for each the
-- number of its accesses, the written one first. A slice is as long as what it holds; words beyond a dimension or a loop say nothing.
use Rattle.std.specs.Prelude.{◌≡◌, List, [], ◌∷◌, ℕ, zero, suc, ◌+◌, ◌*◌, ◌/◌, ◌≤◌, ◌<◌, ℤ, pos, length, get_or, take, drop}
use Rattle.integers.specs.Affine.{Within}
use Rattle.model.specs.Ticket.{Subscript, Access}
use Rattle.model.specs.Grammar.{most_accesses, access_room, array_room, most_extents, most_loops, most_extent}

unfoldable pub extents_at : List ℕ → ℕ → List ℕ
extents_at a i = take (get_or a (i * array_room) 0) (drop (i * array_room + 1) a)

-- m arrays from array i on
unfoldable pub arrays_from : List ℕ → ℕ → ℕ → List (List ℕ)
arrays_from a i zero = []
arrays_from a i (suc m) = extents_at a i ∷ arrays_from a (suc i) m

-- subscript j of all
unfoldable pub form_at : List ℤ → ℕ → ℕ → Subscript
form_at w n j = record { constant = get_or w (j * 8) (pos 0); coefficients = take n (drop (j * 8 + 1) w) }

unfoldable pub forms_from : List ℤ → ℕ → ℕ → ℕ → List Subscript
forms_from w n j zero = []
forms_from w n j (suc d) = form_at w n j ∷ forms_from w n (suc j) d

-- access k of all
unfoldable pub access_at : List ℤ → List ℕ → List ℕ → ℕ → ℕ → Access
access_at w o a n k = record { array = get_or o k 0; subscripts = forms_from w n (k * 3) (get_or a (get_or o k 0 * array_room) 0) }

-- m accesses from access k on
unfoldable pub accesses_from : List ℤ → List ℕ → List ℕ → ℕ → ℕ → ℕ → List Access
accesses_from w o a n k zero = []
accesses_from w o a n k (suc m) = access_at w o a n k ∷ accesses_from w o a n (suc k) m

-- the accesses of each statement, by their numbers, from access k on
unfoldable pub bodies_from : List ℤ → List ℕ → List ℕ → ℕ → ℕ → List ℕ → List (List Access)
bodies_from w o a n k [] = []
bodies_from w o a n k (m ∷ ms) = accesses_from w o a n k m ∷ bodies_from w o a n (k + m) ms

-- all arrays of a slice
unfoldable pub arrays_of : List ℕ → List (List ℕ)
arrays_of a = arrays_from a 0 (length a / array_room)

-- array i of a slice
pub record ArrayIn (a : List ℕ) (i : ℕ) : Type 0 where
  pub few : length a ≤ most_extents
  pub there : i < length a / array_room
  pub dimensions : (j : ℕ) → j < length a / array_room → get_or a (j * array_room) 0 ≤ 3
  pub extents : (j : ℕ) → get_or a j 0 ≤ most_extent

-- what every ticket's arrays and accesses have, in a nest of n loops
pub record AccessesOk (w : List ℤ) (o a : List ℕ) (n : ℕ) : Type 0 where
  pub words : length w ≡ length o * access_room
  pub many : length o ≤ most_accesses
  pub few : length a ≤ most_extents
  pub shallow : n ≤ most_loops
  pub small : Within 32767 w
  pub dimensions : (i : ℕ) → i < length a / array_room → get_or a (i * array_room) 0 ≤ 3
  pub extents : (j : ℕ) → get_or a j 0 ≤ most_extent
  pub there : (k : ℕ) → k < length o → get_or o k 0 < length a / array_room
