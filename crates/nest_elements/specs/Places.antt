-- The place in the store of every access at every point.
use Rattle.std.specs.Prelude.{◌≡◌, false, List, map, ℕ, ◌*◌, ◌≤◌, ◌<◌, ℤ, length}
use Rattle.lists.specs.Membership.{All}
use Rattle.lists.specs.Parts.{rows}
use Rattle.model.specs.Grammar.{total, array_room, most_elements}
use Rattle.model.specs.Bounds.{violates}
use Rattle.model.specs.Machine.{element}
use Rattle.model.specs.Store.{place_of}
use Rattle.nest_flat.specs.Layout.{arrays_of, access_at, ArrayIn, AccessesOk}
use Rattle.nest_points.specs.Stored.{RowsIn}

-- the arrays before array i of a slice, which may be all
pub record BaseIn (a : List ℕ) (i : ℕ) : Type 0 where
  pub before : (j : ℕ) → j < i → ArrayIn a j
  pub fits : total (arrays_of a) ≤ most_elements

-- all n arrays of a slice
pub record TotalIn (a : List ℕ) (n : ℕ) : Type 0 where
  pub all : length a ≡ n * array_room
  pub each : (i : ℕ) → i < n → ArrayIn a i
  pub fits : total (arrays_of a) ≤ most_elements

-- the place of access k of all at a point
unfoldable pub place_at : List ℤ → List ℕ → List ℕ → ℕ → ℕ → List ℤ → ℕ
place_at w o a n k p = place_of (arrays_of a) (element p (access_at w o a n k))

-- the places of access k at all points
unfoldable pub places_of : List ℤ → List ℕ → List ℕ → ℕ → List (List ℤ) → ℕ → List ℕ
places_of w o a n ps k = map (place_at w o a n k) ps

-- stored points at which no access leaves its array, and room
pub record NumberIn (w : List ℤ) (o a : List ℕ) (points : List ℤ) (depth count room : ℕ) : Type 0 where
  pub accesses : AccessesOk w o a depth
  pub stored : RowsIn points depth count
  pub inside : (k : ℕ) → k < length o → All (λ p. violates (arrays_of a) p (access_at w o a depth k) ≡ false) (rows depth count points)
  pub fits : total (arrays_of a) ≤ most_elements
  pub space : length o * count ≤ room
