-- The arrays that accesses name.
use Rattle.std.specs.Prelude.{List, ℕ, ◌*◌, ◌/◌, ◌≤◌, ◌<◌, length, get_or}
use Rattle.model.specs.Grammar.{most_dimensions, array_room, most_extents, most_extent}

-- all arrays of a slice
pub record ArraysIn (e : List ℕ) : Type 0 where
  pub few : length e ≤ most_extents
  pub dimensions : (i : ℕ) → i < length e / array_room → get_or e (i * array_room) 0 ≤ most_dimensions
  pub extents : (j : ℕ) → get_or e j 0 ≤ most_extent
