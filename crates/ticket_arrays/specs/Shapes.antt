-- An array of so many dimensions, with these extents and so many elements.
use Rattle.std.specs.Prelude.{◌≡◌, List, ℕ, ◌≤◌, length, take}
use Rattle.model.specs.Grammar as Grammar
use Rattle.model.specs.Grammar.{most_dimensions}

pub record ShapeIn (dimensions : ℕ) (extents : List ℕ) (elements : ℕ) : Type 0 where
  pub few : dimensions ≤ most_dimensions
  pub room : length extents ≡ most_dimensions
  pub total : elements ≡ Grammar.elements (take dimensions extents)
  -- 4096 × 4096 × 4096
  pub bounded : elements ≤ 68719476736
