-- What the survey and the list of the points give of a flat nest, in terms of the nest that it stands for.
use Rattle.std.specs.Prelude.{◌≡◌, List, [], ℕ, ◌*◌, ◌≤◌, ℤ, length, Result, Ok}
use Rattle.lists.specs.Parts.{rows}
use Rattle.model.specs.Grammar.{most_points}
use Rattle.model.specs.Points.{iterations}
use Rattle.model.specs.Bounds.{survey}
use Rattle.nest_points.specs.Tallies.{Near}
use Rattle.nest_points.specs.Surveys as Space
use Rattle.nest_points.specs.declared.SpaceError.{SpaceError}
use Rattle.nest_points.specs.Stored.{RowsIn}
use Rattle.nest_flat.specs.FlatNests.{FlatNest, nest_of, FlatNestIn}

-- 7 and 8, or 13 and 13, with these bounds
pub record NestSurveyed (P : FlatNest) (bound most : ℕ) (r : Result ℕ SpaceError) : Type 0 where
  pub same : (far many : ℕ) → Space.answer_of far many r ≡ survey far many bound most (nest_of P).loops 1 (length (nest_of P).loops)
  pub count : (n : ℕ) → r ≡ Ok n → n ≡ length (iterations (nest_of P).loops)

-- the points of the nest can be listed
pub record ListIn (P : FlatNest) (room : ℕ) : Type 0 where
  pub flat-nest : FlatNestIn P
  pub near : Near 100000 (nest_of P).loops []
  pub few : length (iterations (nest_of P).loops) ≤ most_points
  pub fits : length (iterations (nest_of P).loops) * P.depth ≤ room

-- n points stand in the slice row by row
pub record PointsAre (P : FlatNest) (points : List ℤ) (n : ℕ) : Type 0 where
  pub count : n ≡ length (iterations (nest_of P).loops)
  pub are : rows P.depth n points ≡ iterations (nest_of P).loops
  pub stored : RowsIn points P.depth n
