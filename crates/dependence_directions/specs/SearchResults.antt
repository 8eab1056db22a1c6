-- What is found of a nest that passes refusals 7 and 8: refusal 9, or its lines, or its directions.
use Rattle.std.specs.Prelude.{◌≡◌, Bool, false, List, ℕ, length, get_or, Result, Ok}
use Rattle.model.specs.Directions.{vector_count}
use Rattle.ticket_refusals.specs.declared.Refusal.{Refusal}
use Rattle.nest_flat.specs.FlatNests.{FlatNest}
use Rattle.dependence_marks.specs.Lines.{LinesAre, DirectionsAre}
use Rattle.nest_admission.specs.Admission.{Admits, PointsCounted}
use Rattle.dependence_bounds.specs.KnownLines.{Room}

-- a nest of n points, and marks that are all clear
pub record FindIn (P : FlatNest) (n : ℕ) (m : List Bool) : Type 0 where
  pub points-counted : PointsCounted P n
  pub clear : (j : ℕ) → get_or m j false ≡ false
  pub room : Room P m

-- refusal 9, or the nest's lines are those that are marked
pub record Finds (P : FlatNest) (r : Result (Unit {0}) Refusal) (m : List Bool) : Type 0 where
  pub admits : Admits P r
  pub lines : r ≡ Ok tt → LinesAre P m

-- refusal 9, or the set has the vectors of the nest's directions
pub record Directs (P : FlatNest) (r : Result (Unit {0}) Refusal) (set : List Bool) : Type 0 where
  pub room : length set ≡ vector_count
  pub admits : Admits P r
  pub directions : r ≡ Ok tt → DirectionsAre P set
