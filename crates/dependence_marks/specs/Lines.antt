-- The marks of a nest's lines, and the directions that they show.
use Rattle.std.specs.Prelude.{◌≡◌, Bool, false, List, map, ℕ, ◌≤◌, ℤ, length, get_or}
use Rattle.lists.specs.Membership.{SameMembers}
use Rattle.model.specs.Answer.{accepted}
use Rattle.model.specs.Points.{iterations}
use Rattle.model.specs.Bounds.{in_arrays}
use Rattle.model.specs.Shape.{WellFormed}
use Rattle.model.specs.Directions.{Line, vector_count}
use Rattle.model.specs.Judge.{directions_of}
use Rattle.model.specs.Listing.{lines_of}
use Rattle.dependence_vectors.specs.Numbers.{marks_for}
use Rattle.dependence_listing_text.specs.Text.{shown, Marks}
use Rattle.step_directions.specs.Sets.{vectors_in}
use Rattle.nest_flat.specs.FlatNests.{FlatNest, nest_of, FlatNestIn}
use Rattle.nest_elements.specs.Nests.{NestViolationIn}

-- a nest whose subscripts stay within their extents, and marks that are all clear: pair_marks for each pair of statements
pub record Markable (P : FlatNest) (marks : List Bool) : Type 0 where
  pub flat-nest : FlatNestIn P
  pub formed : WellFormed (nest_of P)
  pub inside : in_arrays (nest_of P).arrays (iterations (nest_of P).loops) 1 (nest_of P).statements ≡ accepted tt
  pub clear : (j : ℕ) → get_or marks j false ≡ false
  pub room : marks_for P.statements ≤ length marks

-- the same, and its n points
pub record LinesIn (P : FlatNest) (points : List ℤ) (n : ℕ) (marks : List Bool) : Type 0 where
  pub violation : NestViolationIn P points n
  pub formed : WellFormed (nest_of P)
  pub inside : in_arrays (nest_of P).arrays (iterations (nest_of P).loops) 1 (nest_of P).statements ≡ accepted tt
  pub clear : (j : ℕ) → get_or marks j false ≡ false
  pub room : marks_for P.statements ≤ length marks

-- the lines of the nest's listing are those that are marked
pub record LinesAre (P : FlatNest) (marks : List Bool) : Type 0 where
  pub lines : shown marks P.statements P.depth ≡ lines_of (nest_of P)
  pub marks-in : Marks marks P.statements P.depth

-- the set has the vectors of the lines that are marked, kinds and statements merged
pub record Shows (marks : List Bool) (n d : ℕ) (set : List Bool) : Type 0 where
  pub room : length set ≡ vector_count
  pub vectors : SameMembers (vectors_in set d) (map (λ (l : Line). l.vector) (shown marks n d))

-- the vectors of the nest's directions
pub record DirectionsAre (P : FlatNest) (set : List Bool) : Type 0 where
  pub room : length set ≡ vector_count
  pub vectors : SameMembers (vectors_in set P.depth) (directions_of (nest_of P))
