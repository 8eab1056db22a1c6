-- What a set of marks stands for, and what the functions on sets ask and give. Loops are counted from 0.
use Rattle.std.specs.Prelude.{◌≡◌, Bool, List, [], ◌++◌, ℕ, ◌≤◌, length}
use Rattle.integers.specs.Sign.{Sign}
use Rattle.lists.specs.Membership.{SameMembers}
use Rattle.lists.specs.Tests.{select}
use Rattle.model.specs.Ticket as Model
use Rattle.model.specs.Grammar.{depth_after, most_loops}
use Rattle.model.specs.Ranges.{StepThere}
use Rattle.model.specs.Directions.{sign_vectors, vector_count}
use Rattle.model.specs.Steps.{vectors_after}
use Rattle.step_kinds.specs.Kinds.{step_of}
use Rattle.step_kinds.specs.declared.Step.{Step}
use Rattle.step_preimages.specs.Numbers.{marked}
use Rattle.step_directions.specs.declared.DirectionSet.{DirectionSet}

-- the vectors of d signs that are marked
unfoldable pub vectors_in : List Bool → ℕ → List (List Sign)
vectors_in marks d = select (marked marks) (sign_vectors d)

abbrev pub vectors_of : DirectionSet → List (List Sign)
vectors_of s = vectors_in s.marks s.depth

-- ---- what a step asks: a nest of at most six loops that has the loops named

pub record DirectionIn (s : DirectionSet) (t : Step) : Type 0 where
  pub few : s.depth ≤ most_loops
  pub there : StepThere s.depth (step_of t)

-- ---- and what it gives

-- r is the set after step t of s
pub record After (t : Model.Step) (s r : DirectionSet) : Type 0 where
  pub depth : r.depth ≡ depth_after t s.depth
  pub vectors : SameMembers (vectors_of r) (vectors_after t (vectors_of s))

-- ---- how a set is made

pub record Empty (d : ℕ) (r : DirectionSet) : Type 0 where
  pub depth : r.depth ≡ d
  pub vectors : vectors_of r ≡ []

-- ---- marks that are lent

pub record MarksIn (marks : List Bool) (d : ℕ) : Type 0 where
  pub room : length marks ≡ vector_count
  pub few : d ≤ most_loops

pub record Cleared (d : ℕ) (new : List Bool) : Type 0 where
  pub room : length new ≡ vector_count
  pub vectors : vectors_in new d ≡ []

-- the vectors of other marks added
pub record Merged (row : List Bool) (d : ℕ) (old new : List Bool) : Type 0 where
  pub room : length new ≡ vector_count
  pub vectors : SameMembers (vectors_in new d) (vectors_in old d ++ vectors_in row d)
