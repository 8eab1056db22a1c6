-- What the run asks of a flat nest, for all its points and for a part of them.
use Rattle.std.specs.Prelude.{◌≡◌, List, ℕ, ◌≤◌, ℤ, length}
use Rattle.lists.specs.Membership.{Mem, All}
use Rattle.lists.specs.Parts.{rows}
use Rattle.model.specs.Answer.{accepted}
use Rattle.model.specs.Ticket.{Statement, Nest}
use Rattle.model.specs.Grammar.{total, most_points}
use Rattle.model.specs.Points.{iterations}
use Rattle.model.specs.Bounds.{new_space, in_arrays}
use Rattle.model.specs.Shape.{WellFormed}
use Rattle.nest_points.specs.Stored.{RowsIn}
use Rattle.nest_flat.specs.FlatNests.{FlatNest, nest_of, FlatNestIn}

-- an accepted ticket's new nest
pub record Executable (N : Nest) : Type 0 where
  pub formed : WellFormed N
  pub new-space-accepted : new_space N.loops ≡ accepted tt
  pub few : length (iterations N.loops) ≤ most_points
  pub inside : in_arrays N.arrays (iterations N.loops) 1 N.statements ≡ accepted tt
  pub constants : All (λ (s : Statement). s.constant ≤ 32767) N.statements

-- in its flat form, with the number of its iterations, and a store of `room` words
pub record ExecuteIn (P : FlatNest) (count room : ℕ) : Type 0 where
  pub flat-nest : FlatNestIn P
  pub nest : Executable (nest_of P)
  pub counted : count ≡ length (iterations (nest_of P).loops)
  pub whole : room ≡ total (nest_of P).arrays

-- n points of its nest, stored row by row
pub record PartIn (P : FlatNest) (points : List ℤ) (n room : ℕ) : Type 0 where
  pub flat-nest : FlatNestIn P
  pub nest : Executable (nest_of P)
  pub stored : RowsIn points P.depth n
  pub reached : All (λ p. Mem p (iterations (nest_of P).loops)) (rows P.depth n points)
  pub whole : room ≡ total (nest_of P).arrays
