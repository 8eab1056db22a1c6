-- What `run_at_points` does, and asks: a flat nest, and the places of its accesses at the points as `number_accesses` writes them.
use Rattle.std.specs.Prelude.{◌≡◌, ℕ, ◌^◌, ◌<◌, ◌≤◌, List, length, ℤ, slice_index}
use Rattle.model.specs.Ticket.{Nest}
use Rattle.model.specs.Grammar.{total, most_points}
use Rattle.model.specs.Machine.{instances, run}
use Rattle.model.specs.Store.{perform_on}
use Rattle.nest_flat.specs.FlatNests.{FlatNest, nest_of, FlatNestIn}
use Rattle.nest_elements.specs.Nests.{NumbersAre}

-- a nest at these points, one after the other; at its iterations it is `run_nest`
unfoldable pub run_at : Nest → List (List ℤ) → List ℕ → List ℕ
run_at N ps w = run (perform_on N.arrays N.statements) (instances (length N.statements) ps) w

pub record RunIn (P : FlatNest) (points : List ℤ) (count : ℕ) (numbers : List ℕ) (room : ℕ) : Type 0 where
  pub flat-nest : FlatNestIn P
  pub few : count ≤ most_points
  pub places : NumbersAre P points count numbers
  pub words : (i : ℕ) → i < P.statements → slice_index P.constants i < 2 ^ 32
  pub whole : room ≡ total (nest_of P).arrays
