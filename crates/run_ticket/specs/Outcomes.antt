-- A judged ticket: refusals 15 and 16 by what was found on its own nest, then the run of the new one.
use Rattle.std.specs.Prelude.{◌≡◌, List, ℕ, eqb, length, Option}
use Rattle.model.specs.Answer.{Answer, accepted, refused, require, ◌>>◌}
use Rattle.model.specs.Ticket.{Nest}
use Rattle.model.specs.Grammar.{total}
use Rattle.model.specs.Points.{iterations}
use Rattle.model.specs.Store.{run_nest}
use Rattle.model.specs.Entries.{Outcome}
use Rattle.nest_flat.specs.FlatNests.{FlatNest, nest_of, FlatNestIn}
use Rattle.nest_elements.specs.Nests.{opaque_at}
use Rattle.run_nest.specs.Execution.{Executable}

-- 15 before 16, where `opaque` is the first opaque statement, if there is one, and there are so many elements
unfoldable pub tested : Option ℕ → ℕ → List ℕ → Answer (Unit {0})
tested opaque elements words = opaque_at opaque >> require (eqb (length words) elements) 16 0

-- N is the new nest, `count` the number of iterations
unfoldable pub outcome : Answer (Unit {0}) → ℕ → Nest → List ℕ → Outcome
outcome (refused n p) count N words = record { answer = refused n p; memory = words }
outcome (accepted u) count N words = record { answer = accepted count; memory = run_nest N words }

-- the flat nest of an accepted ticket after its steps, the number of its elements and of its iterations
pub record RunIn (elements : ℕ) (P : FlatNest) (count : ℕ) : Type 0 where
  pub flat-nest : FlatNestIn P
  pub executable : Executable (nest_of P)
  pub all-elements : elements ≡ total (nest_of P).arrays
  pub counted : count ≡ length (iterations (nest_of P).loops)
