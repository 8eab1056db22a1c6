-- Which two instances trade places at a step that is refused with 10, and the tool that says so: records of all such pairs in a lent list.
use Rattle.std.specs.Prelude.{Bool, cond, ◌&&◌, ℕ, suc, eqb, ℤ, pos, length, take, drop, replicate}
use mathlib.Core.List.{List, [], ◌∷◌, ◌++◌, map, flat_map}
use Rattle.lists.specs.Tests.{select}
use Rattle.model.specs.Answer.{Answer, accepted, refused}
use Rattle.model.specs.Ticket.{Step, Nest, Ticket}
use Rattle.model.specs.Grammar.{decode, ticket_loops}
use Rattle.model.specs.Points.{iterations}
use Rattle.model.specs.Machine.{Instance, Accesses, accesses}
use Rattle.model.specs.Directions.{earlier, Kind, kinds, conflict_of, comes_first, up_from}
use Rattle.model.specs.Steps.{forward_all}
use Rattle.model.specs.Judge.{admit_of}
use Rattle.model.specs.Listing.{letter}
use Rattle.model.specs.Entries.{judge_of}

-- ---- pairs

-- two instances, and one kind of their conflict
pub record Pair : Type 0 where
  pub source : Instance
  pub sink : Instance
  pub kind : Kind

-- the source comes first in the old order, and the sink where f takes them
unfoldable pub trades : (List ℤ → List ℤ) → Accesses → Pair → Bool
trades f A r =
    comes_first r.source r.sink
    && (conflict_of r.kind A r.source r.sink && earlier (f r.sink.iteration) (f r.source.iteration))

-- all that two iterations could have, with n statements: by source statement, sink statement, kind F A O
unfoldable pub pairs_at : ℕ → List ℤ → List ℤ → List Pair
pairs_at n p q =
    flat_map (λ s.
    flat_map (λ t.
    map (λ k. record { source = record { statement = s; iteration = p }; sink = record { statement = t; iteration = q }; kind = k }) kinds)
    (up_from 0 n)) (up_from 0 n)

-- all that there could be: by source iteration, then sink iteration
unfoldable pub all_pairs : ℕ → List (List ℤ) → List Pair
all_pairs n ps = flat_map (λ p. flat_map (pairs_at n p) ps) ps

-- those that have traded places after the steps
unfoldable pub traded : List Step → Nest → List Pair
traded ts N = select (trades (forward_all ts) (accesses N.statements)) (all_pairs (length N.statements) (iterations N.loops))

-- ---- records: both iterations, with 0 for loops that are not there; both statements, from 1; the kind's letter

pub record Record : Type 0 where
  pub source : List ℤ
  pub sink : List ℤ
  pub source-statement : ℕ
  pub sink-statement : ℕ
  pub kind : ℕ

-- the indices of the loops that a ticket may have
unfoldable pub indices_in : List ℤ → List ℤ
indices_in p = take ticket_loops (p ++ replicate ticket_loops (pos 0))

unfoldable pub record_of : Pair → Record
record_of r = record {
  source = indices_in r.source.iteration;
  sink = indices_in r.sink.iteration;
  source-statement = suc r.source.statement;
  sink-statement = suc r.sink.statement;
  kind = letter r.kind;
}

-- as many as the list has are filled; those beyond the records found keep their contents
unfoldable pub fill : {A : Type 0} → List A → List A → List A
fill rs list = take (length list) rs ++ drop (length rs) list

-- ---- the tool

pub data Reason : Type 0 where
  -- the judge's answer, which is no 10
  verdict : Answer ℕ → Reason
  -- 10 at this step by the table alone: no pair trades places
  table_alone : ℕ → Reason
  -- 10 at this step, and so many records
  pairs : ℕ → ℕ → Reason

-- the answer, and what the lent list holds in the end
pub record Reasoned : Type 0 where
  pub answer : Reason
  pub list : List Record

-- 10 at step k, for which these records were found
unfoldable pub explain : ℕ → List Record → List Record → Reasoned
explain k [] list = record { answer = table_alone k; list = list }
explain k (r ∷ rs) list = record { answer = pairs k (length (r ∷ rs)); list = fill (r ∷ rs) list }

-- of an admitted ticket, after its first k steps
unfoldable pub traded_at : Answer Ticket → ℕ → List Pair
traded_at (accepted T) k = traded (take k T.steps) T.nest
traded_at (refused n p) k = []

-- by what judge answers, and the records of each step
unfoldable pub explain_ten : Answer ℕ → (ℕ → List Record) → List Record → Reasoned
explain_ten (accepted n) found list = record { answer = verdict (accepted n); list = list }
explain_ten (refused n p) found list = cond (eqb n 10) (explain p (found p) list) (record { answer = verdict (refused n p); list = list })

-- of what was decoded
unfoldable pub reason_of : Answer Ticket → List Record → Reasoned
reason_of d list = explain_ten (judge_of d) (λ k. map record_of (traded_at (admit_of d) k)) list

-- of a ticket's bytes
abbrev pub reason : List ℕ → List Record → Reasoned
reason bytes list = reason_of (decode bytes) list
