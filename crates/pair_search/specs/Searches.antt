-- The records of the pairs that trade places, as words, by the place of their source iteration; and what a search of a ticket gives of them.
use Rattle.std.specs.Prelude.{◌≡◌, ℕ, ◌+◌, ◌≤◌, ◌<◌, ℤ, pos, length, take, drop}
use mathlib.Core.List.{List, [], ◌∷◌, ◌++◌, map, flat_map}
use Rattle.lists.specs.Tests.{select}
use Rattle.model.specs.Answer.{accepted}
use Rattle.model.specs.Ticket.{Step, Nest}
use Rattle.model.specs.Points.{iterations}
use Rattle.model.specs.Bounds.{in_arrays}
use Rattle.model.specs.Machine.{accesses}
use Rattle.model.specs.Steps.{forward_all}
use Rattle.model.specs.Pairs.{trades, pairs_at, Record, record_of}
use Rattle.ticket_steps.specs.declared.Steps.{Steps}
use Rattle.ticket_admission.specs.CountedTickets.{Laid}
use Rattle.nest_flat.specs.FlatNests.{FlatNest, nest_of}
use Rattle.pair_records.specs.Windows.{batch, batch_room, Windowed}
use Rattle.pair_records.specs.declared.Walked.{Walked}

-- ---- records as words

unfoldable pub record_words_of : Record → List ℤ
record_words_of r = r.source ++ (r.sink ++ (pos r.source-statement ∷ pos r.sink-statement ∷ pos r.kind ∷ []))

-- of the pairs whose source is one of these iterations
unfoldable pub words_with : List Step → Nest → List (List ℤ) → List (List ℤ)
words_with ts N early =
    map (λ r. record_words_of (record_of r))
    (flat_map (λ p. flat_map (λ q. select (trades (forward_all ts) (accesses N.statements)) (pairs_at (length N.statements) p q))
    (iterations N.loops)) early)

-- whose source stands at place x or later
unfoldable pub words_from : List Step → Nest → ℕ → List (List ℤ)
words_from ts N x = words_with ts N (drop x (iterations N.loops))

-- whose source stands before place x
unfoldable pub words_before : List Step → Nest → ℕ → List (List ℤ)
words_before ts N x = words_with ts N (take x (iterations N.loops))

-- ---- what a search asks and gives

-- a ticket that passes 1 to 9 in its flat form, with n points; its first `step` steps, and a source from which to search
pub record SearchIn (P : FlatNest) (S : Steps) (n step from : ℕ) (found : List ℤ) : Type 0 where
  pub laid : Laid P S n
  pub inside : in_arrays (nest_of P).arrays (iterations (nest_of P).loops) 1 (nest_of P).statements ≡ accepted tt
  pub steps-there : step ≤ S.count
  pub source-there : from ≤ n
  pub room : length found ≡ batch_room

-- the records from place `from` on come by; another search may go on from the last source, before which so many of them were found
pub record Searched (ts : List Step) (N : Nest) (from skip : ℕ) (r : Walked) (found : List ℤ) : Type 0 where
  pub window : Windowed skip (words_from ts N from) r.window found
  pub first : from ≤ r.source
  pub inside : r.source ≤ length (iterations N.loops)
  pub before : r.before + length (words_before ts N from) ≡ length (words_before ts N r.source)
  -- they came by before the window was full
  pub near : r.before < skip + batch
