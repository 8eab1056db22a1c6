-- `read_steps`: k steps are read, and the next is reached with so many loops.
use mathlib.Core.Path.{◌≡◌}
use mathlib.Core.List.{List, map}
use Prim.Native.Nat.{ℕ, ◌+◌, ◌-◌, ◌≤◌}
use lib.ListN.{length, take}
use Rattle.model.specs.Ticket as Model
use Rattle.model.specs.Grammar.{steps_from}
use Rattle.step_kinds.specs.Kinds.{step_of}
use Rattle.ticket_words.specs.declared.Words.{Words}
use Rattle.ticket_words.proofs.ReaderLaws.{repeated, Underway}
use Rattle.ticket_steps.specs.Steps.{NumberedFrom}
use Rattle.ticket_steps.specs.declared.Numbered.{Numbered}
use Rattle.ticket_steps.proofs.StepLaws.{reads_one, after}
use Rattle.ticket_steps.proofs.read_steps.Given as goal

abbrev pub taken : ℕ → List Numbered → List Model.Step
taken k l = map (λ (x : Numbered). step_of x.step) (take k l)

pub record Inv (o e : Words) (depth count : ℕ) (l : List Numbered) (loops k : ℕ) : Type 0 where
  pub six : loops ≤ 6
  pub eight : length l ≡ 8
  pub numbered : NumberedFrom 1 (take k l)
  pub underway : Underway (steps_from 1 depth count) o (taken k l) (repeated reads_one after (count - k) (k + 1, loops)) e

abbrev pub invariant-loop-k : goal.invariant-loop-k
invariant-loop-k l = Inv l.initial.words l.words l.depth l.count l.steps l.loops l.k
