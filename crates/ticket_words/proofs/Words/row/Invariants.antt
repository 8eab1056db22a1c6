-- `row`: k numbers are read.
use mathlib.Core.Path.{◌≡◌}
use mathlib.Core.List.{List}
use Prim.Native.Nat.{ℕ, ◌-◌, ◌≤◌}
use lib.IntN.{ℤ}
use lib.ListN.{length, take}
use Rattle.model.specs.Grammar.{number, times}
use Rattle.ticket_words.specs.declared.Words.{Words}
use Rattle.ticket_words.proofs.ReaderLaws.{Underway}
use Rattle.ticket_words.proofs.Words.row.Given as goal

pub record Inv (o e : Words) (n : ℕ) (row : List ℤ) (k : ℕ) : Type 0 where
  pub low : k ≤ n
  pub six : length row ≡ 6
  pub underway : Underway (times n number) o (take k row) (times (n - k) number) e

abbrev pub invariant-loop-k : goal.invariant-loop-k
invariant-loop-k l = Inv l.fn.self l.self l.n l.row l.k
