-- `read_shape`: k extents are read; the product is that of the extents so far.
use mathlib.Core.Path.{◌≡◌}
use mathlib.Core.List.{List}
use Prim.Native.Nat.{ℕ, ◌-◌, ◌≤◌}
use lib.ListN.{length, take}
use Rattle.model.specs.Grammar as Grammar
use Rattle.model.specs.Grammar.{natural, times}
use Rattle.ticket_words.specs.declared.Words.{Words}
use Rattle.ticket_words.proofs.ReaderLaws.{Underway}
use Rattle.ticket_arrays.proofs.ArrayLaws.{most}
use Rattle.ticket_arrays.proofs.read_shape.Given as goal

pub record Inv (o e : Words) (dimensions : ℕ) (extents : List ℕ) (elements k : ℕ) : Type 0 where
  pub all : length extents ≡ dimensions
  pub total : elements ≡ Grammar.elements (take k extents)
  pub bounded : elements ≤ most k
  pub underway : Underway (times dimensions (natural 1 4096)) o (take k extents) (times (dimensions - k) (natural 1 4096)) e

abbrev pub invariant-loop-extent : goal.invariant-loop-extent
invariant-loop-extent l = Inv l.initial.words l.words l.dimensions l.extent-items l.elements l.extent-index
