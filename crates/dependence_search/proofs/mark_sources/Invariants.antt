-- `mark_sources`. The loop's invariant: the marks of all sources before a are set.
use mathlib.Core.Path.{◌≡◌}
use Prim.Native.Nat.{◌≤◌}
use lib.ListN.{length}
use Rattle.dependence_search.specs.Flat.{set_from, Lent}
use Rattle.dependence_search.specs.Nests.{flat_of}
use Rattle.dependence_pair_search.proofs.SomeLaws.{Gathered}
use Rattle.dependence_search.proofs.mark_sources.Given as goal

abbrev pub invariant-loop-a : goal.invariant-loop-a
invariant-loop-a l = (l.a ≤ length l.nest.statements.now) × (length l.marks ≡ length l.initial.marks)
    × Gathered l.initial.marks l.marks l.a (set_from (flat_of l.nest))
    × (length l.next ≡ length l.initial.next) × (length l.head ≡ length l.initial.head) × (length l.start ≡ length l.initial.start)
    × Lent (flat_of l.nest) l.next l.head l.start
