-- `mark_source`. The loop's invariant: the marks of a with all sinks before b are set. A sink that an earlier one is like sets no more.
use mathlib.Core.Path.{◌≡◌}
use Prim.Native.Nat.{◌≤◌}
use lib.ListN.{length}
use Rattle.dependence_search.specs.Flat.{numbers_of, set_by}
use Rattle.dependence_search.specs.Nests.{flat_of}
use Rattle.dependence_pair_search.specs.Search.{Linked}
use Rattle.dependence_pair_search.proofs.SomeLaws.{Gathered}
use Rattle.dependence_search.proofs.mark_source.Given as goal

abbrev pub invariant-loop-b : goal.invariant-loop-b
invariant-loop-b l = (l.b ≤ length l.nest.statements.now)
    × (length l.marks ≡ length l.initial.marks) × Gathered l.initial.marks l.marks l.b (set_by (flat_of l.nest) l.a)
    × (length l.head ≡ length l.initial.head) × (length l.start ≡ length l.initial.start)
    × Linked (numbers_of l.nest.count l.nest.numbers.now l.a) l.next l.head l.start
