-- `some_apart`: the dimensions from i on are left.
use Rattle.nest_loop_ranges.specs.Ranges.{ranges_of}
use Rattle.nest_quick_test.proofs.SearchLaws.{FormsLeft}
use Rattle.nest_quick_test.proofs.some_apart.Given as goal

abbrev pub invariant-loop-i : goal.invariant-loop-i
invariant-loop-i l = FormsLeft (ranges_of l.n l.ranges) l.words l.u l.v l.d l.n l.i
