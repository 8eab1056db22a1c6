-- `write_lines`. The loop's invariant: the marked lines before i are written, and p is the place after them.
use Prim.Native.Nat.{◌-◌}
use Rattle.dependence_listing_text.proofs.LineLaws.{Writing}
use Rattle.dependence_listing_text.proofs.write_lines.Given as goal

abbrev pub invariant-loop-i : goal.invariant-loop-i
invariant-loop-i l = Writing l.marks l.n l.depth l.initial.out l.at l.out l.p l.i
