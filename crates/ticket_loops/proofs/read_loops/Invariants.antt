-- `read_loops`: k loops are read and laid.
use Rattle.ticket_loops.proofs.ReadLaws.{Passing}
use Rattle.ticket_loops.proofs.read_loops.Given as goal

abbrev pub invariant-loop-k : goal.invariant-loop-k
invariant-loop-k l = Passing l.depth l.initial.words l.words l.initial.limits l.limits l.initial.counts l.counts l.k
