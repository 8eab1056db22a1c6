-- `read_side`: k limits are read and laid.
use Rattle.ticket_loops.proofs.SideLaws.{Filling}
use Rattle.ticket_loops.proofs.read_side.Given as goal

abbrev pub invariant-loop-k : goal.invariant-loop-k
invariant-loop-k l = Filling l.outer l.j l.count l.initial.words l.words l.initial.limits l.limits l.k
