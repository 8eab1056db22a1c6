-- `read_accesses`: i accesses are read and laid.
use Rattle.ticket_statements.proofs.AccessLaws.{Passing}
use Rattle.ticket_statements.proofs.read_accesses.Given as goal

abbrev pub invariant-loop-i : goal.invariant-loop-i
invariant-loop-i l = Passing l.nest l.count l.initial.words l.words l.initial.laid l.laid l.initial.accesses l.accesses l.i
