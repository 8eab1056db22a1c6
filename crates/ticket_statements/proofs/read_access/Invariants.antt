-- `read_access`: d subscripts are read and laid.
use Rattle.ticket_statements.proofs.AccessLaws.{Filling}
use Rattle.ticket_statements.proofs.read_access.Given as goal

abbrev pub invariant-loop-d : goal.invariant-loop-d
invariant-loop-d l = Filling l.nest.depth l.d-end l.k l.initial.words l.words l.initial.laid l.laid l.d
