-- `read_statements`: i statements are read and laid.
use Rattle.ticket_statements.proofs.StatementLaws.{Filling}
use Rattle.ticket_statements.proofs.read_statements.Given as goal

abbrev pub invariant-loop-i : goal.invariant-loop-i
invariant-loop-i l =
    Filling l.nest l.count l.initial.words l.words l.initial.laid l.laid l.initial.accesses l.accesses l.sizes l.rules l.constants l.i
