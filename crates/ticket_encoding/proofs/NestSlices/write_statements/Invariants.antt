-- `write_statements`: i statements are written behind their count.
use Rattle.ticket_encoding.proofs.StatementLaws.{Reached}
use Rattle.ticket_encoding.proofs.NestSlices.write_statements.Given as goal

abbrev pub invariant-loop-i : goal.invariant-loop-i
invariant-loop-i l = Reached l.self l.initial.out l.initial.next l.out l.next l.k l.i
