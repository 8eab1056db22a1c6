-- `least_reads`: one under rule 3.
use borrow.Author.Tests.{eq-eqb, ne_eqb}
use Rattle.ticket_statements.proofs.least_reads.Goals as goal

pub returns-then-rule-eq3 : goal.returns-then-rule-eq3
returns-then-rule-eq3 c = simp (eq-eqb _ _ c.if-rule-eq3.true)

pub returns-else-rule-eq3 : goal.returns-else-rule-eq3
returns-else-rule-eq3 c = simp (ne_eqb _ _ c.if-rule-eq3.false)
