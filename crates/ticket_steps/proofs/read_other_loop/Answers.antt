-- `read_other_loop`: the number of a loop, and that it is not a.
use Rattle.ticket_steps.proofs.OtherLaws.{other-refused, other-itself, other-read}
use Rattle.ticket_steps.proofs.StepLaws.{handed_on}
use Rattle.ticket_steps.proofs.read_other_loop.Goals as goal

pub returns-in_err-b-clause-reads : goal.returns-in_err-b-clause-reads
returns-in_err-b-clause-reads c = handed_on c.from_residual.ensures.1 (other-refused _ _ _ c.in_err-b.ensures.reads)

pub returns-then-b-a-clause-reads : goal.returns-then-b-a-clause-reads
returns-then-b-a-clause-reads c = other-itself _ _ _ c.in_ok-b.ensures.reads c.if-b-a.true

pub returns-clause-reads : goal.returns-clause-reads
returns-clause-reads c = other-read _ _ _ c.in_ok-b.ensures.reads c.if-b-a.false
