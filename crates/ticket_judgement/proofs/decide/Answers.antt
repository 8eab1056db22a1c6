-- `decide`: 1 to 8, then the rest of a ticket that is laid out.
use Rattle.ticket_admission.proofs.CountedTicketLaws.{laid-ticket}
use Rattle.ticket_judgement.proofs.VerdictLaws.{decides-on, not-read, not-laid, of-decoded}
use Rattle.ticket_judgement.proofs.decide.Goals as goal

pub returns-in_err-ticket : goal.returns-in_err-ticket
returns-in_err-ticket c = decides-on _ _ c.from_residual.ensures.1 (not-read _ _ _ c.in_err-ticket.was _ _)

pub returns-in_err-count : goal.returns-in_err-count
returns-in_err-count c = decides-on _ _ c.from_residual-in_err-count.ensures.1 (not-laid _ _ _ c.in_err-count.ensures _ _)

pub decide_admitted-requires : goal.decide_admitted-requires
decide_admitted-requires c = laid-ticket c.in_ok-count.ensures c.in_ok-ticket.was

pub returns : goal.returns
returns c = let r = c.decide_admitted in of-decoded _ _ _ c.in_ok-ticket.was r.result _ _ r.ensures
