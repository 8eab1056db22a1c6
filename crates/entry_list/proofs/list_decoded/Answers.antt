-- `list_decoded`: 1 to 8, then the nest.
use Rattle.entry_answers.proofs.AnswerLaws.{outcome-on}
use Rattle.ticket_admission.proofs.AdmitLaws.{points-counted}
use Rattle.ticket_admission.proofs.CountedTicketLaws.{laid-ticket}
use Rattle.entry_list.proofs.ListLaws.{not_read, not_listed, listed-whole}
use Rattle.entry_list.proofs.list_decoded.Goals as goal

pub returns-in_err-ticket : goal.returns-in_err-ticket
returns-in_err-ticket c = outcome-on _ _ c.from_residual.ensures.1 (not_read _ _ _ c.args.out.now _ c.in_err-ticket.was)

pub returns-in_err-count : goal.returns-in_err-count
returns-in_err-count c = outcome-on _ _ c.from_residual-in_err-count.ensures.1 (not_listed _ _ _ c.args.out.now _ c.in_err-count.ensures)

pub list_nest-requires : goal.list_nest-requires
list_nest-requires c = points-counted _ c.in_ok-ticket.ticket.steps _ (laid-ticket c.in_ok-count.ensures c.in_ok-ticket.was)

pub returns : goal.returns
returns c = let g = c.list_nest in listed-whole c.args.read _ _ c.args.out.now _ c.in_ok-ticket.was _ g.result g.ensures
