-- `quick_decoded`: 1 to 8, then the nest.
use Rattle.ticket_admission.proofs.AdmitLaws.{points-counted}
use Rattle.ticket_admission.proofs.CountedTicketLaws.{laid-ticket}
use Rattle.entry_quick.proofs.TestLaws.{not_read, not_tested, tested-whole, said}
use Rattle.entry_quick.proofs.quick_decoded.Goals as goal

pub returns-in_err-ticket : goal.returns-in_err-ticket
returns-in_err-ticket c = said _ _ c.from_residual.ensures.1 (not_read _ _ _ c.args.first c.args.second _ c.in_err-ticket.was)

pub returns-in_err-count : goal.returns-in_err-count
returns-in_err-count c = said _ _ c.from_residual-in_err-count.ensures.1 (not_tested _ _ _ c.args.first c.args.second _ c.in_err-count.ensures)

pub test_nest-requires : goal.test_nest-requires
test_nest-requires c = points-counted _ c.in_ok-ticket.ticket.steps _ (laid-ticket c.in_ok-count.ensures c.in_ok-ticket.was)

pub returns : goal.returns
returns c = let g = c.test_nest in tested-whole c.args.read _ _ c.args.first c.args.second _ c.in_ok-ticket.was g.result g.ensures
