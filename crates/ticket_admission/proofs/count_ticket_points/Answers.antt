-- `count_ticket_points`: 1 to 6 as they were read, then 7 and 8.
use Rattle.ticket_admission.proofs.CountedTicketLaws.{handed-on, decode-refused, flat-nest-in, counted}
use Rattle.ticket_admission.specs.CountedTickets.{Counts}
use Rattle.ticket_admission.proofs.count_ticket_points.Goals as goal

pub returns-in_err-ticket : goal.returns-in_err-ticket
returns-in_err-ticket c = handed-on (Counts c.args.read _ _) _ c.from_residual.ensures.1 (decode-refused _ _ c.in_err-ticket.was)

pub count_points-requires : goal.count_points-requires
count_points-requires c = flat-nest-in _ _ c.requires c.in_ok-ticket.was

pub returns : goal.returns
returns c = counted _ _ c.requires c.in_ok-ticket.was c.count_points.ensures
