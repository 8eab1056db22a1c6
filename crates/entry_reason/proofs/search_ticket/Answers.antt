-- `search_ticket`: the ticket is read again; since it is refused with 10, its points can be counted.
use mathlib.Core.Path.{refl, sym, ap, ◌∙◌}
use Rattle.std.specs.Prelude.{Ok}
use Rattle.ticket_decoding.specs.Ticket.{ticket_of}
use Rattle.ticket_decoding.proofs.DecodeLaws.{zeros-lent}
use Rattle.ticket_admission.proofs.CountedTicketLaws.{laid-ticket}
use Rattle.entry_reason.proofs.TicketLaws.{search-in, searched-at, is-read, not-refused}
use Rattle.entry_reason.proofs.search_ticket.Goals as goal

pub decode-read-requires : goal.decode-read-requires
decode-read-requires c = zeros-lent

pub returns-in_default : goal.returns-in_default
returns-in_default c = λ t. let d = c.decode-read in is-read c.args.ticket.now c.args.step t _ _ _ d.ensures.same _ c.in_default.is

pub returns-in_default-count_ticket_points : goal.returns-in_default-count_ticket_points
returns-in_default-count_ticket_points c = λ t. let d = c.decode-read in let n = c.in_default-count_ticket_points in
    not-refused c.args.ticket.now c.args.step t (Ok c.in-Ok.decoded) d.new.limits d.new.words (sym (ap (λ x. ticket_of x d.new.limits d.new.words) c.in-Ok.is) ∙ d.ensures.same) n.field-0 n.ensures.same

pub search_pairs-requires : goal.search_pairs-requires
search_pairs-requires c = let d = c.decode-read in let n = c.in-Ok-count_ticket_points in
    search-in c.args.ticket.now c.args.step c.requires.0.ten _ _ _ d.ensures.same c.in-Ok.decoded c.in-Ok.is _ c.args.from _
    (laid-ticket n.ensures refl) c.requires.0.there c.requires.1

pub returns : goal.returns
returns c = λ t. let d = c.decode-read in
    searched-at c.args.ticket.now c.args.step t _ _ _ d.ensures.same c.in-Ok.decoded c.in-Ok.is c.args.from c.args.skip
    c.search_pairs.result _ c.search_pairs.ensures
