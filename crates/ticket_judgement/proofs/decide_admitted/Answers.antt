-- `decide_admitted`: 9, then 10 to 13 on the directions found.
use mathlib.Core.Path.{refl}
use Rattle.ticket_admission.proofs.AdmitLaws.{points-counted}
use Rattle.ticket_judgement.proofs.VerdictLaws.{decides-on, found-refused, judge-in, steps-refused, decided}
use Rattle.ticket_judgement.proofs.decide_admitted.Goals as goal

pub find_directions-requires : goal.find_directions-requires
find_directions-requires c = (points-counted _ c.args.steps c.args.count c.requires, refl)

pub returns-in_err-find_directions : goal.returns-in_err-find_directions
returns-in_err-find_directions c = decides-on _ _ c.from_residual.ensures.1
    (found-refused _ c.args.steps c.args.count c.requires _ _ _ _ c.in_err-find_directions.ensures)

pub first_opaque-opaque-requires : goal.first_opaque-opaque-requires
first_opaque-opaque-requires c = c.requires.ticket.flat-nest

pub elements_in-elements-requires : goal.elements_in-elements-requires
elements_in-elements-requires c = c.requires.ticket.flat-nest

pub judge_ticket-requires : goal.judge_ticket-requires
judge_ticket-requires c = judge-in _ c.args.steps c.args.count c.requires _ c.in_ok-find_directions.ensures

pub returns-in_err-judged : goal.returns-in_err-judged
returns-in_err-judged c = decides-on _ _ c.from_residual-in_err-judged.ensures.1
    (steps-refused _ c.args.steps c.args.count c.requires _ c.in_ok-find_directions.ensures _ _ _ c.in_err-judged.ensures)

pub returns : goal.returns
returns c = decided _ c.args.steps c.args.count c.requires _ c.in_ok-find_directions.ensures c.in_ok-judged.judged _ _ c.in_ok-judged.ensures
    c.first_opaque-opaque.result c.elements_in-elements.result
    c.first_opaque-opaque.ensures c.elements_in-elements.ensures
