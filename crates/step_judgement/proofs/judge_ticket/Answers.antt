-- `judge_ticket`: the steps, then refusal 13 of the new nest.
use Rattle.std.proofs.lemmas.Result.{err_from_is_err_and}
use Rattle.step_judgement.proofs.TicketLaws.{steps-refused, new-refused, ticket-judged}
use Rattle.step_judgement.proofs.judge_ticket.Goals as goal

pub returns-in_err-judged : goal.returns-in_err-judged
returns-in_err-judged c =
    let p = err_from_is_err_and c.from_residual.result c.from_residual.ensures.1 in
    rw (p.1, p.2) (steps-refused _ c.args.steps c.args.set c.requires _ _ _ c.in_err-judged.ensures)

pub survey_new-requires : goal.survey_new-requires
survey_new-requires c = c.in_ok-judged.ensures.flat-nest

pub returns-in_err-survey_new : goal.returns-in_err-survey_new
returns-in_err-survey_new c =
    let p = err_from_is_err_and c.from_residual-in_err-survey_new.result c.from_residual-in_err-survey_new.ensures.1 in
    rw (p.1, p.2) (new-refused _ c.args.steps c.args.set c.requires _ _ _ c.in_ok-judged.ensures _ c.in_err-survey_new.ensures)

pub returns : goal.returns
returns c = ticket-judged _ c.args.steps c.args.set c.requires _ _ _ c.in_ok-judged.ensures c.in_ok-survey_new.ensures
