-- `begin`: by what judge answers.
use mathlib.Core.Path.{sym, ap, ◌∙◌}
use Rattle.model.proofs.Answers.AnswerLaws.{not-both}
use Rattle.entry_packing.specs.Packed.{packed}
use Rattle.ticket_refusals.specs.Refusals.{answer_of}
use Rattle.entry_reason.proofs.FinderLaws.{begun-without}
use Rattle.entry_reason.proofs.begin.Goals as goal

pub begin_refused-requires : goal.begin_refused-requires
begin_refused-requires c = sym c.judge.ensures.0 ∙ ap answer_of c.in-Err.is

pub returns-in-Ok : goal.returns-in-Ok
returns-in-Ok c = let j = c.judge.ensures.0 in
    let a = c.in-Ok.is in let w = c.without_pairs.ensures in
    begun-without c.args.ticket.now c.args.lent c.without_pairs.result
    (λ k e. not-both (sym (ap answer_of a) ∙ j ∙ e)) (w.0 ∙ ap packed (sym (ap answer_of a) ∙ j)) w.1 w.2
