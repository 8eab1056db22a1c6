-- `read_circulation`: the loop a, another one, and 0.
use mathlib.Core.Path.{refl}
use Rattle.model.specs.Grammar.{circulation_step, depth_after}
use Rattle.ticket_words.proofs.ReaderLaws.{refused-first, read-then, read-done}
use Rattle.ticket_steps.proofs.StepLaws.{handed_on}
use Rattle.ticket_steps.proofs.read_circulation.Goals as goal

pub returns-in_err-a-clause-reads : goal.returns-in_err-a-clause-reads
unfolding circulation_step
returns-in_err-a-clause-reads c = handed_on c.from_residual.ensures.1 (refused-first _ c.in_err-a.ensures.reads)

pub returns-in_err-b-clause-reads : goal.returns-in_err-b-clause-reads
unfolding circulation_step
returns-in_err-b-clause-reads c =
    handed_on c.from_residual-in_err-b.ensures.1 (read-then _ c.in_ok-a.ensures.reads (refused-first _ c.in_err-b.ensures.reads))

pub returns-in_err-natural-clause-reads : goal.returns-in_err-natural-clause-reads
unfolding circulation_step
returns-in_err-natural-clause-reads c =
    handed_on c.from_residual-in_err-natural.ensures.1
    (read-then _ c.in_ok-a.ensures.reads (read-then _ c.in_ok-b.ensures.reads (refused-first _ c.in_err-natural.ensures.reads)))

pub returns-clause-reads : goal.returns-clause-reads
unfolding circulation_step
returns-clause-reads c =
    read-then _ c.in_ok-a.ensures.reads (read-then _ c.in_ok-b.ensures.reads (read-then _ c.in_ok-natural.ensures.reads (read-done _ refl)))

pub returns-clause-few : goal.returns-clause-few
unfolding depth_after
returns-clause-few c = c.requires
