-- `read_exchange`: the loop a, the next one, and 0.
use mathlib.Core.Path.{refl}
use Rattle.model.specs.Grammar.{exchange_step, depth_after}
use Rattle.ticket_words.proofs.ReaderLaws.{refused-first, read-then, read-done}
use Rattle.ticket_steps.proofs.StepLaws.{handed_on, next-read}
use Rattle.ticket_steps.proofs.read_exchange.Goals as goal

pub returns-in_err-a-clause-reads : goal.returns-in_err-a-clause-reads
unfolding exchange_step
returns-in_err-a-clause-reads c = handed_on c.from_residual.ensures.1 (refused-first _ c.in_err-a.ensures.reads)

pub returns-in_err-loop_number-clause-reads : goal.returns-in_err-loop_number-clause-reads
unfolding exchange_step
returns-in_err-loop_number-clause-reads c =
    let a = c.in_ok-a.ensures in
    let b = next-read _ _ _ _ a.within.0 a.within.1 c.min.ensures c.in_err-loop_number.ensures.reads in
    handed_on c.from_residual-in_err-loop_number.ensures.1 (read-then _ a.reads (refused-first _ b))

pub returns-in_err-natural-clause-reads : goal.returns-in_err-natural-clause-reads
unfolding exchange_step
returns-in_err-natural-clause-reads c =
    let a = c.in_ok-a.ensures in
    let b = next-read _ _ _ _ a.within.0 a.within.1 c.min.ensures c.in_ok-loop_number.ensures.reads in
    handed_on c.from_residual-in_err-natural.ensures.1 (read-then _ a.reads (read-then _ b (refused-first _ c.in_err-natural.ensures.reads)))

pub returns-clause-reads : goal.returns-clause-reads
unfolding exchange_step
returns-clause-reads c =
    let a = c.in_ok-a.ensures in
    let b = next-read _ _ _ _ a.within.0 a.within.1 c.min.ensures c.in_ok-loop_number.ensures.reads in
    read-then _ a.reads (read-then _ b (read-then _ c.in_ok-natural.ensures.reads (read-done _ refl)))

pub returns-clause-few : goal.returns-clause-few
unfolding depth_after
returns-clause-few c = c.requires
