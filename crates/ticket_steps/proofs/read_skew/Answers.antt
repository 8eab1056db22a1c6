-- `read_skew`: the outer loop, a loop inside it, and a factor.
use Rattle.model.specs.Grammar.{skew_step, depth_after}
use Rattle.ticket_words.proofs.ReaderLaws.{refused-first, read-then, read-done}
use Rattle.ticket_steps.proofs.StepLaws.{handed_on, inner-read, then-factor}
use borrow.Author.Rules.{rules}
use Rattle.ticket_steps.proofs.read_skew.Goals as goal

pub returns-in_err-a-clause-reads : goal.returns-in_err-a-clause-reads
unfolding skew_step
returns-in_err-a-clause-reads c = handed_on c.from_residual.ensures.1 (refused-first _ c.in_err-a.ensures.reads)

pub returns-in_err-b-clause-reads : goal.returns-in_err-b-clause-reads
unfolding skew_step
returns-in_err-b-clause-reads c =
    let a = c.in_ok-a.ensures in
    handed_on c.from_residual-in_err-b.ensures.1
    (read-then _ a.reads (refused-first _ (inner-read _ _ _ a.within.0 a.within.1 c.in_err-b.ensures.reads)))

pub returns-in_err-factor-clause-reads : goal.returns-in_err-factor-clause-reads
unfolding skew_step
returns-in_err-factor-clause-reads c =
    let a = c.in_ok-a.ensures in
    let b = inner-read _ _ _ a.within.0 a.within.1 c.in_ok-b.ensures.reads in
    handed_on c.from_residual-in_err-factor.ensures.1
    (read-then _ a.reads (read-then _ b (then-factor _ (refused-first _ c.in_err-factor.ensures.reads))))

pub returns-clause-reads : goal.returns-clause-reads
unfolding skew_step
returns-clause-reads c =
    let a = c.in_ok-a.ensures in
    let b = inner-read _ _ _ a.within.0 a.within.1 c.in_ok-b.ensures.reads in
    read-then _ a.reads (read-then _ b (then-factor _ (read-then _ c.in_ok-factor.ensures.reads (read-done _ (search rules)))))

pub returns-clause-few : goal.returns-clause-few
unfolding depth_after
returns-clause-few c = c.requires
