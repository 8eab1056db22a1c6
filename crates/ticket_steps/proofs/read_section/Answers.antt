-- `read_section`: the loop, the width, and 0.
use mathlib.Core.Path.{◌≡◌, refl}
use mathlib.Core.Bool.{Bool, true, false, cond}
use Prim.Native.Nat.{ℕ, suc, ◌≤◌}
use native.Mathlib.Omega.{arith}
use borrow.Author.Tests.{ltb-true}
use lib.Dec.{ltb}
use Rattle.model.specs.Grammar.{section_step, depth_after}
use Rattle.ticket_words.proofs.ReaderLaws.{refused-first, read-then, read-done}
use Rattle.ticket_steps.proofs.StepLaws.{handed_on, target-read}
use Rattle.ticket_steps.proofs.read_section.Goals as goal

-- a loop that may be sectioned leaves room for one more
room : (m : ℕ) (t : Bool) → ltb m 6 ≡ t → 1 ≤ cond t m 0 → suc m ≤ 6
room m true e h = ltb-true m 6 e
room m false e h = absurd (omega arith)

pub returns-in_err-a-clause-reads : goal.returns-in_err-a-clause-reads
unfolding section_step
returns-in_err-a-clause-reads c =
    handed_on c.from_residual.ensures.1 (refused-first _ (target-read _ _ _ c.sectioned_most.ensures.0 c.in_err-a.ensures.reads))

pub returns-in_err-width-clause-reads : goal.returns-in_err-width-clause-reads
unfolding section_step
returns-in_err-width-clause-reads c =
    let a = target-read _ _ _ c.sectioned_most.ensures.0 c.in_ok-a.ensures.reads in
    handed_on c.from_residual-in_err-width.ensures.1 (read-then _ a (refused-first _ c.in_err-width.ensures.reads))

pub returns-in_err-natural-clause-reads : goal.returns-in_err-natural-clause-reads
unfolding section_step
returns-in_err-natural-clause-reads c =
    let a = target-read _ _ _ c.sectioned_most.ensures.0 c.in_ok-a.ensures.reads in
    handed_on c.from_residual-in_err-natural.ensures.1
    (read-then _ a (read-then _ c.in_ok-width.ensures.reads (refused-first _ c.in_err-natural.ensures.reads)))

pub returns-clause-reads : goal.returns-clause-reads
unfolding section_step
returns-clause-reads c =
    let a = target-read _ _ _ c.sectioned_most.ensures.0 c.in_ok-a.ensures.reads in
    read-then _ a (read-then _ c.in_ok-width.ensures.reads (read-then _ c.in_ok-natural.ensures.reads (read-done _ refl)))

pub returns-clause-few : goal.returns-clause-few
unfolding depth_after
returns-clause-few c =
    let h = c.in_ok-a.ensures.within in
    room c.args.depth (ltb c.args.depth 6) refl (omega (arith, h.0, h.1, c.sectioned_most.ensures.0))
