-- `read_factor`: a number, then its two tests.
use mathlib.Core.Path.{◌≡◌, ap, ◌∙◌}
use native.Mathlib.Omega.{arith}
use lib.IntN.{nat_abs}
use mir.Syntax.{w32}
use mir.Val.{to_z, of_z}
use borrow.Author.Rules.{rules}
use Rattle.ticket_steps.proofs.FactorLaws.{factor-read, factor-zero, factor-far, factor-refused}
use Rattle.ticket_steps.proofs.StepLaws.{handed_on}
use Rattle.ticket_steps.proofs.read_factor.Goals as goal

pub returns-in_err-c-clause-reads : goal.returns-in_err-c-clause-reads
returns-in_err-c-clause-reads c = handed_on c.from_residual.ensures.1 (factor-refused c.in_err-c.ensures)

pub returns-then-size-eq0-clause-reads : goal.returns-then-size-eq0-clause-reads
returns-then-size-eq0-clause-reads c =
    let z : to_z w32 (of_z w32 c.in_ok-c.c) ≡ c.in_ok-c.c = search rules in
    let s = c.unsigned_abs-size.ensures.value ∙ ap nat_abs z in
    factor-zero c.in_ok-c.ensures (omega arith)

pub returns-then-from-size-clause-reads : goal.returns-then-from-size-clause-reads
returns-then-from-size-clause-reads c =
    let z : to_z w32 (of_z w32 c.in_ok-c.c) ≡ c.in_ok-c.c = search rules in
    let s = c.unsigned_abs-size.ensures.value ∙ ap nat_abs z in
    factor-far c.in_ok-c.ensures (omega arith)

pub returns-clause-reads : goal.returns-clause-reads
returns-clause-reads c =
    let z : to_z w32 (of_z w32 c.in_ok-c.c) ≡ c.in_ok-c.c = search rules in
    let s = c.unsigned_abs-size.ensures.value ∙ ap nat_abs z in
    factor-read c.in_ok-c.ensures _ (cc) (λ n. omega arith) (omega arith)
