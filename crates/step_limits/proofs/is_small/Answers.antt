use mathlib.Core.Path.{◌≡◌, sym, ap, ◌∙◌}
use native.Mathlib.Omega.{arith}
use mir.Syntax.{w32}
use mir.Val.{to_z, of_z}
use Rattle.model.specs.Judge.{small}
use Rattle.step_limits.proofs.WordLaws.{multiplier-large, constant-large, row-test}
use borrow.Author.Rules.{rules}
use Rattle.step_limits.proofs.is_small.Goals as goal

pub returns-then-l-gt32767 : goal.returns-then-l-gt32767
returns-then-l-gt32767 c = sym (multiplier-large c.args.n c.args.l c.if-l-gt32767.true)

pub returns-then-not-small_number : goal.returns-then-not-small_number
returns-then-not-small_number c =
    let read : to_z w32 (of_z w32 c.args.l.constant) ≡ c.args.l.constant = search rules in
    let tested : c.small_number.result ≡ small c.args.l.constant = c.small_number.ensures ∙ ap small read in
    sym (constant-large c.args.n c.args.l (omega arith) (sym tested ∙ c.if-not-small_number.true))

pub returns : goal.returns
returns c =
    let read : to_z w32 (of_z w32 c.args.l.constant) ≡ c.args.l.constant = search rules in
    let tested : c.small_number.result ≡ small c.args.l.constant = c.small_number.ensures ∙ ap small read in
    c.small_row.ensures ∙ sym (row-test c.args.n c.args.l (omega arith) (sym tested ∙ c.if-not-small_number.false))
