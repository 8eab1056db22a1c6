use mathlib.Core.Path.{◌≡◌, ◌∙◌, ap}
use native.Mathlib.Omega.{arith}
use lib.IntN.{neg_ℤ}
use mir.Syntax.{w32}
use mir.Val.{to_z, of_z}
use borrow.Author.Rules.{rules}
use Rattle.step_limits.proofs.NumberLaws.{small-back}
use Rattle.step_limits.proofs.LimitLaws.{numbers, negated-is}
use Rattle.step_limits.proofs.reverse_limit.Goals as goal

pub negate-requires : goal.negate-requires
negate-requires c = let m = numbers c.args.n c.args.l c.requires.1 in rw (small-back _ m.constant)
    m.constant

pub combine_rows-requires : goal.combine_rows-requires
combine_rows-requires c = let m = numbers c.args.n c.args.l c.requires.1
    in (c.requires.0, omega arith, omega arith, m.coefficients, m.coefficients)

pub returns : goal.returns
returns c =
    let m = numbers c.args.n c.args.l c.requires.1 in
    let e : to_z w32 (of_z w32 c.negate.result) ≡ c.negate.result = search rules in
    negated-is c.args.n c.args.l _ _ (e ∙ c.negate.ensures ∙ ap neg_ℤ (small-back c.args.l.constant m.constant))
    c.combine_rows.ensures
