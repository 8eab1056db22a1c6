use mathlib.Core.Path.{sym, ◌∙◌}
use native.Mathlib.Omega.{arith}
use Rattle.step_exchange_sides.proofs.FillLaws.{push-full, push-there, push-last, push-new}
use Rattle.step_exchange_sides.proofs.push_limit.Goals as goal

pub returns-then-count-gt-LIMITS : goal.returns-then-count-gt-LIMITS
returns-then-count-gt-LIMITS c = push-full c.args.n c.args.filling.now c.args.count c.args.x c.requires.filled (omega arith)

pub returns-then-has_limit : goal.returns-then-has_limit
returns-then-has_limit c = push-there c.args.n c.args.filling.now c.args.count c.args.x
    c.requires.filled (omega arith) (sym c.has_limit.ensures ∙ c.if-has_limit.true)

pub returns-then-count-eq-LIMITS : goal.returns-then-count-eq-LIMITS
returns-then-count-eq-LIMITS c = push-last c.args.n c.args.filling.now c.args.count c.args.x
    c.requires.filled (omega arith) (sym c.has_limit.ensures ∙ c.if-has_limit.false)

pub returns : goal.returns
returns c = push-new c.args.n c.args.filling.now
    c.args.count c.args.x c.requires.filled c.requires.wide (omega arith) _ c.fill_limit.ensures
    (sym c.has_limit.ensures ∙ c.if-has_limit.false)
