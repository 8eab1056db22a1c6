use mathlib.Core.Path.{◌≡◌}
use lib.ListN.{length}
use borrow.Author.Rules.{rules}
use Rattle.step_limits.proofs.NumberLaws.{small-back, product-fits}
use Rattle.step_limits.proofs.LimitLaws.{numbers, upper_is}
use Rattle.step_limits.proofs.section_upper.Goals as goal

pub overflow_mul-result : goal.overflow_mul-result
overflow_mul-result c = let m = numbers c.args.n c.args.l c.requires.1 in product-fits _ _ m.multiplier c.requires.0

pub returns : goal.returns
returns c =
    let m = numbers c.args.n c.args.l c.requires.1 in
    let q : length c.args.l.coefficients ≡ 6 = search rules in
    upper_is c.args.n c.args.l c.args.w _ q (small-back c.args.l.constant m.constant)
