use mathlib.Core.Path.{◌≡◌}
use Prim.Native.Nat.{◌-◌}
use native.Mathlib.Omega.{arith}
use lib.ListN.{length}
use borrow.Author.Rules.{rules}
use Rattle.step_limits.proofs.NumberLaws.{product-fits, product-signed, taken-fits, taken_is}
use Rattle.step_limits.proofs.LimitLaws.{numbers, lower-is}
use Rattle.step_limits.proofs.section_lower.Goals as goal

pub overflow_mul-result : goal.overflow_mul-result
overflow_mul-result c = let m = numbers c.args.n c.args.l c.requires.2 in product-fits _ _ m.multiplier c.requires.1

pub overflow_mul-result-2 : goal.overflow_mul-result-2
overflow_mul-result-2 c = let m = numbers c.args.n c.args.l c.requires.2 in product-fits _ _ m.multiplier
    (omega arith)

pub overflow_cast-result : goal.overflow_cast-result
overflow_cast-result c = let m = numbers c.args.n c.args.l c.requires.2 in product-signed _ _ m.multiplier
    (omega arith)

pub overflow_sub-result-2 : goal.overflow_sub-result-2
overflow_sub-result-2 c = let m = numbers c.args.n c.args.l c.requires.2 in taken-fits
    c.args.l.constant _ (c.args.w - 1) m.constant m.multiplier (omega arith)

pub returns : goal.returns
returns c =
    let m = numbers c.args.n c.args.l c.requires.2 in
    let q : length c.args.l.coefficients ≡ 6 = search rules in
    lower-is c.args.n c.args.l c.args.w _ q (taken_is c.args.l.constant _ (c.args.w - 1) m.constant m.multiplier
    (omega arith))
