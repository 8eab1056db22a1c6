use mathlib.Core.Path.{◌≡◌, ◌∙◌}
use Prim.Native.Nat.{◌*◌}
use native.Mathlib.Omega.{arith}
use lib.IntN.{pos}
use lib.ListN.{length}
use borrow.Author.Rules.{rules}
use mir.Facts.{to_z-of_z}
use Rattle.step_limits.proofs.NumberLaws.{small-back, widened, product-fits, product-signed, read-widened, less-fits, zero-less}
use Rattle.step_limits.proofs.LimitLaws.{numbers, element-is}
use Rattle.step_limits.proofs.section_element.Goals as goal

pub overflow_mul-cs : goal.overflow_mul-cs
overflow_mul-cs c = let m = numbers c.args.n c.args.l c.requires.2 in product-fits _ _ m.multiplier c.requires.1

pub overflow_cast-cs : goal.overflow_cast-cs
overflow_cast-cs c = let m = numbers c.args.n c.args.l c.requires.2 in product-signed _ _ m.multiplier c.requires.1

pub overflow_sub-cs : goal.overflow_sub-cs
overflow_sub-cs c = let m = numbers c.args.n c.args.l c.requires.2 in let u = widened c.args.l.multiplier
    c.args.w m.multiplier c.requires.1 in rw (read-widened (c.args.l.multiplier * c.args.w) u)
    (less-fits (pos 0) (c.args.l.multiplier * c.args.w) (omega arith) u)

pub returns : goal.returns
returns c =
    let m = numbers c.args.n c.args.l c.requires.2 in
    let u = widened c.args.l.multiplier c.args.w m.multiplier c.requires.1 in
    let q : length c.args.l.coefficients ≡ 6 = search rules in
    let e = read-widened (c.args.l.multiplier * c.args.w) u in
    element-is c.args.n c.args.l c.args.w _ _ q (omega arith) (small-back c.args.l.constant m.constant)
    (rw e (to_z-of_z (less-fits (pos 0) (c.args.l.multiplier * c.args.w) (omega arith) u) ∙ zero-less (pos (c.args.l.multiplier * c.args.w))))
