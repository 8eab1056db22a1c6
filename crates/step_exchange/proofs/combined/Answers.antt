use mathlib.Core.Path.{◌≡◌, ◌∙◌}
use Prim.Native.Nat.{◌+◌}
use native.Mathlib.Omega.{arith}
use native.Mathlib.Nat.{mul-le-mul}
use lib.IntN.{pos}
use mir.Syntax.{w32}
use mir.Val.{to_z, of_z}
use borrow.Author.Rules.{rules}
use Rattle.integers.proofs.RangeLaws.{sfits}
use Rattle.step_limits.proofs.NumberLaws.{small-back, fits_below, read-multiplier, small-multiplier}
use Rattle.step_limits.proofs.RowLaws.{within-shorter}
use Rattle.step_limits.proofs.LimitLaws.{numbers}
use Rattle.step_exchange.proofs.SolveLaws.{combined-is}
use Rattle.step_exchange.proofs.combined.Goals as goal

pub overflow_cast-q : goal.overflow_cast-q
overflow_cast-q c = let m = numbers c.args.a c.args.m c.requires.3 in let h = m.multiplier in sfits (omega arith)

pub combine-d-requires : goal.combine-d-requires
combine-d-requires c =
    let l = numbers (c.args.a + 1) c.args.l c.requires.2 in let m = numbers c.args.a c.args.m c.requires.3 in (
      small-multiplier c.args.m.multiplier m.multiplier,
      rw (small-back c.args.l.constant l.constant) l.constant,
      rw
          (small-back c.args.c c.requires.1) c.requires.1,
      rw (small-back c.args.m.constant m.constant) m.constant,
    )

pub combine_rows-ds-requires : goal.combine_rows-ds-requires
combine_rows-ds-requires c =
    let l = numbers (c.args.a + 1) c.args.l c.requires.2 in let m = numbers c.args.a c.args.m c.requires.3 in (
      omega arith,
      small-multiplier c.args.m.multiplier m.multiplier,
      rw (small-back c.args.c c.requires.1) c.requires.1,
      within-shorter
          32767 c.args.a c.args.l.coefficients l.coefficients,
      m.coefficients,
    )

pub overflow_mul-result : goal.overflow_mul-result
overflow_mul-result c =
    let l = numbers (c.args.a + 1) c.args.l c.requires.2 in let m = numbers c.args.a c.args.m c.requires.3 in
    fits_below (let u = mul-le-mul l.multiplier m.multiplier in omega (arith, u))

pub returns : goal.returns
returns c =
    let l = numbers (c.args.a + 1) c.args.l c.requires.2 in let m = numbers c.args.a c.args.m c.requires.3 in
    let x : to_z w32 (of_z w32 c.args.l.constant) ≡ c.args.l.constant = small-back c.args.l.constant l.constant in
    let y : to_z w32 (of_z w32 c.args.m.constant) ≡ c.args.m.constant = small-back c.args.m.constant m.constant in
    let z : to_z w32 (of_z w32 c.args.c) ≡ c.args.c = small-back c.args.c c.requires.1 in
    let q : to_z w32 c.args.m.multiplier ≡ pos c.args.m.multiplier = read-multiplier c.args.m.multiplier m.multiplier in
    let e : to_z w32 (of_z w32 c.combine-d.result) ≡ c.combine-d.result = search rules in
    combined-is c.args.a c.args.c c.args.l c.args.m _ _ (e ∙ c.combine-d.ensures ∙ simp (x, y, z, q))
    (record { is = c.combine_rows-ds.ensures.is ∙ simp (z, q); room = c.combine_rows-ds.ensures.room })
