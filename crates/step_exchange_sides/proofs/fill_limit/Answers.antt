use mathlib.Core.Path.{◌≡◌, sym, ◌∙◌}
use Prim.Native.Nat.{◌+◌, ◌*◌, ◌-◌}
use native.Mathlib.Omega.{arith}
use lib.ListN.{take}
use mir.Syntax.{w32}
use mir.Val.{to_z, of_z}
use Rattle.step_exchange_sides.proofs.PutLaws.{read_wide, row-length, copied_over, wrote}
use borrow.Author.Rules.{rules}
use Rattle.step_exchange_sides.proofs.fill_limit.Goals as goal

pub returns : goal.returns
returns c = let e : to_z w32 (of_z w32 c.args.x.constant) ≡ c.args.x.constant = search rules in
    let at = c.args.k * 8 + 2 in
    let q : at + c.args.n - at ≡ c.args.n = omega arith in
    let m = row-length c.args.filling.now c.args.k c.args.n c.args.x c.requires in
    wrote c.args.filling.now c.args.k c.args.n c.args.x c.requires _ _ _ (read_wide c.args.x.multiplier c.requires.0.multiplier)
    e (copied_over _ (take c.args.n c.args.x.coefficients) _ at _ (q ∙ sym m) c.copy_from_slice.ensures.after)
