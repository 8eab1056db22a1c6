-- `limit_of`: the eight numbers of a limit.
use mathlib.Core.Path.{◌≡◌, refl}
use Prim.Native.Nat.{◌+◌, ◌*◌}
use lib.IntN.{pos}
use lib.ListN.{get_or}
use mir.Syntax.{w32}
use mir.Val.{SFits, to_z, of_z}
use Rattle.step_exchange_sides.proofs.PutLaws.{multiplier-fits, limit-row, limit-read}
use borrow.Author.Rules.{rules}
use Rattle.step_exchange_sides.proofs.limit_of.Goals as goal

pub overflow_cast-result : goal.overflow_cast-result
overflow_cast-result c = let e : to_z w32 (of_z w32 (get_or c.args.filling.now (c.args.k * 8) (pos 0))) ≡ get_or c.args.filling.now (c.args.k * 8)
    (pos 0) = search rules in
    let f : SFits w32 (get_or c.args.filling.now (c.args.k * 8) (pos 0)) = search rules in
    rw e (multiplier-fits c.args.filling.now c.args.k c.requires _ f refl)

pub returns : goal.returns
returns c = let f = c.args.filling.now in
    let at = c.args.k * 8 in
    let e0 : to_z w32 (of_z w32 (get_or f at (pos 0))) ≡ get_or f at (pos 0) = search rules in
    let e1 : to_z w32 (of_z w32 (get_or f (at + 1) (pos 0))) ≡ get_or f (at + 1) (pos 0) = search rules in
    let e2 : to_z w32 (of_z w32 (get_or f (at + 2) (pos 0))) ≡ get_or f (at + 2) (pos 0) = search rules in
    let e3 : to_z w32 (of_z w32 (get_or f (at + 3) (pos 0))) ≡ get_or f (at + 3) (pos 0) = search rules in
    let e4 : to_z w32 (of_z w32 (get_or f (at + 4) (pos 0))) ≡ get_or f (at + 4) (pos 0) = search rules in
    let e5 : to_z w32 (of_z w32 (get_or f (at + 5) (pos 0))) ≡ get_or f (at + 5) (pos 0) = search rules in
    let e6 : to_z w32 (of_z w32 (get_or f (at + 6) (pos 0))) ≡ get_or f (at + 6) (pos 0) = search rules in
    let e7 : to_z w32 (of_z w32 (get_or f (at + 7) (pos 0))) ≡ get_or f (at + 7) (pos 0) = search rules in
    limit-read f c.args.k c.requires _ _ _ e0 e1 (limit-row f c.args.k c.requires _ _ _ _ _ _ e2 e3 e4 e5 e6 e7)
