use mathlib.Core.Path.{◌≡◌, refl, ◌∙◌}
use mathlib.Core.List.{List, zip_with}
use Prim.Native.Nat.{ℕ, ◌<◌, ◌≤◌}
use native.Mathlib.Omega.{arith}
use lib.IntN.{ℤ, pos}
use lib.ListN.{length, get_or, take, length-set}
use mir.Syntax.{w32}
use mir.Val.{to_z, of_z}
use borrow.Author.Rules.{rules}
use Rattle.integers.specs.Affine.{Within}
use Rattle.integers.specs.Difference.{size}
use mir.Facts.{to_z-of_z}
use Rattle.step_limits.proofs.NumberLaws.{small-back}
use Rattle.step_limits.proofs.RowLaws.{front_at, mix-more}
use Rattle.step_limits.proofs.combine_rows.Goals as goal

module _ (n k : ℕ) (cs : List ℤ) (h : k < n) (w : Within 32767 (take n cs)) where
  at : size (get_or cs k (pos 0)) ≤ 32767
  at = front_at n cs k h w

  reads : to_z w32 (of_z w32 (get_or cs k (pos 0))) ≡ get_or cs k (pos 0)
  reads = small-back _ at

pub loop-k-init : goal.loop-k-init
unfolding zip_with
loop-k-init c = (omega arith, refl, refl)

pub combine-requires : goal.combine-requires
combine-requires c =
    let h : c.loop-k.k < c.args.n = omega arith in
    let w = c.requires.3 in
    let v = c.requires.4 in
    simp (to_z-of_z, c.ranges.u, c.ranges.v, reads _ _ _ h w, reads _ _ _ h v) (c.requires.1, at _ _ _ h w, c.requires.2, at _ _ _ h v)

pub loop-k-preserved : goal.loop-k-preserved
loop-k-preserved c =
    let h : c.loop-k.k < c.args.n = omega arith in
    let len-x : length c.args.xs ≡ 6 = search rules in
    let len-y : length c.args.ys ≡ 6 = search rules in
    let e : to_z w32 (of_z w32 c.combine.result) ≡ c.combine.result = search rules in (
      omega arith,
      simp length-set c.loop-k.invariant.1,
      mix-more _ _ c.loop-k.k c.loop-k.r c.args.xs c.args.ys _ (omega arith) (omega (arith, len-x)) (omega (arith, len-y)) c.loop-k.invariant.2
          (e ∙ c.combine.ensures ∙ simp (reads _ _ _ h c.requires.3, reads _ _ _ h c.requires.4)),
    )

pub returns : goal.returns
returns c =
    let e : c.loop-k.k ≡ c.args.n = omega arith in
    record { is = simp (e, to_z-of_z, c.ranges.u, c.ranges.v) at c.loop-k.invariant.2; room = c.loop-k.invariant.1 }
