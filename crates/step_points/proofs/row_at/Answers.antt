use mathlib.Core.Path.{◌≡◌, refl, subst}
use native.Mathlib.Omega.{arith}
use lib.ListN.{take, drop, length-set}
use borrow.Author.Rules.{rules}
use Rattle.nest_rows.proofs.RowLaws.{read_more}
use Rattle.step_points.proofs.row_at.Goals as goal

pub loop-k-init : goal.loop-k-init
loop-k-init c = (omega arith, refl, refl)

pub loop-k-preserved : goal.loop-k-preserved
loop-k-preserved c =
    let t = c.loop-k-test.true in (
      omega arith,
      simp length-set c.loop-k.invariant.1,
      read_more c.args.points.now c.args.at c.loop-k.k c.loop-k.row _ (omega arith) (omega arith) c.loop-k.invariant.2 (search rules),
    )

pub returns : goal.returns
returns c =
    let t = c.loop-k-test.false in
    let h = c.loop-k.invariant.0 in
    let e : c.loop-k.k ≡ c.args.depth = omega arith in
    record {
      is = subst (λ k. take k c.loop-k.row ≡ take k (drop c.args.at c.args.points.now)) e c.loop-k.invariant.2;
      room = c.loop-k.invariant.1;
    }
