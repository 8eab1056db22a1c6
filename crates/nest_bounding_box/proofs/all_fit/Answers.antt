use mathlib.Core.Path.{◌≡◌, subst}
use mathlib.Core.Bool.{false}
use Prim.Native.Nat.{ℕ, ◌*◌}
use native.Mathlib.Omega.{arith}
use borrow.Author.Count.{below_more}
use lib.ListN.{length, get_or}
use Rattle.lists.proofs.TestLaws.{true-T}
use Rattle.nest_loop_ranges.specs.Ranges.{ranges_of}
use Rattle.nest_bounding_box.specs.Subscripts.{FirstEnclosed, AllEnclosed}
use Rattle.nest_bounding_box.proofs.all_fit.Goals as goal

pub loop-k-init : goal.loop-k-init
loop-k-init c = (omega arith, λ k h. absurd (omega arith))

pub access_fits-requires : goal.access_fits-requires
access_fits-requires c = (c.requires, c.loop-k-test.true)

pub returns-then-not-access_fits : goal.returns-then-not-access_fits
returns-then-not-access_fits c = λ e. absurd (true-T false e)

pub loop-k-preserved : goal.loop-k-preserved
loop-k-preserved c = let h = c.loop-k-test.true
    in let g = c.access_fits in (
      omega arith,
      below_more (λ (k : ℕ). FirstEnclosed (ranges_of c.args.n c.args.ranges) c.args.words.now c.args.accessed.now
          c.args.arrays.now c.args.n k (get_or c.args.arrays.now (get_or c.args.accessed.now k 0 * 4) 0))
          c.loop-k.k c.loop-k.invariant.1 (g.ensures c.if-not-access_fits.false),
    )

pub returns : goal.returns
returns c = λ _. let h = c.loop-k-test.false in let i = c.loop-k.invariant.0
    in let e : c.loop-k.k ≡ length c.args.accessed.now = omega arith in
    subst (AllEnclosed (ranges_of c.args.n c.args.ranges) c.args.words.now c.args.accessed.now c.args.arrays.now c.args.n)
    e c.loop-k.invariant.1
