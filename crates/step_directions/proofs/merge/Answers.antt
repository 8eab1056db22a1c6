use mathlib.Core.Path.{sym, ◌∙◌, ap, ap₂}
use mathlib.Core.Bool.{Bool, false, ◌||◌}
use mathlib.Core.List.{List}
use Prim.Native.Nat.{◌+◌, ◌<◌}
use native.Mathlib.Omega.{arith}
use lib.ListN.{get_or}
use Rattle.integers.specs.Sign.{Sign}
use Rattle.dependence_vectors.proofs.DepthLaws.{depth-positive}
use Rattle.step_directions.proofs.SetLaws.{fill-first, fill-next, fill-all, merged-row}
use Rattle.step_directions.proofs.merge.Invariants.{both}
use Rattle.step_directions.proofs.merge.Goals as goal

pub stride-stride-requires : goal.stride-stride-requires
stride-stride-requires c = c.requires.0.few

pub overflow_sub-n : goal.overflow_sub-n
overflow_sub-n c =
    let positive : 0 < c.stride-stride.result = depth-positive c.args.depth c.stride-stride.result c.stride-stride.ensures.0 in
    positive

pub nonzero_div-stride : goal.nonzero_div-stride
nonzero_div-stride c = depth-positive c.args.depth c.stride-stride.result c.stride-stride.ensures.0

pub loop-n-init : goal.loop-n-init
loop-n-init c =
    let wanted : List Sign → Bool = both c.args.marks.now c.args.row.now in
    fill-first wanted c.args.depth c.args.marks.now c.requires.0.few c.stride-stride.result
    c.stride-stride.ensures.0 c.requires.0.room

pub bounds-marks-n : goal.bounds-marks-n
bounds-marks-n c = let w = c.loop-n.invariant.whole in let t = c.loop-n-test.true in omega arith

pub bounds-row-n : goal.bounds-row-n
bounds-row-n c = let w = c.requires.1 in let t = c.loop-n-test.true in omega arith

pub bounds-marks-n-in-loop-n : goal.bounds-marks-n-in-loop-n
bounds-marks-n-in-loop-n c = let w = c.loop-n.invariant.whole in let t = c.loop-n-test.true in omega
    arith

pub loop-n-smaller : goal.loop-n-smaller
loop-n-smaller c =
    let positive : 0 < c.stride-stride.result = depth-positive c.args.depth c.stride-stride.result c.stride-stride.ensures.0 in
    let t = c.loop-n-test.true in let p = positive in omega arith

pub loop-n-preserved : goal.loop-n-preserved
loop-n-preserved c =
    let wanted : List Sign → Bool = both c.args.marks.now c.args.row.now in
    let l = c.loop-n in
    fill-next wanted c.args.depth c.args.marks.now c.requires.0.few c.stride-stride.result c.stride-stride.ensures.0 l.marks l.n
    l.invariant _
    c.loop-n-test.true
    (λ v k e. ap₂ ◌||◌ (ap (λ m. get_or l.marks m false) (sym e) ∙ l.invariant.left v k (omega arith))
    (ap (λ m. get_or c.args.row.now m false) (sym e)))

pub shape_of-marks : goal.shape_of-marks
shape_of-marks c = c.loop-n.invariant.whole ∙ sym c.requires.0.room

pub returns : goal.returns
returns c =
    let wanted : List Sign → Bool = both c.args.marks.now c.args.row.now in
    let l = c.loop-n in record {
      room = l.invariant.whole;
      vectors = merged-row c.args.marks.now c.args.row.now l.marks c.args.depth
          (fill-all wanted c.args.depth c.args.marks.now c.requires.0.few c.stride-stride.result c.stride-stride.ensures.0 l.marks l.n
          l.invariant c.loop-n-test.false);
    }

pub returns-2 : goal.returns-2
returns-2 c =
    let wanted : List Sign → Bool = both c.args.marks.now c.args.row.now in
    let l = c.loop-n in
    let s = c.stride-stride.result in
    let e = c.stride-stride.ensures.0 in
    let next = fill-next wanted c.args.depth c.args.marks.now c.requires.0.few s e l.marks l.n l.invariant _ c.loop-n-test.true
    (λ v k e. ap₂ ◌||◌ (ap (λ m. get_or l.marks m false) (sym e) ∙ l.invariant.left v k (omega arith))
    (ap (λ m. get_or c.args.row.now m false) (sym e))) in
    record {
      room = next.whole;
      vectors = merged-row c.args.marks.now c.args.row.now _ c.args.depth
          (fill-all wanted c.args.depth c.args.marks.now c.requires.0.few s e _ (l.n + s) next (omega arith));
    }
