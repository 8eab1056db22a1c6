use mathlib.Core.Path.{refl, sym, ◌∙◌}
use mathlib.Core.Bool.{false}
use Prim.Native.Nat.{◌+◌, ◌<◌}
use native.Mathlib.Omega.{arith}
use Rattle.dependence_vectors.proofs.DepthLaws.{depth-positive}
use Rattle.step_directions.proofs.SetLaws.{none-marked, fill-first, fill-next, fill-all}
use Rattle.step_directions.proofs.clear_vectors.Invariants.{nothing}
use Rattle.step_directions.proofs.clear_vectors.Goals as goal

pub stride-stride-requires : goal.stride-stride-requires
stride-stride-requires c = c.requires.few

pub overflow_sub-n : goal.overflow_sub-n
overflow_sub-n c =
    let positive : 0 < c.stride-stride.result = depth-positive c.args.depth c.stride-stride.result c.stride-stride.ensures.0 in
    positive

pub nonzero_div-stride : goal.nonzero_div-stride
nonzero_div-stride c = depth-positive c.args.depth c.stride-stride.result c.stride-stride.ensures.0

pub loop-n-init : goal.loop-n-init
loop-n-init c = fill-first nothing c.args.depth c.args.marks.now c.requires.few c.stride-stride.result
    c.stride-stride.ensures.0 c.requires.room

pub bounds-marks-n : goal.bounds-marks-n
bounds-marks-n c = let w = c.loop-n.invariant.whole in let t = c.loop-n-test.true in omega arith

pub loop-n-smaller : goal.loop-n-smaller
loop-n-smaller c =
    let positive : 0 < c.stride-stride.result = depth-positive c.args.depth c.stride-stride.result c.stride-stride.ensures.0 in
    let t = c.loop-n-test.true in let p = positive in omega arith

pub loop-n-preserved : goal.loop-n-preserved
loop-n-preserved c =
    let l = c.loop-n in
    fill-next nothing c.args.depth c.args.marks.now c.requires.few c.stride-stride.result c.stride-stride.ensures.0 l.marks l.n l.invariant
    false c.loop-n-test.true (λ v k e. refl)

pub shape_of-marks : goal.shape_of-marks
shape_of-marks c = c.loop-n.invariant.whole ∙ sym c.requires.room

pub returns : goal.returns
returns c =
    let l = c.loop-n in record {
      room = l.invariant.whole;
      vectors = none-marked l.marks c.args.depth
          (fill-all nothing c.args.depth c.args.marks.now c.requires.few c.stride-stride.result c.stride-stride.ensures.0 l.marks l.n
          l.invariant c.loop-n-test.false);
    }

pub returns-2 : goal.returns-2
returns-2 c =
    let l = c.loop-n in
    let s = c.stride-stride.result in
    let e = c.stride-stride.ensures.0 in
    let next = fill-next nothing c.args.depth c.args.marks.now c.requires.few s e l.marks l.n l.invariant false c.loop-n-test.true (λ v k e. refl) in
    record {
      room = next.whole;
      vectors = none-marked _ c.args.depth (fill-all nothing c.args.depth c.args.marks.now c.requires.few s e _ (l.n + s) next (omega arith));
    }
