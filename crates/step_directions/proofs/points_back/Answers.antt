use Prim.Native.Nat.{◌+◌, ◌<◌}
use native.Mathlib.Omega.{arith}
use Rattle.dependence_vectors.proofs.DepthLaws.{depth-positive, depth-middle, depth-next}
use Rattle.step_directions.proofs.BackLaws.{none_first, none-next, one-back, no-back}
use Rattle.step_directions.proofs.points_back.Goals as goal

pub stride-stride-requires : goal.stride-stride-requires
stride-stride-requires c = c.requires

pub overflow_step-n : goal.overflow_step-n
overflow_step-n c = let b = c.stride-stride.ensures.1 in omega arith

pub nonzero_div-stride : goal.nonzero_div-stride
nonzero_div-stride c = depth-positive c.args.s.depth c.stride-stride.result c.stride-stride.ensures.0

pub loop-n-init : goal.loop-n-init
loop-n-init c =
    let positive : 0 < c.stride-stride.result = depth-positive c.args.s.depth c.stride-stride.result c.stride-stride.ensures.0 in
    let s = c.args.s in
    let few = c.requires in
    let w = c.stride-stride.result in
    let e = c.stride-stride.ensures.0 in
    let p = positive in
    (omega arith, depth-next s.depth w e 364 (depth-middle s.depth few), none_first s.marks s.depth few w e)

pub bounds-marks-n : goal.bounds-marks-n
bounds-marks-n c = c.loop-n-test.true

pub returns-then-marks-n : goal.returns-then-marks-n
returns-then-marks-n c =
    let s = c.args.s in
    let l = c.loop-n in
    one-back s.marks s.depth c.requires l.n l.invariant.1 l.invariant.0 c.loop-n-test.true c.if-marks-n.true

pub loop-n-smaller : goal.loop-n-smaller
loop-n-smaller c =
    let positive : 0 < c.stride-stride.result = depth-positive c.args.s.depth c.stride-stride.result c.stride-stride.ensures.0 in
    let t = c.loop-n-test.true in let p = positive in omega arith

pub loop-n-preserved : goal.loop-n-preserved
loop-n-preserved c =
    let s = c.args.s in
    let l = c.loop-n in
    let w = c.stride-stride.result in
    let e = c.stride-stride.ensures.0 in
    let h = l.invariant.0 in (
      omega arith,
      depth-next s.depth w e l.n l.invariant.1,
      none-next s.marks s.depth c.requires w e l.n l.invariant.1 c.if-marks-n.false
          l.invariant.2,
    )

pub returns : goal.returns
returns c =
    let s = c.args.s in
    let l = c.loop-n in
    no-back s.marks s.depth c.requires l.n c.loop-n-test.false l.invariant.2

pub returns-else-marks-n : goal.returns-else-marks-n
returns-else-marks-n c =
    let s = c.args.s in
    let l = c.loop-n in
    let w = c.stride-stride.result in
    let e = c.stride-stride.ensures.0 in
    no-back s.marks s.depth c.requires (l.n + w) (omega arith)
    (none-next s.marks s.depth c.requires w e l.n l.invariant.1 c.if-marks-n.false l.invariant.2)
