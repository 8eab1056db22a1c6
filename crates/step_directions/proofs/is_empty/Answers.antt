use mathlib.Core.Path.{◌≡◌}
use Prim.Native.Nat.{ℕ, ◌+◌, ◌<◌}
use native.Mathlib.Omega.{arith}
use Rattle.dependence_vectors.proofs.DepthLaws.{depth-positive, depth-first, depth-next}
use Rattle.step_directions.proofs.EmptyLaws.{none_first, none-next, none_at_all}
use Rattle.step_directions.proofs.is_empty.Goals as goal

pub stride-stride-requires : goal.stride-stride-requires
stride-stride-requires c = c.requires

pub overflow_sub-n : goal.overflow_sub-n
overflow_sub-n c =
    let positive : 0 < c.stride-stride.result = depth-positive c.args.s.depth c.stride-stride.result c.stride-stride.ensures.0 in
    positive

pub nonzero_div-stride : goal.nonzero_div-stride
nonzero_div-stride c = depth-positive c.args.s.depth c.stride-stride.result c.stride-stride.ensures.0

pub loop-n-init : goal.loop-n-init
loop-n-init c =
    let s = c.args.s in
    let w = c.stride-stride.result in
    let e = c.stride-stride.ensures.0 in
    (depth-first s.depth w e, none_first s.marks s.depth c.requires w e)

pub bounds-marks-n : goal.bounds-marks-n
bounds-marks-n c = c.loop-n-test.true

pub returns-then-marks-n : goal.returns-then-marks-n
returns-then-marks-n c = λ e. absurd (let z : ◌≡◌ {A = ℕ} 0 1 = cc in omega arith)

pub loop-n-smaller : goal.loop-n-smaller
loop-n-smaller c =
    let positive : 0 < c.stride-stride.result = depth-positive c.args.s.depth c.stride-stride.result c.stride-stride.ensures.0 in
    let t = c.loop-n-test.true in let p = positive in omega arith

pub loop-n-preserved : goal.loop-n-preserved
loop-n-preserved c =
    let s = c.args.s in
    let l = c.loop-n in
    let w = c.stride-stride.result in
    let e = c.stride-stride.ensures.0 in
    (depth-next s.depth w e l.n l.invariant.0, none-next s.marks s.depth c.requires w e l.n l.invariant.0 c.if-marks-n.false l.invariant.1)

pub returns : goal.returns
returns c =
    let s = c.args.s in
    let l = c.loop-n in
    λ _. none_at_all s.marks s.depth c.requires l.n c.loop-n-test.false l.invariant.1

pub returns-else-marks-n : goal.returns-else-marks-n
returns-else-marks-n c =
    let s = c.args.s in
    let l = c.loop-n in
    let w = c.stride-stride.result in
    let e = c.stride-stride.ensures.0 in
    λ _. none_at_all s.marks s.depth c.requires (l.n + w) (omega arith)
    (none-next s.marks s.depth c.requires w e l.n l.invariant.0 c.if-marks-n.false l.invariant.1)
