use mathlib.Core.Bool.{false≢true}
use Prim.Native.Nat.{◌+◌, ◌*◌, ◌-◌, ◌/◌, ◌≤◌, ◌<◌}
use native.Mathlib.Omega.{arith}
use lib.ListN.{length}
use Rattle.dependence_vectors.proofs.NumberLaws.{stride-positive}
use Rattle.dependence_banerjee.proofs.CoverLaws.{covered_none, mark-there, region-in, all-covered}
use Rattle.dependence_banerjee.proofs.covers_vectors.Goals as goal

pub stride-step-requires : goal.stride-step-requires
stride-step-requires c = c.requires.ranges.few

pub overflow_sub-rest : goal.overflow_sub-rest
overflow_sub-rest c = let e = c.stride-step.ensures.0 in let h = stride-positive (6 - c.args.n) in omega arith

pub candidates-end-requires : goal.candidates-end-requires
candidates-end-requires c = c.requires.ranges.few

pub loop-u-init : goal.loop-u-init
loop-u-init c = let a = c.args in (
  omega arith,
  covered_none a.words.now a.a a.b a.d a.n a.ranges
      a.base a.marks.now c.stride-step.result,
)

pub overflow_mul-u : goal.overflow_mul-u
overflow_mul-u c =
    let there : (let a = c.args
    in let t = c.stride-step.result in
    (a.base + c.loop-u.u * t + (t - 1) / 2 < length a.marks.now) × (c.loop-u.u ≤ 364)) = let a = c.args in
    mark-there a.words.now a.a a.b a.d a.n a.ranges a.own a.base a.marks.now c.requires
    c.stride-step.result c.loop-u.u c.candidates-end.result
    c.stride-step.ensures.0 c.candidates-end.ensures c.loop-u-test.true in
    let g = c.well_formed in let i = there in omega arith

pub overflow_add-base : goal.overflow_add-base
overflow_add-base c =
    let there : (let a = c.args
    in let t = c.stride-step.result in
    (a.base + c.loop-u.u * t + (t - 1) / 2 < length a.marks.now) × (c.loop-u.u ≤ 364)) = let a = c.args in
    mark-there a.words.now a.a a.b a.d a.n a.ranges a.own a.base a.marks.now c.requires
    c.stride-step.result c.loop-u.u c.candidates-end.result
    c.stride-step.ensures.0 c.candidates-end.ensures c.loop-u-test.true in
    let g = c.well_formed in let i = there in omega arith

pub overflow_add-base-in-loop-u : goal.overflow_add-base-in-loop-u
overflow_add-base-in-loop-u c =
    let there : (let a = c.args
    in let t = c.stride-step.result in
    (a.base + c.loop-u.u * t + (t - 1) / 2 < length a.marks.now) × (c.loop-u.u ≤ 364)) = let a = c.args in
    mark-there a.words.now a.a a.b a.d a.n a.ranges a.own a.base a.marks.now c.requires
    c.stride-step.result c.loop-u.u c.candidates-end.result
    c.stride-step.ensures.0 c.candidates-end.ensures c.loop-u-test.true in
    let g = c.well_formed in let i = there in omega arith

pub bounds-marks-base : goal.bounds-marks-base
bounds-marks-base c =
    let there : (let a = c.args
    in let t = c.stride-step.result in
    (a.base + c.loop-u.u * t + (t - 1) / 2 < length a.marks.now) × (c.loop-u.u ≤ 364)) = let a = c.args in
    mark-there a.words.now a.a a.b a.d a.n a.ranges a.own a.base a.marks.now c.requires
    c.stride-step.result c.loop-u.u c.candidates-end.result
    c.stride-step.ensures.0 c.candidates-end.ensures c.loop-u-test.true in
    there.0

pub overflow_mul-a : goal.overflow_mul-a
overflow_mul-a c = let x = c.requires.source in omega arith

pub overflow_mul-b : goal.overflow_mul-b
overflow_mul-b c = let x = c.requires.sink in omega arith

pub impossible-requires : goal.impossible-requires
impossible-requires c = let a = c.args in region-in a.words.now a.a
    a.b a.d a.n a.ranges a.own a.base a.marks.now c.requires

pub returns-then-not-impossible : goal.returns-then-not-impossible
returns-then-not-impossible c = λ e. absurd (false≢true e)

pub returns : goal.returns
returns c = let a = c.args in let l = c.loop-u in let f = c.candidates-end.ensures in let h = c.loop-u-test.false in
    λ _. all-covered a.words.now a.a a.b a.d a.n a.ranges a.own a.base a.marks.now c.requires
    c.stride-step.result l.u c.stride-step.ensures.0 (omega arith) l.invariant.1
