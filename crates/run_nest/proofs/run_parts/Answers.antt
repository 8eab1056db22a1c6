use mathlib.Core.Path.{refl, ◌∙◌}
use native.Mathlib.Omega.{arith}
use native.Mathlib.Nat.{mul-le-mul_left}
use Rattle.run_nest.proofs.PartLaws.{none_passed, all-passed, begins, part_in, part-passed}
use Rattle.run_nest.proofs.run_parts.Goals as goal

pub loop-first-init : goal.loop-first-init
loop-first-init c = (
  refl,
  none_passed _ c.args.points.now c.args.count c.args.store.now c.requires.0
      c.requires.1,
)

pub overflow_sub-count : goal.overflow_sub-count
overflow_sub-count c = c.loop-first.invariant.1.inside

pub part_size-n-requires : goal.part_size-n-requires
part_size-n-requires c = let t = c.loop-first-test.true in omega arith

pub overflow_mul-first : goal.overflow_mul-first
overflow_mul-first c = let b = begins _ c.args.points.now c.args.count c.args.store.now
    c.requires.0 c.requires.1 c.loop-first.invariant.1 in omega arith

pub offset_bounds-points-first : goal.offset_bounds-points-first
offset_bounds-points-first c = let b = begins _ c.args.points.now c.args.count
    c.args.store.now c.requires.0 c.requires.1 c.loop-first.invariant.1 in omega arith

pub slice_bounds-run_part-count : goal.slice_bounds-run_part-count
slice_bounds-run_part-count c = (begins _ c.args.points.now c.args.count c.args.store.now
    c.requires.0 c.requires.1 c.loop-first.invariant.1).0

pub run_part-requires : goal.run_part-requires
run_part-requires c = let l = c.loop-first in let r = c.part_size-n in (
  part_in _ c.args.points.now c.args.count c.args.store.now c.requires.0 c.requires.1 l.invariant.1 r.result r.ensures.1,
  let m = mul-le-mul_left c.args.nest.now.header.now.accesses r.ensures.2 in let k = l.invariant.0 in let n = c.requires.2 in omega arith,
)

pub overflow_add-first : goal.overflow_add-first
overflow_add-first c = let i = c.loop-first.invariant.1.inside
    in let r = c.part_size-n.ensures.1 in let b = c.ranges.count.fits in omega arith

pub loop-first-smaller : goal.loop-first-smaller
loop-first-smaller c = let t = c.loop-first-test.true
    in let r = c.part_size-n.ensures.0 in omega arith

pub loop-first-preserved : goal.loop-first-preserved
loop-first-preserved c = let l = c.loop-first in let r = c.part_size-n in let k = c.run_part in (
  k.auto.numbers ∙ l.invariant.0,
  part-passed _ c.args.points.now c.args.count c.args.store.now c.requires.0 c.requires.1
      l.invariant.1 r.result r.ensures.1 _ k.auto.store k.ensures,
)

pub shape_of-numbers : goal.shape_of-numbers
shape_of-numbers c = c.loop-first.invariant.0

pub shape_of-store : goal.shape_of-store
shape_of-store c = c.loop-first.invariant.1.same

pub returns : goal.returns
returns c = all-passed _ c.args.points.now c.args.count c.args.store.now c.requires.0
    c.requires.1 c.loop-first.invariant.1 c.loop-first-test.false
