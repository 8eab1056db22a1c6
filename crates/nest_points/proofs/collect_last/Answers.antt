use mathlib.Core.Path.{refl}
use native.Mathlib.Omega.{arith}
use Rattle.nest_points.proofs.CollectLaws.{shallow, outer-range, start, same-room, point-fits, point-out, level_out}
use Rattle.nest_points.proofs.collect_last.Goals as goal

pub range-e-requires : goal.range-e-requires
range-e-requires c = outer-range c.args.out.now c.requires

pub index_count-n-requires : goal.index_count-n-requires
index_count-n-requires c = (c.range-e.ensures.low-size, c.range-e.ensures.high-size)

pub overflow_add-width : goal.overflow_add-width
overflow_add-width c = let h = shallow c.args.out.now c.requires in record { fits = omega arith }

pub loop-t-init : goal.loop-t-init
loop-t-init c = let g = start c.args.out.now c.requires c.range-e.result.lo
    in (omega arith, g.0, g.1)

pub store_point-requires : goal.store_point-requires
store_point-requires c = let l = c.loop-t in let u = c.index_count-n.ensures.1 in let v = c.loop-t-test.true in
    let f = point-fits c.args.out.now c.requires c.range-e.ensures
    c.index_count-n.ensures.0 v l.invariant.1 l.invariant.2 refl in
    (omega arith, c.range-e.ensures.low-size, omega arith)

pub overflow_add-p : goal.overflow_add-p
overflow_add-p c = let l = c.loop-t in
    let f = point-fits c.args.out.now c.requires c.range-e.ensures
    c.index_count-n.ensures.0 c.loop-t-test.true l.invariant.1 l.invariant.2
    refl in
    let g = same-room c.args.out.now c.requires c.range-e.ensures
    c.index_count-n.ensures.0 l.t l.out l.invariant.0 l.invariant.2 in record { fits = omega arith }

pub loop-t-preserved : goal.loop-t-preserved
loop-t-preserved c = let l = c.loop-t in let v = c.loop-t-test.true in
    let g = point-out c.args.out.now c.requires c.range-e.ensures
    c.index_count-n.ensures.0 v l.invariant.1 l.invariant.2 refl c.store_point.new.out
    c.store_point.ensures in
    (omega arith, g.0, g.1)

pub shape_of-out : goal.shape_of-out
shape_of-out c = let l = c.loop-t in same-room c.args.out.now c.requires
    c.range-e.ensures c.index_count-n.ensures.0 l.t l.out l.invariant.0 l.invariant.2

pub returns : goal.returns
returns c = let l = c.loop-t in level_out c.args.out.now c.requires
    c.range-e.ensures c.index_count-n.ensures.0 l.t l.p l.out l.invariant.0 c.loop-t-test.false
    l.invariant.1 l.invariant.2
