use mathlib.Core.Path.{refl, sym, ◌∙◌}
use native.Mathlib.Omega.{arith}
use Rattle.nest_points.proofs.CollectLaws.{shallow, outer-range, last-in, last_out, start, same-room, turn_in, turn-out, level_out}
use Rattle.nest_points.proofs.StepLaws.{index-fits, index-set, take-moved, length_moved, still_kept}
use Rattle.nest_points.proofs.+collect.Goals as goal

pub slice_bounds-collect_last-end : goal.slice_bounds-collect_last-end
slice_bounds-collect_last-end t c = let w = c.requires.1 in omega arith

pub slice_bounds-collect_last-end-then-left-eq1 : goal.slice_bounds-collect_last-end-then-left-eq1
slice_bounds-collect_last-end-then-left-eq1 t c = sym c.requires.0.stand

pub collect_last-requires : goal.collect_last-requires
collect_last-requires t c = last-in c.args.out.now c.requires.0
    c.if-left-eq1.true

pub shape_of-point-then-left-eq1 : goal.shape_of-point-then-left-eq1
shape_of-point-then-left-eq1 t c = refl

pub shape_of-out-then-left-eq1 : goal.shape_of-out-then-left-eq1
shape_of-out-then-left-eq1 t c = c.collect_last.auto.out

pub returns-then-left-eq1 : goal.returns-then-left-eq1
returns-then-left-eq1 t c = (
  last_out c.args.out.now c.requires.0
      c.if-left-eq1.true c.collect_last.ensures,
  refl,
)

pub slice_bounds-range-end : goal.slice_bounds-range-end
slice_bounds-range-end t c = let w = c.requires.1 in omega arith

pub slice_bounds-range-end-2 : goal.slice_bounds-range-end-2
slice_bounds-range-end-2 t c = sym c.requires.0.stand

pub range-e-requires : goal.range-e-requires
range-e-requires t c = outer-range c.args.out.now c.requires.0

pub index_count-n-requires : goal.index_count-n-requires
index_count-n-requires t c = (c.range-e.ensures.low-size, c.range-e.ensures.high-size)

pub loop-t-init : goal.loop-t-init
loop-t-init t c = let g = start c.args.out.now c.requires.0
    c.range-e.result.lo in (omega arith, g.0, g.1, refl, refl)

pub overflow_add-point : goal.overflow_add-point
overflow_add-point t c = let u = c.index_count-n.ensures.1 in let v = c.loop-t-test.true
    in index-fits c.range-e.result.lo c.loop-t.t
    c.range-e.ensures.low-size (omega arith)

pub bounds-point-k : goal.bounds-point-k
bounds-point-k t c = let h = c.requires.0.some
    in let w = c.requires.1 in let f = c.loop-t.invariant.4 in omega arith

pub overflow_add-k : goal.overflow_add-k
overflow_add-k t c = let h = shallow c.args.out.now
    c.requires.0 in record { fits = omega arith }

pub overflow_sub-left : goal.overflow_sub-left
overflow_sub-left t c = c.requires.0.some

pub collect-p-requires : goal.collect-p-requires
collect-p-requires t c = let l = c.loop-t in let r = c.range-e in let u = c.index_count-n.ensures.1
    in let v = c.loop-t-test.true in let f = l.invariant.4 in
    let h = c.requires.0.some in let w = c.requires.1 in let m = c.requires.0 in
    let q = index-set r.result.lo l.t r.ensures.low-size (omega arith) l.point c.args.k in
    let x = take-moved c.args.k l.point _ l.invariant.3 q (omega arith) in
    let d = length_moved c.args.k l.point _ l.invariant.3 q in (
      omega arith,
      (
        turn_in c.args.out.now c.requires.0 r.ensures c.index_count-n.ensures.0 v l.invariant.1 l.invariant.2 c.if-left-eq1.false x,
        omega arith,
      ),
    )

pub loop-t-preserved : goal.loop-t-preserved
loop-t-preserved t c = let l = c.loop-t in let r = c.range-e in let u = c.index_count-n.ensures.1
    in let v = c.loop-t-test.true in let f = l.invariant.4 in
    let h = c.requires.0.some in let w = c.requires.1 in let y = c.collect-p in
    let q = index-set r.result.lo l.t r.ensures.low-size (omega arith) l.point c.args.k in
    let x = take-moved c.args.k l.point _ l.invariant.3 q (omega arith) in
    let g = turn-out c.args.out.now c.requires.0 r.ensures c.index_count-n.ensures.0 v l.invariant.1 l.invariant.2 c.if-left-eq1.false x y.new.out y.result y.ensures.0 in (
      omega arith,
      g.0,
      g.1,
      still_kept c.args.k l.point _ l.invariant.3 q y.new.point y.ensures.1,
      y.auto.point ∙ length_moved c.args.k l.point _ l.invariant.3 q ∙ f,
    )

pub shape_of-point : goal.shape_of-point
shape_of-point t c = c.loop-t.invariant.4

pub shape_of-out : goal.shape_of-out
shape_of-out t c = let l = c.loop-t in same-room
    c.args.out.now c.requires.0 c.range-e.ensures c.index_count-n.ensures.0 l.t l.out
    l.invariant.0 l.invariant.2

pub returns : goal.returns
returns t c = let l = c.loop-t in (
  level_out c.args.out.now c.requires.0 c.range-e.ensures c.index_count-n.ensures.0 l.t
      l.p l.out l.invariant.0 c.loop-t-test.false l.invariant.1 l.invariant.2,
  l.invariant.3,
)
