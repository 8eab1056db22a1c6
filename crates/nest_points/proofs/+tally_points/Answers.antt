use mathlib.Core.Path.{refl, sym, ◌∙◌}
use native.Mathlib.Omega.{arith}
use Rattle.nest_points.proofs.StepLaws.{index-fits, index-set, take-moved, length_moved, still_kept}
use Rattle.nest_points.proofs.WalkLaws.{room, outer-length, outer-range, leaf-in, leaf-out, start, turn_in, turn-out, level_out}
use Rattle.nest_points.proofs.+tally_points.Goals as goal

pub slice_bounds-include-end : goal.slice_bounds-include-end
slice_bounds-include-end t c = let h = (room c.requires.0 c.requires.1).1 in omega arith

pub slice_bounds-include-end-then-left-eq1 : goal.slice_bounds-include-end-then-left-eq1
slice_bounds-include-end-then-left-eq1 t c = sym (outer-length c.requires.0 c.requires.1)

pub include-requires : goal.include-requires
include-requires t c = leaf-in c.requires.0 c.requires.1

pub shape_of-point-then-left-eq1 : goal.shape_of-point-then-left-eq1
shape_of-point-then-left-eq1 t c = refl

pub returns-then-left-eq1 : goal.returns-then-left-eq1
returns-then-left-eq1 t c = (
  leaf-out c.requires.0 c.requires.1 c.include.result
      c.if-left-eq1.true c.include.ensures,
  refl,
)

pub slice_bounds-range-end : goal.slice_bounds-range-end
slice_bounds-range-end t c = let h = (room c.requires.0 c.requires.1).1 in omega arith

pub slice_bounds-range-end-2 : goal.slice_bounds-range-end-2
slice_bounds-range-end-2 t c = sym (outer-length c.requires.0 c.requires.1)

pub range-e-requires : goal.range-e-requires
range-e-requires t c = outer-range c.requires.0 c.requires.1

pub index_count-n-requires : goal.index_count-n-requires
index_count-n-requires t c = (c.range-e.ensures.low-size, c.range-e.ensures.high-size)

pub loop-t-init : goal.loop-t-init
loop-t-init t c = (
  omega arith,
  c.requires.0.counted,
  start c.requires.0
      c.requires.1 c.range-e.result.lo,
  refl,
  refl,
)

pub overflow_add-point : goal.overflow_add-point
overflow_add-point t c = let u = c.index_count-n.ensures.1 in let v = c.loop-t-test.true
    in index-fits c.range-e.result.lo c.loop-t.t
    c.range-e.ensures.low-size (omega arith)

pub bounds-point-k : goal.bounds-point-k
bounds-point-k t c = let h = (room
    c.requires.0 c.requires.1).1 in let w = c.loop-t.invariant.4 in omega arith

pub overflow_add-k : goal.overflow_add-k
overflow_add-k t c = let h = (room c.requires.0
    c.requires.1).0 in record { fits = omega arith }

pub overflow_sub-left : goal.overflow_sub-left
overflow_sub-left t c = c.requires.0.some

pub tally_points-b-requires : goal.tally_points-b-requires
tally_points-b-requires t c = let l = c.loop-t in let r = c.range-e in let u = c.index_count-n.ensures.1 in let v = c.loop-t-test.true
    in let f = l.invariant.4 in
    let h = c.requires.0.some in let g = (room c.requires.0 c.requires.1).1 in
    let q = index-set r.result.lo l.t r.ensures.low-size (omega arith) l.point c.args.k in
    let x = take-moved c.args.k l.point _ l.invariant.3 q (omega arith) in
    let d = length_moved c.args.k l.point _ l.invariant.3 q in let w = c.requires.1 in (
      omega arith,
      (
        turn_in c.requires.0 c.requires.1 c.if-left-eq1.false r.ensures
            c.index_count-n.ensures.0 l.b _ v x l.invariant.1,
        omega arith,
      ),
    )

pub loop-t-preserved : goal.loop-t-preserved
loop-t-preserved t c = let l = c.loop-t in let r = c.range-e in let u = c.index_count-n.ensures.1
    in let v = c.loop-t-test.true in let f = l.invariant.4 in
    let h = c.requires.0.some in let g = (room c.requires.0 c.requires.1).1 in let y = c.tally_points-b in
    let q = index-set r.result.lo l.t r.ensures.low-size (omega arith) l.point c.args.k in
    let x = take-moved c.args.k l.point _ l.invariant.3 q (omega arith) in (
      omega arith,
      y.ensures.0.counted,
      turn-out c.requires.0 c.requires.1 c.if-left-eq1.false
          r.ensures c.index_count-n.ensures.0 l.b _ v x y.result l.invariant.2
          y.ensures.0,
      still_kept c.args.k l.point _ l.invariant.3 q y.new.point y.ensures.1,
      y.auto.point ∙ length_moved c.args.k l.point _ l.invariant.3 q ∙ f,
    )

pub shape_of-point : goal.shape_of-point
shape_of-point t c = c.loop-t.invariant.4

pub returns : goal.returns
returns t c = let l = c.loop-t in (
  level_out c.requires.0 c.requires.1 c.if-left-eq1.false c.range-e.ensures
      c.index_count-n.ensures.0 l.t l.b l.invariant.0 c.loop-t-test.false l.invariant.1 l.invariant.2,
  l.invariant.3,
)
