use mathlib.Core.Bool.{true}
use Prim.Native.Nat.{◌+◌, ◌-◌, ◌<◌}
use native.Mathlib.Omega.{arith}
use lib.ListN.{length, set}
use Rattle.lists.proofs.PartLaws.{row_fits}
use Rattle.dependence_pair_search.proofs.WalkLaws.{Walking, walk_begins, walk-turns, walk_ends}
use Rattle.dependence_pair_search.proofs.mark_chain.Goals as goal

pub loop-l-init : goal.loop-l-init
loop-l-init c = let s = c.args in walk_begins s.depth s.points.now s.next.now s.base s.y s.marks.now s.first

pub overflow_sub-x : goal.overflow_sub-x
overflow_sub-x c = let t = c.loop-l-test.true in omega arith

pub stored_vector-requires : goal.stored_vector-requires
stored_vector-requires c = let l = c.loop-l in let i = l.invariant.inside
    in let t = c.loop-l-test.true in
    let r = row_fits c.args.depth (l.l - 1) c.args.first (omega arith) in let p = c.requires.0.sources
    in (c.requires.0.shallow, c.requires.1, omega arith, c.requires.0.sink)

pub overflow_add-marks : goal.overflow_add-marks
overflow_add-marks c =
    let mark-in : c.args.base + c.stored_vector.result < length
    c.loop-l.marks = let p = c.requires.0.room in let e = c.stored_vector.ensures.1
    in let i = c.loop-l.invariant.same_length in omega arith in
    let h = mark-in in let i = c.loop-l.invariant.same_length in let g = c.well_formed
    in omega arith

pub bounds-marks-base : goal.bounds-marks-base
bounds-marks-base c =
    let mark-in : c.args.base + c.stored_vector.result < length
    c.loop-l.marks = let p = c.requires.0.room in let e = c.stored_vector.ensures.1
    in let i = c.loop-l.invariant.same_length in omega arith in
    mark-in

pub loop-l-smaller : goal.loop-l-smaller
loop-l-smaller c =
    let mark-in : c.args.base + c.stored_vector.result < length
    c.loop-l.marks = let p = c.requires.0.room in let e = c.stored_vector.ensures.1
    in let i = c.loop-l.invariant.same_length in omega arith in
    let turn : (let s = c.args
    in let l = c.loop-l in
    (c.to_index-l.result < l.l) × Walking s.depth s.points.now s.next.now s.base s.y s.first s.marks.now
    (set l.marks (s.base + c.stored_vector.result) true) c.to_index-l.result (l.steps + 1)) = let s = c.args in let l = c.loop-l in
    walk-turns s.depth s.points.now s.next.now s.base s.y s.first s.marks.now l.marks l.l l.steps
    c.stored_vector.result c.to_index-l.result c.requires.0.falling
    c.loop-l-test.true c.stored_vector.ensures.0 mark-in
    c.to_index-l.ensures l.invariant in
    turn.0

pub loop-l-preserved : goal.loop-l-preserved
loop-l-preserved c =
    let mark-in : c.args.base + c.stored_vector.result < length
    c.loop-l.marks = let p = c.requires.0.room in let e = c.stored_vector.ensures.1
    in let i = c.loop-l.invariant.same_length in omega arith in
    let turn : (let s = c.args
    in let l = c.loop-l in
    (c.to_index-l.result < l.l) × Walking s.depth s.points.now s.next.now s.base s.y s.first s.marks.now
    (set l.marks (s.base + c.stored_vector.result) true) c.to_index-l.result (l.steps + 1)) = let s = c.args in let l = c.loop-l in
    walk-turns s.depth s.points.now s.next.now s.base s.y s.first s.marks.now l.marks l.l l.steps
    c.stored_vector.result c.to_index-l.result c.requires.0.falling
    c.loop-l-test.true c.stored_vector.ensures.0 mark-in
    c.to_index-l.ensures l.invariant in
    turn.1

pub shape_of-marks : goal.shape_of-marks
shape_of-marks c = c.loop-l.invariant.same_length

pub returns : goal.returns
returns c = let s = c.args in let l = c.loop-l in let i = l.invariant.inside in (
  omega arith,
  walk_ends s.depth s.points.now s.next.now s.base s.y s.first s.marks.now l.marks l.l l.steps
      c.loop-l-test.false l.invariant,
)
