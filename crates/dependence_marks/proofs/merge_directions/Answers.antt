use mathlib.Core.Path.{sym, ◌∙◌}
use Prim.Native.Nat.{◌+◌, ◌*◌, ◌≤◌, ◌<◌}
use native.Mathlib.Omega.{arith}
use lib.ListN.{length}
use Rattle.model.specs.Grammar.{most_statements}
use Rattle.model.specs.Directions.{kind_count, vector_count}
use Rattle.dependence_marks.proofs.DirectionLaws.{blocks-few, row_ends, row-length, merge_none, merge-next, merge-all}
use Rattle.dependence_marks.proofs.merge_directions.Goals as goal

pub overflow_mul-blocks : goal.overflow_mul-blocks
overflow_mul-blocks c = let f = (blocks-few c.args.marks.now c.args.n c.args.depth c.requires.0).0 in omega arith

pub overflow_mul-blocks-2 : goal.overflow_mul-blocks-2
overflow_mul-blocks-2 c = let f = (blocks-few c.args.marks.now c.args.n c.args.depth c.requires.0).1 in omega arith

pub clear_vectors-requires : goal.clear_vectors-requires
clear_vectors-requires c = let p = c.requires in record { room = p.1; few = p.0.shallow }

pub loop-b-init : goal.loop-b-init
loop-b-init c =
    let r = c.clear_vectors in
    merge_none c.args.marks.now c.args.depth _ r.new.marks r.ensures

pub overflow_mul-b : goal.overflow_mul-b
overflow_mul-b c =
    let ends : (c.loop-b.b < most_statements * most_statements * kind_count)
    × (c.loop-b.b * vector_count + vector_count ≤ length c.args.marks.now) = row_ends c.args.marks.now c.args.n c.args.depth c.requires.0 c.loop-b.b
    c.loop-b-test.true in
    let f = ends.0 in omega arith

pub overflow_mul-b-in-loop-b : goal.overflow_mul-b-in-loop-b
overflow_mul-b-in-loop-b c =
    let ends : (c.loop-b.b < most_statements * most_statements * kind_count)
    × (c.loop-b.b * vector_count + vector_count ≤ length c.args.marks.now) = row_ends c.args.marks.now c.args.n c.args.depth c.requires.0 c.loop-b.b
    c.loop-b-test.true in
    let f = ends.0 in omega arith

pub merge-requires : goal.merge-requires
merge-requires c = (
  record { room = c.loop-b.invariant.room; few = c.requires.0.shallow },
  row-length c.args.marks.now c.args.n c.args.depth c.requires.0
      c.loop-b.b c.loop-b-test.true,
)

pub loop-b-preserved : goal.loop-b-preserved
loop-b-preserved c =
    let l = c.loop-b in
    let r = c.merge in
    merge-next c.args.marks.now c.args.depth _ l.set r.new.marks l.b c.loop-b-test.true
    l.invariant r.ensures

pub shape_of-set : goal.shape_of-set
shape_of-set c = c.loop-b.invariant.room ∙ sym c.requires.1

pub returns : goal.returns
returns c =
    let l = c.loop-b in
    merge-all c.args.marks.now c.args.n c.args.depth c.requires.0.shallow l.set l.b c.loop-b-test.false l.invariant
