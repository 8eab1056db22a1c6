use Prim.Native.Nat.{◌+◌, ◌*◌, ◌≤◌}
use native.Mathlib.Omega.{arith}
use lib.ListN.{length}
use Rattle.model.specs.Grammar.{most_loops}
use Rattle.step_points.proofs.MoveLaws.{none_written, read_fits, write-fits, row_near, one_written, all-written}
use Rattle.step_points.proofs.move_points.Goals as goal

pub depth_after_steps-loops-requires : goal.depth_after_steps-loops-requires
depth_after_steps-loops-requires c = c.requires.taken

pub loop-j-init : goal.loop-j-init
loop-j-init c = none_written c.args.out.now c.requires c.depth_after_steps-loops.ensures

pub overflow_mul-j : goal.overflow_mul-j
overflow_mul-j c =
    let reads : c.loop-j.j * c.args.depth + c.args.depth ≤ length c.args.points.now = read_fits c.args.out.now c.requires c.depth_after_steps-loops.ensures c.loop-j.j c.loop-j-test.true in
    let h = reads in record { fits = omega arith }

pub row_at-row-requires : goal.row_at-row-requires
row_at-row-requires c =
    let reads : c.loop-j.j * c.args.depth + c.args.depth ≤ length c.args.points.now = read_fits c.args.out.now c.requires c.depth_after_steps-loops.ensures c.loop-j.j c.loop-j-test.true in
    (reads, c.requires.stored.few)

pub overflow_mul-j-in-loop-j : goal.overflow_mul-j-in-loop-j
overflow_mul-j-in-loop-j c =
    let writes : c.loop-j.j * c.depth_after_steps-loops.result + most_loops ≤ length c.args.out.now = write-fits c.args.out.now c.requires c.depth_after_steps-loops.ensures c.loop-j.j c.loop-j-test.true in
    let h = writes in record { fits = omega arith }

pub store_moved-requires : goal.store_moved-requires
store_moved-requires c =
    let writes : c.loop-j.j * c.depth_after_steps-loops.result + most_loops ≤ length c.args.out.now = write-fits c.args.out.now c.requires c.depth_after_steps-loops.ensures c.loop-j.j c.loop-j-test.true in
    let h = writes in
    let e = c.loop-j.invariant.room in (
      c.requires.taken,
      row_near c.args.out.now c.requires c.depth_after_steps-loops.ensures c.loop-j.j c.loop-j-test.true c.row_at-row.result
          c.row_at-row.ensures,
      omega arith,
    )

pub loop-j-preserved : goal.loop-j-preserved
loop-j-preserved c =
    one_written c.args.out.now c.requires c.depth_after_steps-loops.ensures c.loop-j.j c.loop-j-test.true c.loop-j.out
    c.row_at-row.result _ c.loop-j.invariant c.row_at-row.ensures c.store_moved.ensures

pub shape_of-out : goal.shape_of-out
shape_of-out c = c.loop-j.invariant.room

pub returns : goal.returns
returns c = (
  all-written c.args.out.now c.requires c.depth_after_steps-loops.ensures c.loop-j.out c.loop-j.j c.loop-j.invariant
      c.loop-j-test.false,
  c.loop-j.invariant.room,
)
