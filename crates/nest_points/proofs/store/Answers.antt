use mathlib.Core.Path.{sym}
use borrow.Author.Rules.{rules}
use native.Mathlib.Omega.{arith}
use Rattle.lists.proofs.PartLaws.{put-nil}
use Rattle.nest_points.proofs.StoreLaws.{copy-room, copy_more, copy_done}
use Rattle.nest_points.proofs.store.Goals as goal

pub loop-j-init : goal.loop-j-init
loop-j-init c = (omega arith, sym (put-nil _ _))

pub bounds-out-at : goal.bounds-out-at
bounds-out-at c = let l = c.loop-j in let n = copy-room c.args.out.now
    c.args.row.now c.args.at c.requires l.out l.j l.invariant.1 l.invariant.0 in omega arith

pub loop-j-preserved : goal.loop-j-preserved
loop-j-preserved c = let l = c.loop-j in (
  omega arith,
  copy_more c.args.out.now c.args.row.now c.args.at c.requires l.out l.j l.invariant.1 c.loop-j-test.true
      (search rules),
)

pub shape_of-out : goal.shape_of-out
shape_of-out c = let l = c.loop-j in copy-room c.args.out.now c.args.row.now c.args.at c.requires
    l.out l.j l.invariant.1 l.invariant.0

pub returns : goal.returns
returns c = let l = c.loop-j in copy_done c.args.out.now c.args.row.now c.args.at c.requires
    l.out l.j l.invariant.1 (omega (arith, l.invariant.0, c.loop-j-test.false))
