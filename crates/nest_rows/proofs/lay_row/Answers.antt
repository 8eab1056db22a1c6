use mathlib.Core.Path.{sym}
use native.Mathlib.Omega.{arith}
use Rattle.lists.proofs.PartLaws.{put-nil}
use Rattle.lists.proofs.CopyLaws.{copy-room, copy_done}
use Rattle.nest_rows.proofs.RowLaws.{narrow-in, row_more}
use Rattle.nest_rows.proofs.lay_row.Goals as goal

pub loop-j-init : goal.loop-j-init
loop-j-init c = (omega arith, sym (put-nil _ _))

pub narrow-requires : goal.narrow-requires
narrow-requires c = narrow-in c.args.words.now c.args.row.now c.args.at c.requires
    c.loop-j.j

pub bounds-words-at : goal.bounds-words-at
bounds-words-at c = let l = c.loop-j in let n = copy-room
    c.args.words.now c.args.row.now c.args.at c.requires.0 l.words l.j l.invariant.1 l.invariant.0 in omega arith

pub loop-j-preserved : goal.loop-j-preserved
loop-j-preserved c =
    let l = c.loop-j in (
      omega arith,
      row_more c.args.words.now c.args.row.now c.args.at c.requires l.words l.j l.invariant.1
          c.loop-j-test.true c.narrow.ensures,
    )

pub shape_of-words : goal.shape_of-words
shape_of-words c = let l = c.loop-j in copy-room c.args.words.now c.args.row.now c.args.at
    c.requires.0 l.words l.j l.invariant.1 l.invariant.0

pub returns : goal.returns
returns c = let l = c.loop-j in copy_done c.args.words.now c.args.row.now c.args.at c.requires.0
    l.words l.j l.invariant.1 (omega (arith, l.invariant.0, c.loop-j-test.false))
