-- `change_subscript`: a row read, changed, tried and put back.
use Prim.Native.Nat.{◌+◌, ◌*◌}
use native.Mathlib.Omega.{arith}
use Rattle.nest_rows.specs.Rows.{RowIs}
use Rattle.nest_rows.proofs.RowLaws.{row-part}
use Rattle.step_subscripts.proofs.ChangeLaws.{change-shallow, row_at, row_in, change-tried}
use Rattle.step_subscripts.proofs.change_subscript.Goals as goal

pub row_after-ds-requires : goal.row_after-ds-requires
row_after-ds-requires c =
    let row : (let s = c.args in RowIs s.n c.row_at-cs.result (row_at s.words.now s.n s.j)) = let i = c.requires.inside in row-part c.args.words.now (c.args.j * 8 + 1) c.args.n c.row_at-cs.result
    (omega arith) c.requires.step.few c.row_at-cs.ensures in
    (c.requires.step, row_in c.args.words.now c.args.j c.args.n c.requires.small c.row_at-cs.result row)

pub put_row-requires : goal.put_row-requires
put_row-requires c =
    let m = change-shallow c.args.words.now c.args.j 1 c.args.n c.args.m c.args.stage c.requires in
    let i = c.requires.inside in
    (omega arith, omega arith)

pub returns : goal.returns
returns c =
    let row : (let s = c.args in RowIs s.n c.row_at-cs.result (row_at s.words.now s.n s.j)) = let i = c.requires.inside in row-part c.args.words.now (c.args.j * 8 + 1) c.args.n c.row_at-cs.result
    (omega arith) c.requires.step.few c.row_at-cs.ensures in
    change-tried c.args.words.now c.args.j c.args.n c.args.m c.args.stage c.requires
    c.row_at-cs.result c.row_after-ds.result
    row c.row_after-ds.ensures _ _
    c.put_row.ensures
