use mathlib.Core.Path.{◌≡◌, sym}
use native.Mathlib.Omega.{arith}
use lib.ListN.{length, take}
use lib.Seq.{length-take-le}
use Rattle.nest_rows.proofs.RowLaws.{tried-no, tried-yes, passed-small}
use borrow.Author.Rules.{rules}
use Rattle.nest_rows.proofs.put_row.Goals as goal

pub returns-then-not-small_row : goal.returns-then-not-small_row
returns-then-not-small_row c = tried-no _ c.args.words.now c.args.at _ c.small_row.result
    c.small_row.ensures c.if-not-small_row.true

pub slice_bounds-lay_row-end : goal.slice_bounds-lay_row-end
slice_bounds-lay_row-end c =
    let front : length (take c.args.n c.args.row) ≡ c.args.n = let e : length c.args.row ≡ 6 = search rules in let p = c.requires in length-take-le c.args.n c.args.row (omega arith) in
    sym front

pub lay_row-requires : goal.lay_row-requires
lay_row-requires c =
    let front : length (take c.args.n c.args.row) ≡ c.args.n = let e : length c.args.row ≡ 6 = search rules in let p = c.requires in length-take-le c.args.n c.args.row (omega arith) in
    let n = front in let p = c.requires
    in (
      omega arith,
      passed-small c.small_row.result _ c.small_row.ensures
          c.if-not-small_row.false,
    )

pub returns : goal.returns
returns c =
    let front : length (take c.args.n c.args.row) ≡ c.args.n = let e : length c.args.row ≡ 6 = search rules in let p = c.requires in length-take-le c.args.n c.args.row (omega arith) in
    let n = front in let p = c.requires in tried-yes _ c.args.words.now
    c.args.at _ c.small_row.result _ c.small_row.ensures
    c.if-not-small_row.false (omega arith)
    c.lay_row.ensures
