use native.Mathlib.Omega.{arith}
use borrow.Author.Rules.{rules}
use Rattle.lists.proofs.PartLaws.{row_fits}
use Rattle.dependence_vectors.proofs.NumberLaws.{sign-back}
use Rattle.pair_partners.proofs.ChainLaws.{number_fits}
use Rattle.pair_partners.proofs.PartnerLaws.{rows-differ, rows-equal, rows-begin, rows_end}
use Rattle.pair_partners.proofs.row_before.Goals as goal

pub overflow_mul-first : goal.overflow_mul-first
overflow_mul-first c = let f = row_fits c.args.rows.now.depth c.args.y c.args.rows.now.count c.requires.0 in let r = c.args.rows.now.rows.stored in omega arith

pub overflow_mul-second : goal.overflow_mul-second
overflow_mul-second c = let f = row_fits c.args.rows.now.depth c.args.x c.args.rows.now.count c.requires.1 in let r = c.args.rows.now.rows.stored in omega arith

pub loop-k-init : goal.loop-k-init
loop-k-init c = (omega arith, rows-begin c.args.rows.now.numbers.now c.args.rows.now.depth c.args.y c.args.x)

pub overflow_add-first : goal.overflow_add-first
overflow_add-first c = let f = number_fits c.args.rows.now.depth c.args.rows.now.count c.args.y c.loop-k.k _ c.requires.0
    c.loop-k-test.true c.args.rows.now.rows.stored in omega arith

pub offset_bounds-rows-first : goal.offset_bounds-rows-first
offset_bounds-rows-first c = let f = number_fits c.args.rows.now.depth c.args.rows.now.count c.args.y c.loop-k.k _ c.requires.0
    c.loop-k-test.true c.args.rows.now.rows.stored in omega arith

pub bounds-rows-first : goal.bounds-rows-first
bounds-rows-first c = let f = number_fits c.args.rows.now.depth c.args.rows.now.count c.args.y
    c.loop-k.k _ c.requires.0 c.loop-k-test.true c.args.rows.now.rows.stored in omega arith

pub overflow_add-second : goal.overflow_add-second
overflow_add-second c = let f = number_fits c.args.rows.now.depth c.args.rows.now.count c.args.x
    c.loop-k.k _ c.requires.1 c.loop-k-test.true c.args.rows.now.rows.stored in omega arith

pub offset_bounds-rows-second : goal.offset_bounds-rows-second
offset_bounds-rows-second c = let f = number_fits c.args.rows.now.depth c.args.rows.now.count c.args.x
    c.loop-k.k _ c.requires.1 c.loop-k-test.true c.args.rows.now.rows.stored in omega arith

pub bounds-rows-second : goal.bounds-rows-second
bounds-rows-second c = let f = number_fits c.args.rows.now.depth c.args.rows.now.count c.args.x c.loop-k.k _ c.requires.1 c.loop-k-test.true
    c.args.rows.now.rows.stored in omega arith

pub returns-then-sign-ne1 : goal.returns-then-sign-ne1
returns-then-sign-ne1 c = let k = c.loop-k.k in
    let t = c.loop-k-test.true in
    rows-differ c.args.rows.now.numbers.now c.args.rows.now.depth c.args.y c.args.x k (number_fits c.args.rows.now.depth c.args.rows.now.count c.args.y k _
    c.requires.0 t c.args.rows.now.rows.stored)
    (number_fits c.args.rows.now.depth c.args.rows.now.count c.args.x k _ c.requires.1 t c.args.rows.now.rows.stored) t
    c.loop-k.invariant.1 c.sign-sign.result (sign-back _ _
    (search rules) (search rules)
    c.sign-sign.ensures) c.if-sign-ne1.true

pub loop-k-preserved : goal.loop-k-preserved
loop-k-preserved c = (
  let t = c.loop-k-test.true in omega arith,
  let k = c.loop-k.k in
      let t = c.loop-k-test.true in
      rows-equal c.args.rows.now.numbers.now c.args.rows.now.depth c.args.y c.args.x k (number_fits c.args.rows.now.depth c.args.rows.now.count c.args.y k _
      c.requires.0 t c.args.rows.now.rows.stored)
      (number_fits c.args.rows.now.depth c.args.rows.now.count c.args.x k _ c.requires.1 t c.args.rows.now.rows.stored) t
      c.loop-k.invariant.1 c.sign-sign.result (sign-back _ _
      (search rules) (search rules)
      c.sign-sign.ensures) (let e = c.if-sign-ne1.false in e),
)

pub returns : goal.returns
returns c = rows_end c.args.rows.now.numbers.now c.args.rows.now.depth c.args.y c.args.x c.loop-k.k
    (let t = c.loop-k-test.false in omega arith) c.loop-k.invariant.1
