use mathlib.Core.Path.{◌≡◌}
use native.Mathlib.Omega.{arith}
use lib.ListN.{length}
use borrow.Author.Rules.{rules}
use Rattle.step_points.proofs.IndexLaws.{none-walked, exchange-in, one-walked, all-walked}
use Rattle.step_points.proofs.circulate_indices.Goals as goal

pub loop-j-init : goal.loop-j-init
loop-j-init c = let l : length c.args.row ≡ 6 = search rules in
    (omega arith, none-walked c.args.a c.args.b c.args.n c.args.row l)

pub exchange_at-k-requires : goal.exchange_at-k-requires
exchange_at-k-requires c = let t = c.loop-j-test.true in let n = c.chain_length-count.ensures in omega arith

pub exchange_places-next-requires : goal.exchange_places-next-requires
exchange_places-next-requires c = let t = c.loop-j-test.true in
    let n = c.chain_length-count.ensures in
    let k = c.exchange_at-k in
    let h = exchange-in c.args.a c.args.b c.args.n c.args.row c.loop-j.j k.result (omega arith) k.ensures in
    (omega arith, (h c.requires.0 c.requires.1, c.requires.2))

pub loop-j-preserved : goal.loop-j-preserved
loop-j-preserved c = let t = c.loop-j-test.true in
    let n = c.chain_length-count.ensures in
    let k = c.exchange_at-k in (
      omega arith,
      one-walked c.args.a c.args.b c.args.n c.args.row c.loop-j.j k.result (omega arith) k.ensures c.loop-j.r
          c.exchange_places-next.result c.loop-j.invariant.1 c.exchange_places-next.ensures,
    )

pub returns : goal.returns
returns c = let t = c.loop-j-test.false in
    let n = c.chain_length-count.ensures in
    let h = c.loop-j.invariant.0 in
    all-walked c.args.a c.args.b c.args.n c.args.row c.loop-j.j c.loop-j.r (omega arith) c.loop-j.invariant.1
