use native.Mathlib.Omega.{arith}
use Rattle.step_preimages.proofs.ChainLaws.{none-walked, exchange-in, one-walked, all-walked}
use Rattle.step_preimages.proofs.circulation_source.Goals as goal

pub loop-j-init : goal.loop-j-init
loop-j-init c = (omega arith, none-walked c.args.a c.args.b c.args.n c.requires)

pub exchange_at-k-requires : goal.exchange_at-k-requires
exchange_at-k-requires c = let t = c.loop-j-test.true in let n = c.chain_length-count.ensures in omega arith

pub exchange_source-m-requires : goal.exchange_source-m-requires
exchange_source-m-requires c =
    let t = c.loop-j-test.true in
    let n = c.chain_length-count.ensures in
    exchange-in c.args.a c.args.b c.args.n c.requires c.loop-j.j c.exchange_at-k.result (omega arith) c.exchange_at-k.ensures
    c.loop-j.m
    c.loop-j.invariant.1.below

pub loop-j-preserved : goal.loop-j-preserved
loop-j-preserved c =
    let t = c.loop-j-test.true in
    let n = c.chain_length-count.ensures in
    let k = c.exchange_at-k in (
      omega arith,
      one-walked c.args.a c.args.b c.args.n c.requires c.loop-j.j k.result (omega arith) k.ensures c.loop-j.m
          c.exchange_source-m.result c.loop-j.invariant.1 c.exchange_source-m.ensures,
    )

pub returns : goal.returns
returns c =
    let t = c.loop-j-test.false in
    let n = c.chain_length-count.ensures in
    let h = c.loop-j.invariant.0 in
    all-walked c.args.a c.args.b c.args.n c.requires c.loop-j.j c.loop-j.m (omega arith) c.loop-j.invariant.1
