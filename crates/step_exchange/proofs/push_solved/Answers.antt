use mathlib.Core.Path.{◌≡◌, sym, ap, ◌∙◌}
use Prim.Native.Nat.{◌+◌}
use native.Mathlib.Omega.{arith}
use Rattle.step_exchange_sides.proofs.FillLaws.{adds_same, adds-start, adds-more}
use Rattle.step_exchange.specs.Pair.{taken_of}
use Rattle.step_exchange.proofs.SpanLaws.{span-at, read_small}
use Rattle.step_exchange.proofs.push_solved.Goals as goal

pub loop-k-init : goal.loop-k-init
loop-k-init c = (
  omega arith,
  adds-start (taken_of c.args.positive c.args.a) c.args.words.now (c.args.a + 1) c.args.js.from
      (c.args.a + 1) c.args.filling.now c.args.count c.requires.filled,
)

pub overflow_add-from : goal.overflow_add-from
overflow_add-from c = let i = c.requires.side.inside in omega arith

pub limit_at-l-requires : goal.limit_at-l-requires
limit_at-l-requires c = let p = c.requires in let q = p.place in span-at c.args.words.now c.args.js
    c.loop-k.k (c.args.a + 1) p.side (omega arith) (omega arith)

pub push_taken-held-requires : goal.push_taken-held-requires
push_taken-held-requires c = let p = c.requires in
    let m = c.limit_at-l in
    record {
      place = p.place;
      filled = c.loop-k.invariant.1.within;
      limit = read_small c.args.words.now (c.args.a + 1)
          (c.args.js.from + c.loop-k.k) m.result p.side.small m.ensures;
    }

pub loop-k-preserved : goal.loop-k-preserved
loop-k-preserved c = let b = c.loop-k in
    let m = c.limit_at-l in
    let G = taken_of c.args.positive c.args.a in (
      omega arith,
      adds-more G c.args.words.now (c.args.a + 1) c.args.js.from (c.args.a + 1) c.args.filling.now c.args.count b.k
          b.filling b.held _ _ b.invariant.1
          (adds_same (c.args.a + 1) b.filling b.held _ _ (ap G m.ensures.is) c.push_taken-held.ensures),
    )

pub shape_of-filling : goal.shape_of-filling
shape_of-filling c = c.loop-k.invariant.1.within.room ∙ sym c.requires.filled.room

pub returns : goal.returns
returns c = let b = c.loop-k in
    let e : b.k ≡ c.args.js.count = omega arith in
    rw e at b.invariant.1
