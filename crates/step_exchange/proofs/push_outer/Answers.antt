use mathlib.Core.Path.{◌≡◌, sym, ap, ◌∙◌}
use mathlib.Core.List.{List, []}
use Prim.Native.Nat.{◌+◌}
use native.Mathlib.Omega.{arith}
use Rattle.model.specs.Ticket as Model
use Rattle.model.specs.Limits.{outer_coefficient, outer_part}
use Rattle.step_exchange_sides.proofs.FillLaws.{holds-none, filled_none, adds_same, adds-start, adds-more}
use Rattle.step_exchange.specs.Pair.{limits_of}
use Rattle.step_exchange.proofs.SpanLaws.{span-at, read_small}
use Rattle.step_exchange.proofs.push_outer.Goals as goal

pub loop-k-init : goal.loop-k-init
loop-k-init c =
    let part : Model.Limit → List Model.Limit = λ l. outer_part c.args.a (limits_of c.args.words.now c.args.a c.args.same)
    (limits_of c.args.words.now c.args.a c.args.other) (outer_coefficient c.args.a l) l in (
      omega arith,
      adds-start part c.args.words.now (c.args.a + 1) c.args.js.from c.args.a c.args.filling.now 0
          (filled_none c.args.filling.now c.requires.room),
    )

pub overflow_add-from : goal.overflow_add-from
overflow_add-from c = let i = c.requires.first.inside in omega arith

pub limit_at-l-requires : goal.limit_at-l-requires
limit_at-l-requires c = let p = c.requires in let q = p.place in span-at c.args.words.now c.args.js
    c.loop-k.k (c.args.a + 1) p.first (omega arith) (omega arith)

pub push_part-held-requires : goal.push_part-held-requires
push_part-held-requires c = let p = c.requires in
    let m = c.limit_at-l in
    let f = c.loop-k.invariant.1.within in
    let l = read_small c.args.words.now (c.args.a + 1) (c.args.js.from + c.loop-k.k) m.result p.first.small
    m.ensures in
    record {
      with-same = record { place = p.place; filled = f; limit = l; side = p.second };
      with-other = record { place = p.place; filled = f; limit = l; side = p.third };
    }

pub loop-k-preserved : goal.loop-k-preserved
loop-k-preserved c =
    let part : Model.Limit → List Model.Limit = λ l. outer_part c.args.a (limits_of c.args.words.now c.args.a c.args.same)
    (limits_of c.args.words.now c.args.a c.args.other) (outer_coefficient c.args.a l) l in
    let b = c.loop-k in
    let m = c.limit_at-l in (
      omega arith,
      adds-more part c.args.words.now (c.args.a + 1) c.args.js.from c.args.a c.args.filling.now 0 b.k b.filling
          b.held _ _ b.invariant.1
          (adds_same c.args.a b.filling b.held _ _ (ap part m.ensures.is) c.push_part-held.ensures),
    )

pub shape_of-filling : goal.shape_of-filling
shape_of-filling c = c.loop-k.invariant.1.within.room ∙ sym c.requires.room

pub returns : goal.returns
returns c = let b = c.loop-k in
    let e : b.k ≡ c.args.js.count = omega arith in
    (rw e at (b.invariant.1.adds [] (holds-none c.args.a c.args.filling.now)), b.invariant.1.within)
