use mathlib.Core.Path.{◌≡◌, sym, ap, ◌∙◌}
use mathlib.Core.List.{[], ◌∷◌}
use Prim.Native.Nat.{◌+◌}
use native.Mathlib.Omega.{arith}
use mir.Syntax.{w32}
use mir.Val.{to_z, of_z}
use Rattle.lists.proofs.FlatMapLaws.{flat_map-single}
use Rattle.model.specs.Limits.{combined}
use Rattle.ticket_loops.specs.LoopReads.{limit_of}
use Rattle.step_limits.proofs.NumberLaws.{small-back}
use Rattle.step_exchange_sides.proofs.FillLaws.{adds_same, adds-start, adds-more}
use Rattle.step_exchange.proofs.SpanLaws.{span-at, read_small, wide-combined}
use Rattle.step_exchange.proofs.push_combined.Goals as goal

pub loop-k-init : goal.loop-k-init
loop-k-init c = (
  omega arith,
  adds-start (λ m. combined c.args.a (to_z w32 (of_z w32 c.args.c)) (limit_of (c.args.a + 1) c.args.l) m ∷ [])
      c.args.words.now c.args.a c.args.side.from c.args.a c.args.filling.now c.args.count c.requires.1.filled,
)

pub overflow_add-from : goal.overflow_add-from
overflow_add-from c = let i = c.requires.1.side.inside in omega arith

pub limit_at-m-requires : goal.limit_at-m-requires
limit_at-m-requires c = let p = c.requires.1 in let q = p.place in span-at c.args.words.now c.args.side
    c.loop-k.k c.args.a p.side (omega arith) (omega arith)

pub combined-x-requires : goal.combined-x-requires
combined-x-requires c = let p = c.requires.1 in (
  p.place,
  rw (small-back c.args.c c.requires.0) c.requires.0,
  p.limit,
  read_small c.args.words.now c.args.a
      (c.args.side.from + c.loop-k.k) c.limit_at-m.result p.side.small c.limit_at-m.ensures,
)

pub push_limit-held-requires : goal.push_limit-held-requires
push_limit-held-requires c = let p = c.requires.1 in
    let m = c.limit_at-m in
    record {
      wide = wide-combined c.args.a _ c.args.l m.result c.combined-x.result p.place p.limit
          (read_small c.args.words.now c.args.a (c.args.side.from + c.loop-k.k) m.result
          p.side.small m.ensures) c.combined-x.ensures;
      filled = c.loop-k.invariant.1.within;
    }

pub loop-k-preserved : goal.loop-k-preserved
loop-k-preserved c = let b = c.loop-k in
    let m = c.limit_at-m in
    let x = c.combined-x in
    let G = combined c.args.a (to_z w32 (of_z w32 c.args.c)) (limit_of (c.args.a + 1) c.args.l) in (
      omega arith,
      adds-more (λ m. G m ∷ []) c.args.words.now c.args.a c.args.side.from c.args.a c.args.filling.now c.args.count
          b.k b.filling b.held _ _ b.invariant.1
          (adds_same c.args.a b.filling b.held _ _ (ap (◌∷ []) (x.ensures.is ∙ ap G m.ensures.is)) c.push_limit-held.ensures),
    )

pub shape_of-filling : goal.shape_of-filling
shape_of-filling c = c.loop-k.invariant.1.within.room ∙ sym c.requires.1.filled.room

pub returns : goal.returns
returns c = let b = c.loop-k in
    let e : b.k ≡ c.args.side.count = omega arith in
    let q : to_z w32 (of_z w32 c.args.c) ≡ c.args.c = small-back c.args.c c.requires.0 in
    simp (e, q, flat_map-single) at b.invariant.1
