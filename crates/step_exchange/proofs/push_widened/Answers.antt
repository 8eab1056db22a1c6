use mathlib.Core.Path.{◌≡◌, sym, ap, ◌∙◌}
use mathlib.Core.List.{[], ◌∷◌}
use Prim.Native.Nat.{◌+◌}
use native.Mathlib.Omega.{arith}
use Rattle.lists.proofs.FlatMapLaws.{flat_map-single}
use Rattle.model.specs.Limits.{widened}
use Rattle.step_exchange_sides.proofs.FillLaws.{holds-none, filled_none, adds_same, adds-start, adds-more}
use Rattle.step_exchange.proofs.SpanLaws.{span-at, read_small, wide-widened}
use Rattle.step_exchange.proofs.push_widened.Goals as goal

pub loop-k-init : goal.loop-k-init
loop-k-init c = (
  omega arith,
  adds-start (λ l. widened l ∷ []) c.args.words.now c.args.a c.args.side.from (c.args.a + 1)
      c.args.filling.now 0 (filled_none c.args.filling.now c.requires.1),
)

pub overflow_add-from : goal.overflow_add-from
overflow_add-from c = let i = c.requires.2.inside in omega arith

pub limit_at-l-requires : goal.limit_at-l-requires
limit_at-l-requires c = let q = c.requires.0 in span-at c.args.words.now c.args.side c.loop-k.k
    c.args.a c.requires.2 (omega arith) (omega arith)

pub push_limit-held-requires : goal.push_limit-held-requires
push_limit-held-requires c = let m = c.limit_at-l in
    record {
      wide = wide-widened c.args.a m.result c.widened-x.result c.requires.0
          (read_small c.args.words.now c.args.a (c.args.side.from + c.loop-k.k) m.result
          c.requires.2.small m.ensures) c.widened-x.ensures;
      filled = c.loop-k.invariant.1.within;
    }

pub loop-k-preserved : goal.loop-k-preserved
loop-k-preserved c = let b = c.loop-k in
    let m = c.limit_at-l in
    let x = c.widened-x in (
      omega arith,
      adds-more (λ l. widened l ∷ []) c.args.words.now c.args.a c.args.side.from (c.args.a + 1) c.args.filling.now 0 b.k
          b.filling b.held _ _ b.invariant.1
          (adds_same (c.args.a + 1) b.filling b.held _ _ (ap (◌∷ []) (x.ensures.is ∙ ap widened m.ensures.is))
          c.push_limit-held.ensures),
    )

pub shape_of-filling : goal.shape_of-filling
shape_of-filling c = c.loop-k.invariant.1.within.room ∙ sym c.requires.1

pub returns : goal.returns
returns c = let b = c.loop-k in
    let e : b.k ≡ c.args.side.count = omega arith in
    (simp (e, flat_map-single) at (b.invariant.1.adds [] (holds-none (c.args.a + 1) c.args.filling.now)), b.invariant.1.within)
