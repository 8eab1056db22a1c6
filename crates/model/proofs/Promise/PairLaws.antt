-- The pairs that trade places: `traded` has exactly those (`pair-exact`), each once and in order. First the pairs of two iterations, then all that
-- there could be, then those of a nest. What the tool answers of them is in `ReasonToolLaws`.
use mathlib.Core.Path.{◌≡◌, refl, sym, ◌∙◌, subst, subst₂}
use mathlib.Core.Bool.{Bool, ◌&&◌}
use mathlib.Core.Logic.{◌↔◌, inl, inr}
use mathlib.Core.List.Memᴰ
use mathlib.Core.List.{List, map, flat_map}
use Prim.Native.Nat.{ℕ, ◌<◌}
use native.Mathlib.Omega.{arith}
use lib.Dec.{T}
use lib.IntN.{ℤ}
use lib.ListN.{length}
use Rattle.lists.specs.Membership.{Mem, All, Distinct}
use Rattle.lists.specs.Order.{Ordered, Precedes}
use Rattle.lists.proofs.OrderLaws.{ordered-map, ordered-imp, ordered-distinct, precedes-mem}
use Rattle.lists.proofs.FlatMapLaws.{flat_map-mem, mem-flat_map, ordered-flat_map}
use Rattle.lists.proofs.TestLaws.{and_both, and_intro, select-mem, mem-select, select-ordered}
use Rattle.model.specs.Ticket.{Step, Nest}
use Rattle.model.specs.Points.{iterations}
use Rattle.model.specs.Machine.{accesses, order}
use Rattle.model.specs.Directions.{earlier, Kind, kinds, conflict_of, comes_first, up_from}
use Rattle.model.specs.Steps.{forward_all}
use Rattle.model.specs.Limits.{nest_after_all}
use Rattle.model.specs.Pairs.{Pair, trades, pairs_at, all_pairs, traded}
use Rattle.model.specs.Inside.{Earlier}
use Rattle.model.specs.Shape.{Proper, WellFormed}
use Rattle.model.specs.Promises.{kind_rank, moved, TradesAt, StatementsBefore, PairBefore}
use Rattle.model.proofs.Points.EarlierLaws.{earlier-irreflexive}
use Rattle.model.proofs.Points.PointLaws.{iterations-rise}
use Rattle.model.proofs.Machine.ElementLaws.{every-kind}
use Rattle.model.proofs.Machine.InstanceLaws.{instances-mem, mem-instances, precedes-comes_first, comes_first-precedes}
use Rattle.model.proofs.Listing.LineOrderLaws.{up_from-mem, mem-up_from, up_from-ordered, kinds-ordered}
use Rattle.model.proofs.Promise.TradeLaws.{no-longer-first, before-moved}

-- ---- pairs of two iterations

module _ (n : ℕ) (p q : List ℤ) where
  abbrev pair_of : ℕ → ℕ → Kind → Pair
  pair_of s t k = record { source = record { statement = s; iteration = p }; sink = record { statement = t; iteration = q }; kind = k }

  abbrev of_sink : ℕ → ℕ → List Pair
  of_sink s t = map (pair_of s t) kinds

  abbrev of_source : ℕ → List Pair
  of_source s = flat_map (of_sink s) (up_from 0 n)

  -- of n statements, the source at p and the sink at q
  pub record Between (r : Pair) : Type 0 where
    pub early : r.source.iteration ≡ p
    pub late : r.sink.iteration ≡ q
    pub source : r.source.statement < n
    pub sink : r.sink.statement < n

  sink-mem : {r : Pair} (s t : ℕ) → Mem r (of_sink s t) → (k : Kind) × (pair_of s t k ≡ r)
  sink-mem s t m = let a = Memᴰ.of_map (pair_of s t) kinds m in (a.0, a.2)

  source-mem : {r : Pair} (s : ℕ) → Mem r (of_source s) → (t : ℕ) × (k : Kind) × (t < n) × (pair_of s t k ≡ r)
  source-mem s m =
      let a = flat_map-mem (of_sink s) (up_from 0 n) m in
      let b = sink-mem s a.0 a.2 in
      let h = (up_from-mem 0 n a.1).1 in
      (a.0, b.0, omega arith, b.1)

  pub pairs_at-mem : {r : Pair} → Mem r (pairs_at n p q) → Between r
  unfolding pairs_at
  pairs_at-mem m =
      let a = flat_map-mem of_source (up_from 0 n) m in
      let b = source-mem a.0 a.2 in
      let h = (up_from-mem 0 n a.1).1 in
      subst Between b.3 (record { early = refl; late = refl; source = omega arith; sink = b.2 })

  mem-pairs_at : (s t : ℕ) (k : Kind) → s < n → t < n → Mem (pair_of s t k) (pairs_at n p q)
  unfolding pairs_at
  mem-pairs_at s t k a b = mem-flat_map of_source (up_from 0 n) (mem-up_from 0 n (omega arith) (omega arith))
      (mem-flat_map (of_sink s) (up_from 0 n) (mem-up_from 0 n (omega arith) (omega arith)) (Memᴰ.map (pair_of s t) (every-kind k)))

  sink-ordered : (s t : ℕ) → Ordered StatementsBefore (of_sink s t)
  sink-ordered s t = ordered-map (pair_of s t) StatementsBefore kinds (λ j k. kind_rank j < kind_rank k) kinds-ordered
      (λ j k _ _ h. inr (refl, inr (refl, h)))

  source-ordered : (s : ℕ) → Ordered StatementsBefore (of_source s)
  source-ordered s = ordered-flat_map (of_sink s) ◌<◌ StatementsBefore (up_from 0 n) (up_from-ordered 0 n) (λ t _. sink-ordered s t)
      (λ t u _ _ h x y a b. subst₂ StatementsBefore (sink-mem s t a).1 (sink-mem s u b).1 (inr (refl, inl h)))

  statements-ordered : Ordered StatementsBefore (pairs_at n p q)
  unfolding pairs_at
  statements-ordered = ordered-flat_map of_source ◌<◌ StatementsBefore (up_from 0 n) (up_from-ordered 0 n) (λ s _. source-ordered s)
      (λ s t _ _ h x y a b. subst₂ StatementsBefore (source-mem s a).3 (source-mem t b).3 (inl h))

  pairs_at-ordered : Ordered PairBefore (pairs_at n p q)
  pairs_at-ordered = ordered-imp StatementsBefore (pairs_at n p q) statements-ordered
      (λ r u m l h. let c = pairs_at-mem m in let d = pairs_at-mem l in inr (c.early ∙ sym d.early, inr (c.late ∙ sym d.late, h)))

-- ---- all pairs of a list of iterations

pair-irreflexive : (r : Pair) → PairBefore r r → ⊥
pair-irreflexive r (inl h) = earlier-irreflexive r.source.iteration h
pair-irreflexive r (inr (_, inl h)) = earlier-irreflexive r.sink.iteration h
pair-irreflexive r (inr (_, inr (_, inl h))) = omega arith
pair-irreflexive r (inr (_, inr (_, inr (_, inl h)))) = omega arith
pair-irreflexive r (inr (_, inr (_, inr (_, inr (_, h))))) = omega arith

module _ (n : ℕ) (ps : List (List ℤ)) where
  abbrev from : List ℤ → List Pair
  from p = flat_map (pairs_at n p) ps

  -- of n statements at some of the points ps
  pub record Among (r : Pair) : Type 0 where
    pub early : Mem r.source.iteration ps
    pub late : Mem r.sink.iteration ps
    pub source : r.source.statement < n
    pub sink : r.sink.statement < n

  from-mem : {r : Pair} (p : List ℤ) → Mem r (from p) → (q : List ℤ) × Mem q ps × Between n p q r
  from-mem p m = let a = flat_map-mem (pairs_at n p) ps m in (a.0, a.1, pairs_at-mem n p a.0 a.2)

  all_pairs-mem : {r : Pair} → Mem r (all_pairs n ps) → Among r
  unfolding all_pairs
  all_pairs-mem m =
      let a = flat_map-mem from ps m in
      let b = from-mem a.0 a.2 in
      record { early = Memᴰ.cast b.2.early a.1; late = Memᴰ.cast b.2.late b.1; source = b.2.source; sink = b.2.sink }

  mem-all_pairs : (r : Pair) → Among r → Mem r (all_pairs n ps)
  unfolding all_pairs
  mem-all_pairs r h = mem-flat_map from ps h.early (mem-flat_map (pairs_at n r.source.iteration) ps h.late
      (mem-pairs_at n r.source.iteration r.sink.iteration r.source.statement r.sink.statement r.kind h.source h.sink))

  from-ordered : Ordered Earlier ps → (p : List ℤ) → Ordered PairBefore (from p)
  from-ordered o p = ordered-flat_map (pairs_at n p) Earlier PairBefore ps o (λ q _. pairs_at-ordered n p q)
      (λ q u _ _ h x y a b. let c = pairs_at-mem n p q a in let d = pairs_at-mem n p u b in
      inr (c.early ∙ sym d.early, inl (subst₂ Earlier (sym c.late) (sym d.late) h)))

  all_pairs-ordered : Ordered Earlier ps → Ordered PairBefore (all_pairs n ps)
  unfolding all_pairs
  all_pairs-ordered o = ordered-flat_map from Earlier PairBefore ps o (λ p _. from-ordered o p)
      (λ p u _ _ h x y a b. let c = (from-mem p a).2 in let d = (from-mem u b).2 in inl (subst₂ Earlier (sym c.early) (sym d.early) h))

-- ---- those of a nest

module _ (ts : List Step) (N : Nest) where
  abbrev count : ℕ
  count = length N.statements

  abbrev ps : List (List ℤ)
  ps = iterations N.loops

  abbrev test : Pair → Bool
  test = trades (forward_all ts) (accesses N.statements)

  abbrev clashes : Pair → Bool
  clashes r = conflict_of r.kind (accesses N.statements) r.source r.sink

  abbrev crosses : Pair → Bool
  crosses r = earlier (forward_all ts r.sink.iteration) (forward_all ts r.source.iteration)

  test-trades : (r : Pair) → Among count ps r → T (test r) → TradesAt ts N r
  unfolding trades
  test-trades r h t =
      let a = and_both (comes_first r.source r.sink) (clashes r && crosses r) t in
      let b = and_both (clashes r) (crosses r) a.1 in
      record {
        old = comes_first-precedes count ps (iterations-rise N.loops) r.source r.sink
            (mem-instances count ps r.source h.source h.early) (mem-instances count ps r.sink h.sink h.late) a.0;
        clash = b.0;
        crossed = b.1;
      }

  trades-test : (r : Pair) → TradesAt ts N r → T (test r)
  unfolding trades
  trades-test r h = and_intro (comes_first r.source r.sink) (clashes r && crosses r)
      (precedes-comes_first count ps (iterations-rise N.loops) r.source r.sink h.old)
      (and_intro (clashes r) (crosses r) h.clash h.crossed)

  trades-among : (r : Pair) → TradesAt ts N r → Among count ps r
  trades-among r h =
      let m = precedes-mem (order N) r.source r.sink h.old in
      let a = instances-mem count ps r.source m.0 in
      let b = instances-mem count ps r.sink m.1 in
      record { early = a.1; late = b.1; source = a.0; sink = b.0 }

  pub pair-exact : (r : Pair) → Mem r (traded ts N) ↔ TradesAt ts N r
  unfolding traded
  pair-exact r = (
    λ m. let a = select-mem test (all_pairs count ps) m in test-trades r (all_pairs-mem count ps a.0) a.1,
    λ h. mem-select test (all_pairs count ps) (mem-all_pairs count ps r (trades-among r h)) (trades-test r h),
  )

  -- in the order of the nest that the steps make the sink stands before the source
  pub pair-new-order : WellFormed N → All Proper ts → (r : Pair) → TradesAt ts N r
      ↔ (Precedes (order N) r.source r.sink × T (clashes r) × Precedes (order (nest_after_all ts N)) (moved ts r.sink) (moved ts r.source))
  pair-new-order formed proper r = (
    λ h. let m = precedes-mem (order N) r.source r.sink h.old in
        (h.old, h.clash, before-moved N formed ts proper r.sink r.source m.1 m.0 (inl h.crossed)),
    λ h. record { old = h.0; clash = h.1; crossed = no-longer-first N ts r.source r.sink h.0 h.2 },
  )

  pub pairs-ordered : Ordered PairBefore (traded ts N)
  unfolding traded
  pairs-ordered = select-ordered PairBefore test (all_pairs count ps) (all_pairs-ordered count ps (iterations-rise N.loops))

  pub pairs-distinct : Distinct (traded ts N)
  pairs-distinct = ordered-distinct PairBefore pair-irreflexive (traded ts N) pairs-ordered
