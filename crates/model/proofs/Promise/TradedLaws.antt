-- Where the pairs that trade places are found. First iteration by iteration (`traded-by-source`); then by the places of the iterations in the old
-- order: a source has only sinks at later places, and of these two tests are left (`traded-by-index`).
use mathlib.Core.Path.{◌≡◌, refl, sym, ap, ◌∙◌, subst, subst₂}
use mathlib.Core.Bool.{Bool, ◌&&◌}
use mathlib.Core.Logic.{inl, inr, ⊎_elim}
use mathlib.Core.List.{List, [], ◌∷◌, ◌++◌, flat_map}
use Prim.Native.Nat.{ℕ, suc, ◌+◌, ◌-◌, ◌≤◌, ◌<◌}
use native.Mathlib.Omega.{arith}
use native.Mathlib.Nat.{eq-or-lt_of_le, zero-add}
use lib.Dec.{T}
use lib.IntN.{ℤ}
use lib.ListN.{length, get_or}
use Rattle.lists.specs.Order.{Ordered}
use Rattle.lists.specs.Tests.{select}
use Rattle.lists.proofs.OrderLaws.{ordered-get_d}
use Rattle.lists.proofs.FlatMapLaws.{flat_map-append, flat_map-map, flat_map-same, flat_map-same-on, flat_map-none}
use Rattle.lists.proofs.TestLaws.{T_true, and_both, select-none, select-same-on, select-flat_map}
use Rattle.model.specs.Ticket.{Step, Nest}
use Rattle.model.specs.Points.{iterations}
use Rattle.model.specs.Machine.{Accesses, accesses}
use Rattle.model.specs.Directions.{earlier, conflict_of, comes_first, up_from}
use Rattle.model.specs.Steps.{forward_all}
use Rattle.model.specs.Pairs.{Pair, trades, pairs_at, all_pairs, traded}
use Rattle.model.specs.Inside.{Earlier}
use Rattle.model.proofs.Points.EarlierLaws.{earlier-irreflexive, earlier-asymmetric}
use Rattle.model.proofs.Points.PointLaws.{iterations-rise}
use Rattle.model.proofs.Machine.InstanceLaws.{Before, whole, comes_first-before, before-comes_first}
use Rattle.model.proofs.Steps.ChainLaws.{up-inner, up-parts}
use Rattle.model.proofs.Listing.LineOrderLaws.{up_from-mem}
use Rattle.model.proofs.Promise.PairLaws.{Between, pairs_at-mem}

-- the items of a list, by their places
pub flat_map-by-index : {A B : Type 0} (f : A → List B) (l : List A) (d : A) → flat_map f l ≡ flat_map (λ i. f (get_or l i d)) (up_from 0 (length l))
unfolding flat_map up_from
flat_map-by-index f [] d = refl
flat_map-by-index f (x ∷ l) d = ap (f x ++◌) (flat_map-by-index f l d
    ∙ sym (ap (flat_map (λ i. f (get_or (x ∷ l) i d))) (up-inner 0 (length l)) ∙ flat_map-map (λ i. f (get_or (x ∷ l) i d)) suc (up_from 0 (length l))))

-- all that is left of `trades` where the source comes first in the old order
abbrev pub clashes : (List ℤ → List ℤ) → Accesses → Pair → Bool
clashes f A r = conflict_of r.kind A r.source r.sink && earlier (f r.sink.iteration) (f r.source.iteration)

-- ---- iteration by iteration

pub pairs-by-source : (f : List ℤ → List ℤ) (A : Accesses) (n : ℕ) (ps : List (List ℤ))
    → select (trades f A) (all_pairs n ps) ≡ flat_map (λ p. flat_map (λ q. select (trades f A) (pairs_at n p q)) ps) ps
unfolding all_pairs
pairs-by-source f A n ps = select-flat_map (trades f A) (λ p. flat_map (pairs_at n p) ps) ps
    ∙ flat_map-same (λ p. select (trades f A) (flat_map (pairs_at n p) ps)) (λ p. flat_map (λ q. select (trades f A) (pairs_at n p q)) ps)
    (λ p. select-flat_map (trades f A) (pairs_at n p) ps) ps

-- ---- iterations that rise, by their places

module _ (f : List ℤ → List ℤ) (A : Accesses) (ps : List (List ℤ)) (o : Ordered Earlier ps) where
  -- a sink at a later place
  pub later-trades : (x y : ℕ) → x < y → y < length ps → (r : Pair) → r.source.iteration ≡ get_or ps x [] → r.sink.iteration ≡ get_or ps y []
      → trades f A r ≡ clashes f A r
  unfolding trades
  later-trades x y h g r a b = ap (◌&& clashes f A r) (T_true (comes_first r.source r.sink)
      (before-comes_first r.source r.sink (inl (subst₂ Earlier (sym a) (sym b) (ordered-get_d Earlier ps x y [] o h g)))))

  module _ (n : ℕ) where
    pub later-select : (x y : ℕ) → x < y → y < length ps
        → select (trades f A) (pairs_at n (get_or ps x []) (get_or ps y [])) ≡ select (clashes f A) (pairs_at n (get_or ps x []) (get_or ps y []))
    later-select x y h g = select-same-on (trades f A) (clashes f A) (pairs_at n (get_or ps x []) (get_or ps y []))
        (λ r m. let b = pairs_at-mem n (get_or ps x []) (get_or ps y []) m in later-trades x y h g r b.early b.late)

    -- none at its own place, and none at an earlier one
    pub not-later-none : (x y : ℕ) → y ≤ x → x < length ps → select (trades f A) (pairs_at n (get_or ps x []) (get_or ps y [])) ≡ []
    unfolding trades
    not-later-none x y h g = select-none (trades f A) (pairs_at n p q) (λ r m t.
        let b = pairs_at-mem n p q m in
        let c = and_both (comes_first r.source r.sink) (clashes f A r) t in
        ⊎_elim (λ e. same r b e (and_both (conflict_of r.kind A r.source r.sink) (crosses r) c.1).1)
        (λ l. earlier-place r b l (comes_first-before r.source r.sink c.0)) (eq-or-lt_of_le h))
      where
        p : List ℤ
        p = get_or ps x []

        q : List ℤ
        q = get_or ps y []

        crosses : Pair → Bool
        crosses r = earlier (f r.sink.iteration) (f r.source.iteration)

        -- an iteration stays whole
        same : (r : Pair) → Between n p q r → y ≡ x → T (crosses r) → ⊥
        same r b e t = earlier-irreflexive (f p) (subst₂ (λ u v. Earlier (f u) (f v)) (b.late ∙ ap (λ i. get_or ps i []) e) b.early t)

        earlier-place : (r : Pair) → Between n p q r → y < x → Before whole r.source r.sink → ⊥
        earlier-place r b l (inl e) = earlier-asymmetric q p (ordered-get_d Earlier ps y x [] o l g) (subst₂ Earlier b.early b.late e)
        earlier-place r b l (inr e) = earlier-irreflexive q
            (subst (Earlier q) (sym b.early ∙ e.0 ∙ b.late) (ordered-get_d Earlier ps y x [] o l g))

    -- the pairs of one source iteration
    pub pairs-from-place : (x : ℕ) → x < length ps → flat_map (λ q. select (trades f A) (pairs_at n (get_or ps x []) q)) ps
        ≡ flat_map (λ y. select (clashes f A) (pairs_at n (get_or ps x []) (get_or ps y []))) (up_from (suc x) (length ps - suc x))
    pairs-from-place x h =
        let rest = length ps - suc x in
        let e : length ps ≡ suc x + rest = omega arith in
        flat_map-by-index (λ q. select (trades f A) (pairs_at n (get_or ps x []) q)) ps []
        ∙ ap (flat_map at) (ap (up_from 0) e ∙ up-parts 0 (suc x) rest ∙ ap (λ i. up_from 0 (suc x) ++ up_from i rest) (zero-add (suc x)))
        ∙ flat_map-append at (up_from 0 (suc x)) (up_from (suc x) rest)
        ∙ ap (◌++ flat_map at (up_from (suc x) rest)) (flat_map-none at (up_from 0 (suc x))
        (λ y m. let b = (up_from-mem 0 (suc x) m).1 in not-later-none x y (omega arith) h))
        ∙ flat_map-same-on at (λ y. select (clashes f A) (pairs_at n (get_or ps x []) (get_or ps y []))) (up_from (suc x) rest)
        (λ y m. let b = up_from-mem (suc x) rest m in let l = b.0 in let u = b.1 in later-select x y (omega arith) (omega arith))
      where
        at : ℕ → List Pair
        at y = select (trades f A) (pairs_at n (get_or ps x []) (get_or ps y []))

    pub pairs-by-index : select (trades f A) (all_pairs n ps)
        ≡ flat_map (λ x. flat_map (λ y. select (clashes f A) (pairs_at n (get_or ps x []) (get_or ps y []))) (up_from (suc x) (length ps - suc x)))
        (up_from 0 (length ps))
    pairs-by-index = pairs-by-source f A n ps ∙ flat_map-by-index (λ p. flat_map (λ q. select (trades f A) (pairs_at n p q)) ps) ps []
        ∙ flat_map-same-on (λ x. flat_map (λ q. select (trades f A) (pairs_at n (get_or ps x []) q)) ps)
        (λ x. flat_map (λ y. select (clashes f A) (pairs_at n (get_or ps x []) (get_or ps y []))) (up_from (suc x) (length ps - suc x)))
        (up_from 0 (length ps)) (λ x m. let b = (up_from-mem 0 (length ps) m).1 in pairs-from-place x (omega arith))

-- ---- the pairs of a nest

module _ (ts : List Step) (N : Nest) where
  abbrev ps : List (List ℤ)
  ps = iterations N.loops

  abbrev at : List ℤ → List ℤ → List Pair
  at p q = pairs_at (length N.statements) p q

  pub traded-by-source : traded ts N ≡ flat_map (λ p. flat_map (λ q. select (trades (forward_all ts) (accesses N.statements)) (at p q)) ps) ps
  unfolding traded
  traded-by-source = pairs-by-source (forward_all ts) (accesses N.statements) (length N.statements) ps

  pub traded-by-index : traded ts N ≡ flat_map (λ x. flat_map (λ y. select (clashes (forward_all ts) (accesses N.statements))
      (at (get_or ps x []) (get_or ps y []))) (up_from (suc x) (length ps - suc x))) (up_from 0 (length ps))
  unfolding traded
  traded-by-index = pairs-by-index (forward_all ts) (accesses N.statements) ps (iterations-rise N.loops) (length N.statements)
