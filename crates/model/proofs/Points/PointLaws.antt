-- The points of a nest are those inside it, in rising order; so each stands once. Then partial points and iterations.
-- Points inside have as many indices as there are loops.
use mathlib.Core.Path.{◌≡◌, refl, sym, ap, ◌∙◌, subst, subst₂}
use mathlib.Core.Logic.{◌⊎◌, ⊎_elim, ◌↔◌}
use mathlib.Core.List.Memᴰ
use mathlib.Core.List.{List, [], ◌∷◌, ◌++◌, map, cons≢nil, head-eq_of_cons-eq, tail-eq_of_cons-eq}
use Prim.Native.Nat.{ℕ, suc}
use lib.IntN.{ℤ}
use lib.ListN.{length, take}
use lib.Seq.{take-length}
use lib.Signed.{◌<ℤ◌}
use Rattle.lists.specs.Membership.{Mem, All, Distinct}
use Rattle.lists.specs.Order.{Ordered}
use Rattle.lists.proofs.MembershipLaws.{all_take}
use Rattle.lists.proofs.OrderLaws.{ordered-map, ordered-distinct}
use Rattle.lists.proofs.FlatMapLaws.{flat_map-mem, mem-flat_map, ordered-flat_map}
use Rattle.model.specs.Ticket.{Loop}
use Rattle.model.specs.Points.{indices, points, partial_points, iterations}
use Rattle.model.specs.Inside.{Inside, Earlier}
use Rattle.model.specs.Shape.{Runs}
use Rattle.model.proofs.Points.LoopLaws.{indices-inside, indices-rise}
use Rattle.model.proofs.Points.EarlierLaws.{earlier-first, earlier-rest, earlier-irreflexive, earlier-total}

-- ---- members

-- the points that begin with i
abbrev from : List Loop → List ℤ → ℤ → List (List ℤ)
from N outer i = map (λ y. i ∷ y) (points N (outer ++ (i ∷ [])))

pub points-inside : (N : List Loop) → All Runs N → (outer y : List ℤ) → Mem y (points N outer) ↔ Inside N outer y
unfolding points
points-inside [] r outer [] = (λ m. tt, λ m. Memᴰ.head refl)
points-inside [] r outer (i ∷ y) = (λ m. absurd (⊎_elim cons≢nil Memᴰ.not-nil (Memᴰ.cases_cons m)), λ o. absurd o)
points-inside (L ∷ N) r outer [] = (
  λ m. let q = flat_map-mem (from N outer) (indices L outer) m in absurd (cons≢nil
      (Memᴰ.of_map (λ y. q.0 ∷ y) (points N (outer ++ (q.0 ∷ []))) q.2).2),
  λ o. absurd o,
)
points-inside (L ∷ N) r outer (i ∷ y) =
    let here = indices-inside L (r L (Memᴰ.head refl)) outer i in
    let rest = points-inside N (λ K m. r K (Memᴰ.tail m)) (outer ++ (i ∷ [])) y in (
      λ m. let q = flat_map-mem (from N outer) (indices L outer) m in
          let t = Memᴰ.of_map (λ y. q.0 ∷ y) (points N (outer ++ (q.0 ∷ []))) q.2 in
          let a : q.0 ≡ i = head-eq_of_cons-eq t.2 in
          let b : t.0 ≡ y = tail-eq_of_cons-eq t.2 in
          (here.0 (Memᴰ.cast (sym a) q.1), rest.0 (Memᴰ.cast (sym b) (subst (λ z. Mem t.0 (points N (outer ++ (z ∷ [])))) a t.1))),
      λ o. mem-flat_map (from N outer) (indices L outer) (here.1 o.0) (Memᴰ.map (λ z. i ∷ z) (rest.1 o.1)),
    )

pub inside-length : (N : List Loop) (outer y : List ℤ) → Inside N outer y → length y ≡ length N
inside-length [] outer [] o = refl
inside-length [] outer (i ∷ y) o = absurd o
inside-length (L ∷ N) outer [] o = absurd o
inside-length (L ∷ N) outer (i ∷ y) o = ap suc (inside-length N (outer ++ (i ∷ [])) y o.1)

pub points-length : (N : List Loop) (outer : List ℤ) → All (λ y. length y ≡ length N) (points N outer)
unfolding points
points-length [] outer y m = ⊎_elim (λ e. ap length e) (λ n. absurd (Memᴰ.not-nil n)) (Memᴰ.cases_cons m)
points-length (L ∷ N) outer y m =
    let q = flat_map-mem (from N outer) (indices L outer) m in
    let t = Memᴰ.of_map (λ y. q.0 ∷ y) (points N (outer ++ (q.0 ∷ []))) q.2 in
    ap length (sym t.2) ∙ ap suc (points-length N (outer ++ (q.0 ∷ [])) t.0 t.1)

-- ---- order

pub points-rise : (N : List Loop) (outer : List ℤ) → Ordered Earlier (points N outer)
unfolding points
points-rise [] outer = (λ y m. absurd (Memᴰ.not-nil m), tt)
points-rise (L ∷ N) outer = ordered-flat_map (from N outer) ◌<ℤ◌ Earlier (indices L outer) (indices-rise L outer)
    (λ i _. ordered-map (λ y. i ∷ y) Earlier (points N (outer ++ (i ∷ []))) Earlier (points-rise N (outer ++ (i ∷ [])))
    (λ p q _ _ h. earlier-rest i i p q refl h))
    (λ i j _ _ h u v m n. let a = Memᴰ.of_map (λ y. i ∷ y) (points N (outer ++ (i ∷ []))) m in let b = Memᴰ.of_map (λ y. j ∷ y)
    (points N (outer ++ (j ∷ []))) n in
    subst₂ Earlier a.2 b.2 (earlier-first i j a.0 b.0 h))

pub points-distinct : (N : List Loop) (outer : List ℤ) → Distinct (points N outer)
points-distinct N outer = ordered-distinct Earlier earlier-irreflexive (points N outer) (points-rise N outer)

pub points-total : {p q : List ℤ} (N : List Loop) (outer : List ℤ) → Mem p (points N outer) → Mem q (points N outer) → (p ≡ q)
    ⊎ (Earlier p q ⊎ Earlier q p)
points-total {p} {q} N outer m n = earlier-total p q (points-length N outer p m ∙ sym (points-length N outer q n))

-- ---- partial points and iterations

pub partial-inside : (k : ℕ) (N : List Loop) → All Runs N → (y : List ℤ) → Mem y (partial_points k N) ↔ Inside (take k N) [] y
unfolding partial_points
partial-inside k N r y = points-inside (take k N) (all_take Runs k N r) [] y

pub partial-rise : (k : ℕ) (N : List Loop) → Ordered Earlier (partial_points k N)
unfolding partial_points
partial-rise k N = points-rise (take k N) []

module _ (N : List Loop) where
  pub iterations-inside : All Runs N → (y : List ℤ) → Mem y (iterations N) ↔ Inside N [] y
  unfolding iterations
  iterations-inside r y = points-inside N r [] y

  pub iterations-rise : Ordered Earlier (iterations N)
  unfolding iterations
  iterations-rise = points-rise N []

  pub iterations-length : All (λ y. length y ≡ length N) (iterations N)
  unfolding iterations
  iterations-length = points-length N []

  pub iterations-distinct : Distinct (iterations N)
  unfolding iterations
  iterations-distinct = points-distinct N []

-- an iteration is a partial point of full depth
pub iterations-full : (N : List Loop) → iterations N ≡ partial_points (length N) N
unfolding iterations partial_points
iterations-full N = ap (λ L. points L []) (sym (take-length N))
