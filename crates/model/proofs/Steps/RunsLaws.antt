-- After a step every loop can still be run: limits on both sides, with positive multipliers.
use mathlib.Core.Path.{◌≡◌, refl}
use mathlib.Core.List.Memᴰ
use mathlib.Core.List.{List, [], ◌∷◌, ◌++◌, map, flat_map, map-eq-nil_iff, append-eq-nil_iff, cons≢nil}
use Prim.Native.Nat.{ℕ, zero, suc, ◌*◌, ◌<◌}
use native.Mathlib.Nat.{mul-le-mul}
use native.Mathlib.Omega.{arith}
use lib.IntN.{ℤ, pos, negsuc, neg_ℤ}
use Rattle.lists.specs.Membership.{All}
use Rattle.lists.specs.Place.{under, on_head, swapped}
use Rattle.lists.specs.Tests.{unique}
use Rattle.lists.proofs.MembershipLaws.{all_nil, all_cons, all_append, map-all}
use Rattle.lists.proofs.FlatMapLaws.{all-flat_map}
use Rattle.model.specs.Ticket.{Limit, Loop, Step, exchange, reversal, skew, section, circulation}
use Rattle.model.specs.Limits.{on_coefficients, on_limits, deeper, negated, reverse_at, outer_coefficient, kept, combined, outer_part}
use Rattle.model.specs.Limits.{solved_positive, solved_negative, when_positive, when_negative, widened, new_outer, new_inner, same_limit, deduplicated}
use Rattle.model.specs.Limits.{exchange_at, skew_coefficients, skew_limit, skew_inner, skew_at, section_lower, section_upper, element_limit}
use Rattle.model.specs.Limits.{constant_limit, split_coefficients, section_at, exchange_all, loops_after}
use Rattle.model.specs.Steps.{chain}
use Rattle.model.specs.Shape.{Runs, Proper}
use Rattle.model.proofs.Steps.ExchangePartLaws.{outer_lower, outer_upper, inner-lower, inner-upper}
use Rattle.model.proofs.Steps.DeduplicatedLaws.{all-unique}

abbrev Positive : Limit → Type 0
Positive l = 0 < l.multiplier

abbrev Some : List Limit → Type 0
Some ls = ls ≡ [] → ⊥

-- a side of a loop: some limits, all positive
abbrev Side : List Limit → Type 0
Side ls = Some ls × All Positive ls

product-positive : (a b : ℕ) → 0 < a → 0 < b → 0 < a * b
product-positive a b h g = mul-le-mul h g

lower-side : (L : Loop) → Runs L → Side L.lower
lower-side L r = (r.some-lower, r.positive-lower)

upper-side : (L : Loop) → Runs L → Side L.upper
upper-side L r = (r.some_upper, r.positive-upper)

runs : {L : Loop} → Side L.lower → Side L.upper → Runs L
runs s t = record { some-lower = s.0; some_upper = t.0; positive-lower = s.1; positive-upper = t.1 }

-- ---- sides

side-map : (f : Limit → Limit) → ((l : Limit) → Positive l → Positive (f l)) → (ls : List Limit) → Side ls → Side (map f ls)
side-map f h ls s = (λ e. s.0 ((map-eq-nil_iff f).0 e), map-all f Positive Positive ls h s.1)

side-cons : {l : Limit} {ls : List Limit} → Positive l → Side ls → Side (l ∷ ls)
side-cons h s = (cons≢nil, all_cons Positive h s.1)

side-append : (ls ms : List Limit) → Side ls → All Positive ms → Side (ls ++ ms)
side-append ls ms s p = (λ e. s.0 (append-eq-nil_iff.0 e).0, all_append Positive ls ms s.1 p)

side-flat_map : (f : Limit → List Limit) (ls : List Limit) → ((l : Limit) → Positive l → Side (f l)) → Side ls → Side (flat_map f ls)
unfolding flat_map
side-flat_map f [] h s = s
side-flat_map f (l ∷ ls) h s = side-append (f l) (flat_map f ls) (h l (s.1 l (Memᴰ.head refl)))
    (all-flat_map f Positive ls (λ m i. (h m (s.1 m (Memᴰ.tail i))).1))

side-unique : (ls : List Limit) → Side ls → Side (unique same_limit ls)
side-unique ls s = (some ls s.0, (all-unique Positive ls).0 s.1)
  where
    some : (ls : List Limit) → Some ls → Some (unique same_limit ls)
    some [] n e = n refl
    some (l ∷ ls) n e = unfold unique in cons≢nil e

-- ---- loops

runs-under : (G : List Loop → List Loop) → ((N : List Loop) → All Runs N → All Runs (G N)) → (n : ℕ) (N : List Loop) → All Runs N
    → All Runs (under n G N)
unfolding under
runs-under G h zero N r = h N r
runs-under G h (suc n) [] r = r
runs-under G h (suc n) (L ∷ N) r = all_cons Runs (r L (Memᴰ.head refl)) (runs-under G h n N (λ K m. r K (Memᴰ.tail m)))

runs-deeper : (g : List ℤ → List ℤ) (N : List Loop) → All Runs N → All Runs (deeper g N)
unfolding deeper on_limits on_coefficients
runs-deeper g N r = map-all (on_limits (on_coefficients g)) Runs Runs N
    (λ L q. runs (side-map (on_coefficients g) (λ l h. h) L.lower (lower-side L q))
    (side-map (on_coefficients g) (λ l h. h) L.upper (upper-side L q))) r

runs-deduplicated : (L : Loop) → Runs L → Runs (deduplicated L)
unfolding deduplicated
runs-deduplicated L r = runs (side-unique L.lower (lower-side L r)) (side-unique L.upper (upper-side L r))

-- ---- each step

runs-reverse : (a : ℕ) (N : List Loop) → All Runs N → All Runs (reverse_at a N)
unfolding reverse_at negated
runs-reverse a [] r = r
runs-reverse a (L ∷ N) r = let q = r L (Memᴰ.head refl) in
    all_cons Runs (runs (side-map negated (λ l h. h) L.upper (upper-side L q)) (side-map negated (λ l h. h) L.lower (lower-side L q)))
    (runs-deeper (under a (on_head neg_ℤ)) N (λ K m. r K (Memᴰ.tail m)))

module _ (a : ℕ) where
  side-outer : (s o : List Limit) → Side s → Side o → (c : ℤ) (l : Limit) → Positive l → Side (outer_part a s o c l)
  unfolding outer_part kept combined
  side-outer s o hs ho (pos zero) l h = (cons≢nil, all_cons Positive h (all_nil Positive))
  side-outer s o hs ho (pos (suc n)) l h = side-map (combined a (pos (suc n)) l) (λ m g. product-positive l.multiplier m.multiplier h g) s hs
  side-outer s o hs ho (negsuc n) l h = side-map (combined a (negsuc n) l) (λ m g. product-positive l.multiplier m.multiplier h g) o ho

  all-positive : (c : ℤ) (l : Limit) → All Positive (when_positive a c l)
  unfolding when_positive solved_positive
  all-positive (pos zero) l = all_nil Positive
  all-positive (pos (suc n)) l = all_cons Positive (omega arith) (all_nil Positive)
  all-positive (negsuc n) l = all_nil Positive

  all-negative : (c : ℤ) (l : Limit) → All Positive (when_negative a c l)
  unfolding when_negative solved_negative
  all-negative (pos n) l = all_nil Positive
  all-negative (negsuc n) l = all_cons Positive (omega arith) (all_nil Positive)

  runs-outer : (I J : Loop) → Runs I → Runs J → Runs (new_outer a I J)
  unfolding new_outer
  runs-outer I J r q = runs
      (side-flat_map (outer_lower a I) J.lower (λ l h. side-outer I.lower I.upper (lower-side I r) (upper-side I r) (outer_coefficient a l) l
      h) (lower-side J q))
      (side-flat_map (outer_upper a I) J.upper (λ l h. side-outer I.upper I.lower (upper-side I r) (lower-side I r) (outer_coefficient a l) l
      h) (upper-side J q))

  runs-inner : (I J : Loop) → Runs I → Runs (new_inner a I J)
  unfolding new_inner widened
  runs-inner I J r =
      let low = side-map widened (λ l h. h) I.lower (lower-side I r) in
      let high = side-map widened (λ l h. h) I.upper (upper-side I r) in
      runs (
        λ e. low.0 (append-eq-nil_iff.0 e).0,
        (inner-lower Positive a I J).1 (
          low.1,
          (λ l m. all-negative (outer_coefficient a l) l, λ l m. all-positive (outer_coefficient a l) l),
        ),
      ) (
        λ e. high.0 (append-eq-nil_iff.0 e).0,
        (inner-upper Positive a I J).1 (
          high.1,
          (λ l m. all-positive (outer_coefficient a l) l, λ l m. all-negative (outer_coefficient a l) l),
        ),
      )

  runs-exchange : (N : List Loop) → All Runs N → All Runs (exchange_at a N)
  unfolding exchange_at
  runs-exchange [] r = r
  runs-exchange (I ∷ []) r = r
  runs-exchange (I ∷ J ∷ N) r =
      let i = r I (Memᴰ.head refl) in
      let j = r J (Memᴰ.tail (Memᴰ.head refl)) in
      all_cons Runs (runs-deduplicated (new_outer a I J) (runs-outer I J i j)) (all_cons Runs (runs-deduplicated (new_inner a I J) (runs-inner I J i))
      (runs-deeper (under a swapped) N (λ K m. r K (Memᴰ.tail (Memᴰ.tail m)))))

module _ (a d : ℕ) (c : ℤ) where
  runs-skew_inner : (N : List Loop) → All Runs N → All Runs (skew_inner a d c N)
  unfolding skew_inner on_limits skew_limit
  runs-skew_inner [] r = r
  runs-skew_inner (L ∷ N) r = let q = r L (Memᴰ.head refl) in
      all_cons Runs (runs (side-map (skew_limit a c) (λ l h. h) L.lower (lower-side L q))
      (side-map (skew_limit a c) (λ l h. h) L.upper (upper-side L q))) (runs-deeper (under a (skew_coefficients d c)) N
      (λ K m. r K (Memᴰ.tail m)))

  runs-skew : (N : List Loop) → All Runs N → All Runs (skew_at a d c N)
  unfolding skew_at
  runs-skew [] r = r
  runs-skew (L ∷ N) r = all_cons Runs (r L (Memᴰ.head refl)) (runs-under (skew_inner a d c) runs-skew_inner d N (λ K m. r K (Memᴰ.tail m)))

module _ (a w : ℕ) (h : 0 < w) where
  runs-section : (N : List Loop) → All Runs N → All Runs (section_at a w N)
  unfolding section_at section_lower section_upper element_limit constant_limit
  runs-section [] r = r
  runs-section (L ∷ N) r =
      let q = r L (Memᴰ.head refl) in
      let wider : (l : Limit) → Positive l → 0 < l.multiplier * w = λ l g. product-positive l.multiplier w g h in
      all_cons Runs (runs (side-map (section_lower w) wider L.lower (lower-side L q)) (side-map (section_upper w) wider L.upper (upper-side L q)))
      (all_cons Runs (runs (side-cons (omega arith) (side-map (element_limit w) (λ l g. g) L.lower (lower-side L q)))
      (side-cons (omega arith) (side-map (element_limit w) (λ l g. g) L.upper (upper-side L q))))
      (runs-deeper (under a (split_coefficients w)) N (λ K m. r K (Memᴰ.tail m))))

runs-exchanges : (ks : List ℕ) (N : List Loop) → All Runs N → All Runs (exchange_all ks N)
unfolding exchange_all
runs-exchanges [] N r = r
runs-exchanges (k ∷ ks) N r = runs-exchanges ks (under k (exchange_at k) N) (runs-under (exchange_at k) (runs-exchange k) k N r)

pub runs_after : (t : Step) → Proper t → (N : List Loop) → All Runs N → All Runs (loops_after t N)
unfolding loops_after
runs_after (exchange a) h N r = runs-under (exchange_at a) (runs-exchange a) a N r
runs_after (reversal a) h N r = runs-under (reverse_at a) (runs-reverse a) a N r
runs_after (skew a d c) h N r = runs-under (skew_at a d c) (runs-skew a d c) a N r
runs_after (section a w) h N r = runs-under (section_at a w) (runs-section a w h) a N r
runs_after (circulation a b) h N r = runs-exchanges (chain a b) N r
