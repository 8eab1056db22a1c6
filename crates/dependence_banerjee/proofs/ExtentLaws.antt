-- The range of the difference of two sums of subscripts. In order: the constants; the loop that adds the terms, the innermost first; the test that
-- 0 is none of it.
use mathlib.Core.Path.{◌≡◌, ◌∙◌, ap₂, sym}
use mathlib.Core.Bool.{true}
use mathlib.Core.List.{List, [], ◌∷◌}
use Prim.Native.Nat.{ℕ, suc, ◌+◌, ◌*◌, ◌-◌, ◌/◌, ◌%◌, ◌≤◌, ◌<◌}
use native.Mathlib.Omega.{arith}
use lib.IntN.{ℤ, pos, ◌+ℤ◌, ◌-ℤ◌, ◌*ℤ◌}
use lib.Signed.{lt_z, ◌≤ℤ◌, ≤ℤ_refl}
use lib.ListN.{get_or}
use Rattle.integers.specs.Difference.{size}
use Rattle.integers.proofs.RingLaws.{zarith}
use Rattle.integers.proofs.RangeLaws.{size-add, test-lt}
use Rattle.integers.proofs.Polynomial.{◌⊕◌, #}
use Rattle.integers.proofs.Linear.{lin, ◌⊑◌, ◌⟶◌}
use Rattle.nest_loop_ranges.specs.declared.Range.{Range}
use Rattle.nest_loop_ranges.specs.Ranges.{range_as}
use Rattle.nest_loop_ranges.proofs.TermLaws.{copy}
use Rattle.nest_loop_ranges.proofs.SumLaws.{no_range, range-near}
use Rattle.dependence_banerjee.specs.Sums.{coefficient_sum, terms, difference}
use Rattle.dependence_banerjee.specs.Spans.{Spans, Directed, RegionIn, TermIn, PairIn, Extent, Excluded}
use Rattle.dependence_banerjee.proofs.MachineLaws.{kept, difference-is}
use Rattle.dependence_banerjee.proofs.RegionLaws.{Outer, outer-all, outer-next, innermost, index_at}
use Rattle.model.specs.Quick.{Contains}

-- ---- the constants

pub constant-is : (c d : ℤ) {x y : ℤ} {r : Range} → (c ≡ x) × (size c ≤ 98301) → (d ≡ y) × (size d ≤ 98301)
    → (r.least ≡ copy (copy c -ℤ copy d)) × (r.greatest ≡ copy (copy c -ℤ copy d))
    → (r.least ≡ x -ℤ y) × (r.greatest ≡ r.least) × (size r.least ≤ 196602)
constant-is c d ec ed h =
    let e = difference-is c d {m = 98301} {n = 98301} ec.1 ed.1 (omega arith) in
    (h.0 ∙ e.0 ∙ ap₂ ◌-ℤ◌ ec.0 ed.0, h.1 ∙ sym h.0, rw h.0 e.1)

-- ---- what the loop keeps

-- r has the constants and the terms of the loops from k on; v is what is left of u for the k loops outside
pub record Inward (w : List ℤ) (i j m n : ℕ) (b : List Range) (u k v : ℕ) (r : Range) : Type 0 where
  pub few : k ≤ n
  pub outer : Outer n b u k v
  pub low : size r.least + k * 6442254336 ≤ 196602 + n * 6442254336
  pub high : size r.greatest + k * 6442254336 ≤ 196602 + n * 6442254336
  pub holds : (p q : List ℤ) → Directed n b u p q
      → ((r.least +ℤ terms w i j m p q k) ≤ℤ difference w i j m n p q) × (difference w i j m n p q ≤ℤ (r.greatest +ℤ terms w i j m p q k))

module _ (w : List ℤ) (i j m n : ℕ) (b : List Range) (g : RegionIn w i j m n b) (u : ℕ) where
  pub inward-none : (r : Range) → (r.least ≡ coefficient_sum w i 0 m -ℤ coefficient_sum w j 0 m) × (r.greatest ≡ r.least)
      × (size r.least ≤ 196602) → Inward w i j m n b u n u r
  unfolding difference
  inward-none r e = let f = e.1 ∙ e.0 in let s : size r.least ≤ 196602 = e.2 in let t : size r.greatest ≤ 196602 = rw e.1 s in record {
    few = omega arith;
    outer = outer-all n b g.ranges u;
    low = omega arith;
    high = omega arith;
    holds = λ p q h. (rw e.0 (≤ℤ_refl _), rw f (≤ℤ_refl _));
  }

  module _ (k v : ℕ) (r : Range) (h : Inward w i j m n b u k v r) (a : 0 < k) where
    pub term_in : TermIn w i j m k (get_or b (k - 1) no_range) (v % 3)
    term_in = let f = g.ranges.few in let l = h.few in record {
      sums = g.sums;
      loop = omega arith;
      range = range-near n b g.ranges (k - 1)
          (omega arith);
      digit = omega arith;
    }

    module _ (t : Range) (s : Spans (coefficient_sum w i k m) (coefficient_sum w j k m) (get_or b (k - 1) no_range) (v % 3) t) where
      pub pair-in : PairIn r t
      pair-in = let f = g.ranges.few in let x = h.low in let y = h.high in let z = s.low in let c = s.high
          in record { first-low = omega arith; first-high = omega arith; second-low = omega arith; second-high = omega arith }

      term-at : (p q : List ℤ) → Directed n b u p q → Contains (range_as t) (coefficient_sum w i k m *ℤ get_or p (k - 1) (pos 0) -ℤ coefficient_sum w j k
          m *ℤ get_or q (k - 1) (pos 0))
      term-at p q d = let l = h.few in s.holds (get_or p (k - 1) (pos 0)) (get_or q (k - 1) (pos 0))
          (index_at n b g.ranges p d.source (k - 1) (omega arith)) (index_at n b g.ranges q d.sink (k - 1) (omega arith))
          (innermost n b g.ranges u k v a h.few h.outer p q d)

      terms-at : (p q : List ℤ) → terms w i j m p q k ≡ terms w i j m p q (k - 1) +ℤ
          (coefficient_sum w i k m *ℤ get_or p (k - 1) (pos 0) -ℤ coefficient_sum w j k m *ℤ get_or q (k - 1) (pos 0))
      unfolding terms
      terms-at p q = go k (k - 1) (omega arith)
        where
          go : (x y : ℕ) → x ≡ suc y → terms w i j m p q x ≡ terms w i j m p q y +ℤ
              (coefficient_sum w i x m *ℤ get_or p y (pos 0) -ℤ coefficient_sum w j x m *ℤ get_or q y (pos 0))
          go x y e = rw e

      pub inward-next : (x : Range) → (x.least ≡ r.least +ℤ t.least) × (x.greatest ≡ r.greatest +ℤ t.greatest)
          → Inward w i j m n b u (k - 1) (v / 3) x
      inward-next x e = let f = h.few in let y = h.low in let z = h.high in let c = s.low in let d = s.high in record {
        few = omega arith;
        outer = outer-next n b g.ranges u k v a h.few h.outer;
        low = rw e.0 (omega (arith, size-add r.least t.least));
        high = rw e.1 (omega (arith, size-add r.greatest t.greatest));
        holds = λ p q l. let o = h.holds p q l in let i = term-at p q l in (
          rw e.0 (grows-low r.least t.least _ _ _ _ (terms-at p q) o.0 i.low),
          rw e.1 (grows-high r.greatest t.greatest _ _ _ _ (terms-at p q) o.1 i.high),
        );
      }
        where
          grows-low : (a c s z y d : ℤ) → s ≡ z +ℤ y → (a +ℤ s) ≤ℤ d → c ≤ℤ y → (a +ℤ c +ℤ z) ≤ℤ d
          grows-low a c s z y d e f g = lin (a ∷ c ∷ z ∷ y ∷ d ∷ []) (λ a c z y d. a ⊕ (z ⊕ y) ⊑ d ⟶ c ⊑ y ⟶ a ⊕ c ⊕ z ⊑ d) tt (rw e at f) g

          grows-high : (a c s z y d : ℤ) → s ≡ z +ℤ y → d ≤ℤ (a +ℤ s) → y ≤ℤ c → d ≤ℤ (a +ℤ c +ℤ z)
          grows-high a c s z y d e f g = lin (a ∷ c ∷ z ∷ y ∷ d ∷ []) (λ a c z y d. d ⊑ a ⊕ (z ⊕ y) ⟶ y ⊑ c ⟶ d ⊑ a ⊕ c ⊕ z) tt (rw e at f) g

  pub inward-all : (k v : ℕ) (r : Range) → Inward w i j m n b u k v r → k ≡ 0 → Extent w i j m n b u r
  unfolding terms
  inward-all k v r h e = let f = g.ranges.few in let x = h.low in let y = h.high in record {
    low = omega arith;
    high = omega arith;
    holds = λ p q l. let o = h.holds p q l in record { low = from_low r.least _ k p q e o.0; high = from-high r.greatest _ k p q e o.1 };
  }
    where
      from_low : (a d : ℤ) (k : ℕ) (p q : List ℤ) → k ≡ 0 → (a +ℤ terms w i j m p q k) ≤ℤ d → a ≤ℤ d
      from_low a d k p q e f = lin (a ∷ d ∷ []) (λ a d. a ⊕ # 0 ⊑ d ⟶ a ⊑ d) tt (rw e at f)

      from-high : (a d : ℤ) (k : ℕ) (p q : List ℤ) → k ≡ 0 → d ≤ℤ (a +ℤ terms w i j m p q k) → d ≤ℤ a
      from-high a d k p q e f = lin (a ∷ d ∷ []) (λ a d. d ⊑ a ⊕ # 0 ⟶ d ⊑ a) tt (rw e at f)

  -- ---- 0 is none of it

  module _ (r : Range) (x : Extent w i j m n b u r) where
    pub excluded-below : lt_z (pos 0) (copy r.least) ≡ true → Excluded w i j m n b u
    excluded-below t p q h e =
        let a = test-lt {a = pos 0} {b = r.least} (rw (kept r.least x.low (omega arith)) at t) in let o = (x.holds p q h).low in omega zarith

    pub excluded-above : lt_z (copy r.greatest) (pos 0) ≡ true → Excluded w i j m n b u
    excluded-above t p q h e =
        let a = test-lt {a = r.greatest} {b = pos 0} (rw (kept r.greatest x.high (omega arith)) at t) in let o = (x.holds p q h).high
        in omega zarith
