-- Skew read backwards: a vector comes from those that differ from it in the skewed sign alone, where that sign may be the sum; then the set after
-- a skew, from its marks.
use mathlib.Core.Path.{◌≡◌, refl, sym, ◌∙◌, ap, subst}
use mathlib.Core.Bool.{Bool, true, false}
use mathlib.Core.List.Memᴰ
use mathlib.Core.List.{List, [], ◌∷◌}
use Prim.Native.Nat.{ℕ, zero, suc, ◌+◌, ◌<◌}
use native.Mathlib.Omega.{arith}
use lib.Dec.{T}
use lib.IntN.{ℤ, pos}
use lib.Signed.{lt_z}
use lib.ListN.{length, get_or, set, length-set}
use Rattle.integers.specs.Sign.{Sign, less, equal, greater, sign, turned}
use Rattle.integers.proofs.SignLaws.{Means, sign-means, means-sign}
use Rattle.integers.proofs.RangeLaws.{lt_test, test-lt}
use Rattle.lists.specs.Membership.{Mem, SameMembers}
use Rattle.lists.specs.Place.{under_each}
use Rattle.lists.proofs.TestLaws.{any_some, some-any, any-mem, mem-any, and_both, and_intro}
use Rattle.model.specs.Ticket.{skew}
use Rattle.model.specs.Directions.{by_sign, same_sign}
use Rattle.model.specs.Steps.{any_sign, sum_signs, head_sum, skew_signs, signed_sign, vectors, vectors_after}
use Rattle.step_preimages.specs.Numbers.{marked}
use Rattle.step_directions.specs.Sets.{vectors_in}
use Rattle.step_preimages.specs.Sources.{may_be, added_sign, gave, skew_source}
use Rattle.step_directions.proofs.VectorLaws.{every-sign}
use Rattle.model.proofs.Listing.LineLaws.{sign-decides}
use Rattle.step_directions.proofs.SetLaws.{after-step}

-- ---- the sum at a place

-- v is as long as u and differs from it at place b alone, where its sign may be the sum of u's and s
abbrev Summed : Sign → ℕ → List Sign → List Sign → Type 0
Summed s b u v = (length v ≡ length u) × (u ≡ set v b (get_or u b equal)) × Mem (get_or v b equal) (sum_signs (get_or u b equal) s)

sum-mem : (s t : Sign) (e : ℕ) (v : List Sign) → e < length v → Mem (get_or v e equal) (sum_signs t s) → Mem v (under_each e (head_sum s) (set v e t))
unfolding under_each head_sum
sum-mem s t e [] h m = absurd (omega arith)
sum-mem s t zero (r ∷ v) h m = Memᴰ.map (λ r. r ∷ v) m
sum-mem s t (suc e) (x ∷ v) h m = Memᴰ.map (λ w. x ∷ w) (sum-mem s t e v (omega arith) m)

mem-sum : (s : Sign) (e : ℕ) (u v : List Sign) → e < length u → Mem v (under_each e (head_sum s) u) → Summed s e u v
unfolding under_each head_sum
mem-sum s e [] v h m = absurd (omega arith)
mem-sum s zero (t ∷ u) v h m = let q = Memᴰ.of_map (λ r. r ∷ u) (sum_signs t s) m in subst (Summed s zero (t ∷ u)) q.2 (refl, refl, q.1)
mem-sum s (suc e) (x ∷ u) v h m =
    let q = Memᴰ.of_map (λ w. x ∷ w) (under_each e (head_sum s) u) m in
    let r = mem-sum s e u q.0 (omega arith) q.1 in
    subst (Summed s (suc e) (x ∷ u)) q.2 (ap suc r.0, ap (λ w. x ∷ w) r.1, r.2)

-- ---- and the outer sign that is added, at place a

module _ (e : ℕ) where
  -- the place e + 1 inside another
  unfoldable inner : ℕ → ℕ
  inner zero = suc e
  inner (suc a) = suc (inner a)

  inner-is : (a : ℕ) → inner a ≡ suc (a + e)
  unfolding inner
  inner-is zero = omega arith
  inner-is (suc a) = omega (arith, inner-is a)

module _ (c : ℤ) (e : ℕ) where
  skew-mem : (t : Sign) (a : ℕ) (v : List Sign) → inner e a < length v → Mem (get_or v (inner e a) equal) (sum_signs t (signed_sign c (get_or v a equal)))
      → Mem v (under_each a (skew_signs e c) (set v (inner e a) t))
  unfolding under_each skew_signs inner
  skew-mem t a [] h m = absurd (omega arith)
  skew-mem t zero (s ∷ v) h m = Memᴰ.map (λ w. s ∷ w) (sum-mem (signed_sign c s) t e v (omega arith) m)
  skew-mem t (suc a) (x ∷ v) h m = Memᴰ.map (λ w. x ∷ w) (skew-mem t a v (omega arith) m)

  mem-skew : (a : ℕ) (u v : List Sign) → inner e a < length u → Mem v (under_each a (skew_signs e c) u)
      → Summed (signed_sign c (get_or v a equal)) (inner e a) u v
  unfolding under_each skew_signs inner
  mem-skew a [] v h m = absurd (omega arith)
  mem-skew zero (s ∷ u) v h m =
      let q = Memᴰ.of_map (λ w. s ∷ w) (under_each e (head_sum (signed_sign c s)) u) m in
      let r = mem-sum (signed_sign c s) e u q.0 (omega arith) q.1 in
      subst (λ w. Summed (signed_sign c (get_or w 0 equal)) (suc e) (s ∷ u) w) q.2 (ap suc r.0, ap (λ w. s ∷ w) r.1, r.2)
  mem-skew (suc a) (x ∷ u) v h m =
      let q = Memᴰ.of_map (λ w. x ∷ w) (under_each a (skew_signs e c) u) m in
      let r = mem-skew a u q.0 (omega arith) q.1 in
      subst (λ w. Summed (signed_sign c (get_or w (suc a) equal)) (suc (inner e a)) (x ∷ u) w) q.2 (ap suc r.0, ap (λ w. x ∷ w) r.1, r.2)

-- ---- the set after a skew

-- a factor's sign is all that its table asks
added-sign : (c : ℤ) (plus : Bool) → plus ≡ lt_z (pos 0) c → (c ≡ pos 0 → ⊥) → (s : Sign) → signed_sign c s ≡ added_sign plus s
unfolding signed_sign
added-sign c true e n s = ap (λ t. by_sign t s equal (turned s)) (means-sign less (pos 0) c (test-lt (sym e)))
added-sign c false e n s = go (sign (pos 0) c) (sign-means (pos 0) c)
  where
    go : (t : Sign) → Means t (pos 0) c → by_sign t s equal (turned s) ≡ turned s
    go less m = let z : ◌≡◌ {A = Bool} true false = sym (lt_test m) ∙ sym e in absurd (subst T z tt)
    go equal m = absurd (n (sym m))
    go greater m = refl

module _ (a e : ℕ) (c : ℤ) (nonzero : c ≡ pos 0 → ⊥) (old new : List Bool) (d : ℕ) (inside : suc (a + e) < d) where
  -- the loop that is skewed
  abbrev b : ℕ
  b = a + 1 + e

  abbrev plus : Bool
  plus = lt_z (pos 0) c

  abbrev added : List Sign → Sign
  added v = added_sign plus (get_or v a equal)

  same : (s : Sign) → signed_sign c s ≡ added_sign plus s
  same = added-sign c plus refl nonzero

  place : inner e a ≡ b
  place = omega (arith, inner-is e a)

  into : (v : List Sign) → length v ≡ d → T (skew_source old a b plus v) → (u : List Sign) × (length u ≡ d) × T (marked old u)
      × Mem v (vectors (skew a e c) u)
  unfolding skew_source vectors
  into v l h =
      let r = any_some (gave old v b (added v)) any_sign h in
      let t = r.0 in
      let q = and_both (may_be t (added v) (get_or v b equal)) (marked old (set v b t)) r.2 in
      let m = any-mem same_sign sign-decides (get_or v b equal) (sum_signs t (added v)) q.0 in (
        set v b t,
        length-set v b t ∙ l,
        q.1,
        subst (λ k. Mem (get_or v k equal) (sum_signs t (added v)) → Mem v (under_each a (skew_signs e c) (set v k t))) place
            (subst (λ x. Mem (get_or v (inner e a) equal) (sum_signs t x) → Mem v (under_each a (skew_signs e c) (set v (inner e a) t)))
            (same (get_or v a equal)) (skew-mem c e t a v (omega (arith, place)))) m,
      )

  from : (u v : List Sign) → length u ≡ d → T (marked old u) → Mem v (vectors (skew a e c) u) → (length v ≡ d) × T (skew_source old a b plus v)
  unfolding skew_source vectors
  from u v l h m =
      let r = subst (λ k. Summed (added v) k u v) place (subst (λ x. Summed x (inner e a) u v) (same (get_or v a equal))
      (mem-skew c e a u v (omega (arith, place)) m)) in
      let t = get_or u b equal in (
        r.0 ∙ l,
        some-any (gave old v b (added v)) any_sign (every-sign t)
            (and_intro (may_be t (added v) (get_or v b equal)) (marked old (set v b t)) (mem-any same_sign sign-decides (sum_signs t (added v)) r.2)
            (subst (λ w. T (marked old w)) r.1 h)),
      )

  pub skew-after : ((v : List Sign) → length v ≡ d → marked new v ≡ skew_source old a b plus v)
      → SameMembers (vectors_in new d) (vectors_after (skew a e c) (vectors_in old d))
  skew-after f = after-step (skew a e c) old new d d
      (λ v l h. into v l (subst T (f v l) h))
      (λ u v l h m. let r = from u v l h m in (r.0, subst T (sym (f v r.0)) r.1))
