-- The tables of the steps name no vector that no two points can have: for each vector of a table two points are shown that have the signs before the
-- step and those after it. In order: a change at a place; the sums of a skew, found by computation; the parts of a section; the steps.
use mathlib.Core.Path.{◌≡◌, refl, sym, ap, ap₂, ◌∙◌, subst}
use mathlib.Core.Bool.{Bool, true, ◌&&◌}
use mathlib.Core.List.Memᴰ
use mathlib.Core.List.{List, [], ◌∷◌, ◌++◌}
use Prim.Native.Nat.{ℕ, zero, suc, ◌≤◌}
use native.Mathlib.Omega.{arith}
use lib.Dec.{T}
use lib.IntN.{ℤ, pos, negsuc, nat_abs, ◌+ℤ◌, ◌*ℤ◌}
use lib.Signed.{◌≤ℤ◌, ◌<ℤ◌}
use lib.ListN.{length}
use Rattle.integers.specs.Sign.{Sign, less, equal, greater, sign}
use Rattle.integers.proofs.RingLaws.{zarith}
use Rattle.integers.proofs.SignLaws.{Means, means-sign}
use Rattle.integers.proofs.DivisionLaws.{joined-quotient, joined-rest}
use Rattle.lists.specs.Membership.{Mem}
use Rattle.lists.specs.Place.{under, under_each, on_head}
use Rattle.lists.specs.Tests.{all, any}
use Rattle.lists.proofs.TestLaws.{and_both, true-T, all-holds, any_some}
use Rattle.model.specs.Ticket.{Step, exchange, reversal, skew, section, circulation}
use Rattle.model.specs.Directions.{signs, same_sign}
use Rattle.model.specs.Steps.{skewed, sectioned, forward, any_sign, sum_signs, signed_sign, head_sum, skew_signs, split_sign, split_signs, vectors}
use Rattle.model.specs.Grammar.{most_factor}
use Rattle.model.specs.Ranges.{InRange, StepThere}
use Rattle.model.specs.Promises.{Attained}
use Rattle.model.proofs.Listing.LineLaws.{sign-decides}
use Rattle.model.proofs.Steps.VectorLaws.{any-sign, exchange-signs, reversal-signs, circulation-signs}

-- the two points may be changed differently
record Attains (f g : List ℤ → List ℤ) (v w : List Sign) : Type 0 where
  first : List ℤ
  second : List ℤ
  size : length first ≡ length second
  had : signs first second ≡ v
  has : signs (f first) (g second) ≡ w

-- ---- a change at a place

-- indices that have a sign
abbrev early : Sign → ℤ
early less = pos 0
early equal = pos 0
early greater = pos 2

abbrev late : Sign → ℤ
late less = pos 2
late equal = pos 0
late greater = pos 0

early-late : (s : Sign) → sign (early s) (late s) ≡ s
unfolding sign
early-late less = refl
early-late equal = refl
early-late greater = refl

-- points that are not changed
plain : (v : List Sign) → Attains (λ p. p) (λ p. p) v v
unfolding signs
plain [] = record { first = []; second = []; size = refl; had = refl; has = refl }
plain (s ∷ v) = let r = plain v in record {
  first = early s ∷ r.first;
  second = late s ∷ r.second;
  size = ap suc r.size;
  had = ap₂ ◌∷◌ (early-late s) r.had;
  has = ap₂ ◌∷◌ (early-late s) r.has;
}

module _ (f g : List ℤ → List ℤ) (h : List Sign → List (List Sign)) (each : (v w : List Sign) → Mem w (h v) → Attains f g v w) where
  under-attains : (a : ℕ) (v w : List Sign) → Mem w (under_each a h v) → Attains (under a f) (under a g) v w
  unfolding under under_each signs
  under-attains zero v w m = each v w m
  under-attains (suc a) [] w m = record { first = []; second = []; size = refl; had = refl; has = sym (Memᴰ.eq_of_singleton m) }
  under-attains (suc a) (s ∷ v) w m =
      let q = Memᴰ.of_map (λ t. s ∷ t) (under_each a h v) m in
      let r = under-attains a v q.0 q.1 in
      record {
        first = early s ∷ r.first;
        second = late s ∷ r.second;
        size = ap suc r.size;
        had = ap₂ ◌∷◌ (early-late s) r.had;
        has = ap₂ ◌∷◌ (early-late s) r.has ∙ q.2;
      }

-- ---- sums

abbrev few : List ℤ
few = pos 0 ∷ pos 1 ∷ pos 2 ∷ pos 3 ∷ []

-- two of a few indices have the sign t, and with c times the outer ones the sign r
abbrev sum_test : ℤ → Sign → Sign → Sign → Bool
sum_test c s t r = any (λ y. any (λ z. same_sign (sign y z) t && same_sign (sign (y +ℤ c *ℤ early s) (z +ℤ c *ℤ late s)) r) few) few

abbrev sums_test : ℤ → Bool
sums_test c = all (λ s. all (λ t. all (sum_test c s t) (sum_signs t (signed_sign c s))) any_sign) any_sign

sums-computed : (sums_test (pos 1) ≡ true) × (sums_test (negsuc 0) ≡ true)
unfolding all any sign sum_signs any_sign signed_sign
sums-computed = (refl, refl)

record Pair (c : ℤ) (s t r : Sign) : Type 0 where
  early-index : ℤ
  late_index : ℤ
  had : sign early-index late_index ≡ t
  has : sign (early-index +ℤ c *ℤ early s) (late_index +ℤ c *ℤ late s) ≡ r

factor-one : (c : ℤ) → InRange 1 most_factor (nat_abs c) → T (sums_test c)
factor-one (pos zero) i = absurd (let l = i.low in omega arith)
factor-one (pos (suc zero)) i = true-T (sums_test (pos 1)) sums-computed.0
factor-one (pos (suc (suc n))) i = absurd (let l = i.high in omega arith)
factor-one (negsuc zero) i = true-T (sums_test (negsuc 0)) sums-computed.1
factor-one (negsuc (suc n)) i = absurd (let l = i.high in omega arith)

sum-pair : (c : ℤ) → InRange 1 most_factor (nat_abs c) → (s t r : Sign) → Mem r (sum_signs t (signed_sign c s)) → Pair c s t r
sum-pair c i s t r m =
    let a = all-holds (λ t. all (sum_test c s t) (sum_signs t (signed_sign c s))) any_sign
    (all-holds (λ s. all (λ t. all (sum_test c s t) (sum_signs t (signed_sign c s))) any_sign) any_sign (factor-one c i) s (any-sign s)) t (any-sign t) in
    let y = any_some (λ y. any (λ z. test y z) few) few (all-holds (sum_test c s t) (sum_signs t (signed_sign c s)) a r m) in
    let z = any_some (λ z. test y.0 z) few y.2 in
    let b = and_both (same_sign (sign y.0 z.0) t) (same_sign (sign (y.0 +ℤ c *ℤ early s) (z.0 +ℤ c *ℤ late s)) r) z.2 in
    record {
      early-index = y.0;
      late_index = z.0;
      had = sign-decides.equal (sign y.0 z.0) t b.0;
      has = sign-decides.equal (sign (y.0 +ℤ c *ℤ early s) (z.0 +ℤ c *ℤ late s)) r b.1;
    }
  where
    test : ℤ → ℤ → Bool
    test y z = same_sign (sign y z) t && same_sign (sign (y +ℤ c *ℤ early s) (z +ℤ c *ℤ late s)) r

module _ (d : ℕ) (c : ℤ) (i : InRange 1 most_factor (nat_abs c)) where
  head-attains : (s : Sign) (v w : List Sign) → Mem w (head_sum (signed_sign c s) v)
      → Attains (on_head (λ y. y +ℤ c *ℤ early s)) (on_head (λ y. y +ℤ c *ℤ late s)) v w
  unfolding head_sum on_head signs
  head-attains s [] w m = record { first = []; second = []; size = refl; had = refl; has = sym (Memᴰ.eq_of_singleton m) }
  head-attains s (t ∷ v) w m =
      let q = Memᴰ.of_map (λ r. r ∷ v) (sum_signs t (signed_sign c s)) m in
      let b = sum-pair c i s t q.0 q.1 in
      let r = plain v in
      record {
        first = b.early-index ∷ r.first;
        second = b.late_index ∷ r.second;
        size = ap suc r.size;
        had = ap₂ ◌∷◌ b.had r.had;
        has = ap₂ ◌∷◌ b.has r.has ∙ q.2;
      }

  skew-attains : (v w : List Sign) → Mem w (skew_signs d c v) → Attains (skewed d c) (skewed d c) v w
  unfolding skew_signs skewed signs
  skew-attains [] w m = record { first = []; second = []; size = refl; had = refl; has = sym (Memᴰ.eq_of_singleton m) }
  skew-attains (s ∷ v) w m =
      let q = Memᴰ.of_map (λ r. s ∷ r) (under_each d (head_sum (signed_sign c s)) v) m in
      let r = under-attains (on_head (λ y. y +ℤ c *ℤ early s)) (on_head (λ y. y +ℤ c *ℤ late s)) (head_sum (signed_sign c s)) (head-attains s) d v
      q.0 q.1 in
      record {
        first = early s ∷ r.first;
        second = late s ∷ r.second;
        size = ap suc r.size;
        had = ap₂ ◌∷◌ (early-late s) r.had;
        has = ap₂ ◌∷◌ (early-late s) r.has ∙ q.2;
      }

-- ---- parts: the index of section s and element e

module _ (w : ℕ) (wide : 2 ≤ w) where
  abbrev index : ℤ → ℤ → ℤ
  index s e = pos w *ℤ s +ℤ e

  positive : pos 0 <ℤ pos w
  positive = omega zarith

  element-below : (e : ℤ) → e ≤ℤ pos 1 → e <ℤ pos w
  element-below e h = omega zarith

  -- its parts are s and e
  parted : (s e : ℤ) (p : List ℤ) → pos 0 ≤ℤ e → e ≤ℤ pos 1 → sectioned w (index s e ∷ p) ≡ s ∷ e ∷ p
  unfolding sectioned
  parted s e p l h = ap₂ (λ x y. x ∷ y ∷ p) (joined-quotient (pos w) positive s e l (element-below e h))
      (joined-rest (pos w) positive s e l (element-below e h))

  -- zero or one
  record Bit (e : ℤ) : Type 0 where
    low : pos 0 ≤ℤ e
    high : e ≤ℤ pos 1

  no : Bit (pos 0)
  no = record { low = omega zarith; high = omega zarith }

  yes-one : Bit (pos 1)
  yes-one = record { low = omega zarith; high = omega zarith }

  -- two indices by their parts
  parts-attain : (s : Sign) (v : List Sign) (a b c e : ℤ) → Bit b → Bit e → Means s (index a b) (index c e)
      → Attains (sectioned w) (sectioned w) (s ∷ v) (sign a c ∷ sign b e ∷ v)
  unfolding signs
  parts-attain s v a b c e i j h = let r = plain v in record {
    first = index a b ∷ r.first;
    second = index c e ∷ r.second;
    size = ap suc r.size;
    had = ap₂ ◌∷◌ (means-sign s (index a b) (index c e) h) r.had;
    has = ap₂ signs (parted a b r.first i.low i.high) (parted c e r.second j.low j.high) ∙ ap (λ l. sign a c ∷ sign b e ∷ l)
        r.has;
  }

  became : {v t : List Sign} (u : List Sign) → u ≡ t → Attains (sectioned w) (sectioned w) v u → Attains (sectioned w) (sectioned w) v t
  became {v} u e h = subst (Attains (sectioned w) (sectioned w) v) e h

  split-attains : (s : Sign) (v r : List Sign) → Mem r (split_sign s) → Attains (sectioned w) (sectioned w) (s ∷ v) (r ++ v)
  unfolding split_sign any_sign sign
  split-attains equal v r (Memᴰ.head e) = became _ (ap (◌++ v) (sym e)) (parts-attain equal v (pos 0) (pos 0) (pos 0) (pos 0) no no refl)
  split-attains equal v r (Memᴰ.tail m) = absurd (Memᴰ.not-nil m)
  split-attains less v r (Memᴰ.head e) = became _ (ap (◌++ v) (sym e))
      (parts-attain less v (pos 0) (pos 0) (pos 0) (pos 1) no yes-one (omega zarith))
  split-attains less v r (Memᴰ.tail (Memᴰ.head e)) =
      became _ (ap (◌++ v) (sym e)) (parts-attain less v (pos 0) (pos 0) (pos 1) (pos 1) no yes-one (omega zarith))
  split-attains less v r (Memᴰ.tail (Memᴰ.tail (Memᴰ.head e))) =
      became _ (ap (◌++ v) (sym e)) (parts-attain less v (pos 0) (pos 0) (pos 1) (pos 0) no no (omega zarith))
  split-attains less v r (Memᴰ.tail (Memᴰ.tail (Memᴰ.tail (Memᴰ.head e)))) =
      became _ (ap (◌++ v) (sym e)) (parts-attain less v (pos 0) (pos 1) (pos 1) (pos 0) yes-one no (omega zarith))
  split-attains less v r (Memᴰ.tail (Memᴰ.tail (Memᴰ.tail (Memᴰ.tail m)))) = absurd (Memᴰ.not-nil m)
  split-attains greater v r (Memᴰ.head e) =
      became _ (ap (◌++ v) (sym e)) (parts-attain greater v (pos 0) (pos 1) (pos 0) (pos 0) yes-one no (omega zarith))
  split-attains greater v r (Memᴰ.tail (Memᴰ.head e)) =
      became _ (ap (◌++ v) (sym e)) (parts-attain greater v (pos 1) (pos 0) (pos 0) (pos 1) no yes-one (omega zarith))
  split-attains greater v r (Memᴰ.tail (Memᴰ.tail (Memᴰ.head e))) =
      became _ (ap (◌++ v) (sym e)) (parts-attain greater v (pos 1) (pos 0) (pos 0) (pos 0) no no (omega zarith))
  split-attains greater v r (Memᴰ.tail (Memᴰ.tail (Memᴰ.tail (Memᴰ.head e)))) =
      became _ (ap (◌++ v) (sym e)) (parts-attain greater v (pos 1) (pos 1) (pos 0) (pos 0) yes-one no (omega zarith))
  split-attains greater v r (Memᴰ.tail (Memᴰ.tail (Memᴰ.tail (Memᴰ.tail m)))) = absurd (Memᴰ.not-nil m)

  section-attains : (v t : List Sign) → Mem t (split_signs v) → Attains (sectioned w) (sectioned w) v t
  unfolding split_signs sectioned signs
  section-attains [] t m = record { first = []; second = []; size = refl; had = refl; has = sym (Memᴰ.eq_of_singleton m) }
  section-attains (s ∷ v) t m = let q = Memᴰ.of_map (λ r. r ++ v) (split_sign s) m in became (q.0 ++ v) q.2 (split-attains s v q.0 q.1)

-- ---- the steps

turned-attained : (t : Step) → ((p q : List ℤ) → length p ≡ length q → vectors t (signs p q) ≡ signs (forward t p) (forward t q) ∷ [])
    → (v w : List Sign)
    → Mem w (vectors t v) → Attained t v w
turned-attained t h v w m = let r = plain v in record {
  first = r.first;
  second = r.second;
  size = r.size;
  had = r.had;
  has = sym (Memᴰ.eq_of_singleton (subst (Mem w) (ap (vectors t) (sym r.had) ∙ h r.first r.second r.size) m));
}

pub table-attained : (m : ℕ) (t : Step) → StepThere m t → (v w : List Sign) → Mem w (vectors t v) → Attained t v w
unfolding vectors forward
table-attained m (exchange a) h v w i = turned-attained (exchange a) (exchange-signs a) v w i
table-attained m (reversal a) h v w i = turned-attained (reversal a) (reversal-signs a) v w i
table-attained m (skew a d c) h v w i = let r = under-attains (skewed d c) (skewed d c) (skew_signs d c) (skew-attains d c h.1) a v w i in
    record { first = r.first; second = r.second; size = r.size; had = r.had; has = r.has }
table-attained m (section a k) h v w i = let r = under-attains (sectioned k) (sectioned k) split_signs (section-attains k h.2.low) a v w i in
    record { first = r.first; second = r.second; size = r.size; had = r.had; has = r.has }
table-attained m (circulation a b) h v w i = turned-attained (circulation a b) (circulation-signs a b) v w i
