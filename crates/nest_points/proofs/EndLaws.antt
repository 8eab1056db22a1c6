-- The ends of a range decide whether an index of it is far: the numbers of the range, then the test.
use mathlib.Core.Path.{◌≡◌, refl, sym, ◌∙◌}
use mathlib.Core.Bool.{◌||◌}
use mathlib.Core.Logic.{⊎_elim}
use mathlib.Core.List.Memᴰ
use Prim.Native.Nat.{ℕ, zero, suc, ◌<◌}
use native.Mathlib.Omega.{arith}
use lib.Dec.{T, ltb→lt, lt→ltb}
use lib.IntN.{ℤ, pos, negsuc, neg_ℤ, nat_abs, ◌+ℤ◌, ◌-ℤ◌, +ℤ_idr}
use lib.Signed.{lt_z, lt_z_yes, ◌≤ℤ◌, ◌<ℤ◌}
use Rattle.lists.specs.Membership.{Mem}
use Rattle.lists.specs.Tests.{any}
use Rattle.lists.proofs.TestLaws.{T-same, any_some, some-any, or_cases, or_left, or_right}
use Rattle.integers.proofs.DifferenceLaws.{add-fact, sub-fact, neg-fact}
use Rattle.integers.proofs.RingLaws.{zarith}
use Rattle.integers.proofs.RangeLaws.{size-nat_abs}
use Rattle.model.specs.Points.{span, ints}
use Rattle.model.specs.Bounds.{beyond}
use Rattle.nest_points.specs.Tallies.{outside}

-- ---- the numbers of a range

pub ints-mem : {x : ℤ} (a : ℤ) (n : ℕ) → Mem x (ints a n) → (a ≤ℤ x) × (x <ℤ (a +ℤ pos n))
unfolding ints
ints-mem a zero m = absurd (Memᴰ.not-nil m)
ints-mem {x} a (suc n) (Memᴰ.head e) = let f : a ≡ x = sym e in (omega zarith, omega (zarith, add-fact a (pos (suc n))))
ints-mem a (suc n) (Memᴰ.tail m) = let r = ints-mem (a +ℤ pos 1) n m in
    (omega (zarith, add-fact a (pos 1)), omega (zarith, add-fact a (pos 1), add-fact (a +ℤ pos 1) (pos n), add-fact a (pos (suc n))))

pub mem-ints : (a : ℤ) (n t : ℕ) (x : ℤ) → t < n → x ≡ a +ℤ pos t → Mem x (ints a n)
unfolding ints
mem-ints a zero t x h e = absurd (omega arith)
mem-ints a (suc n) zero x h e = Memᴰ.head (e ∙ +ℤ_idr a)
mem-ints a (suc n) (suc t) x h e = Memᴰ.tail (mem-ints (a +ℤ pos 1) n t x (omega arith)
    (omega (zarith, add-fact a (pos 1), add-fact (a +ℤ pos 1) (pos t), add-fact a (pos (suc t)))))

-- ---- the test

beyond-cases : (m : ℕ) (x : ℤ) → T (beyond m x) → T (lt_z x (neg_ℤ (pos m)) || lt_z (pos m) x)
unfolding beyond
beyond-cases m (pos n) h = let k = ltb→lt m n h in let g : pos m <ℤ pos n = omega zarith in or_right (lt_z (pos n) (neg_ℤ (pos m)))
    (lt_z (pos m) (pos n)) g.lt
beyond-cases m (negsuc n) h = let k = ltb→lt m (suc n) h in let g : negsuc n <ℤ neg_ℤ (pos m) = omega (zarith, neg-fact (pos m)) in
    or_left (lt_z (negsuc n) (neg_ℤ (pos m))) (lt_z (pos m) (negsuc n)) g.lt

below-beyond : (m : ℕ) (x : ℤ) → x <ℤ neg_ℤ (pos m) → T (beyond m x)
unfolding beyond
below-beyond m x h = lt→ltb m (nat_abs x) (omega (zarith, neg-fact (pos m), size-nat_abs x))

above-beyond : (m : ℕ) (x : ℤ) → pos m <ℤ x → T (beyond m x)
unfolding beyond
above-beyond m x h = lt→ltb m (nat_abs x) (omega (zarith, size-nat_abs x))

-- a span that is not empty is one more than the difference
span_of : (d : ℤ) → (span d ≡ 0 → ⊥) → (t : ℕ) × (d ≡ pos t) × (span d ≡ suc t)
unfolding span
span_of (pos n) h = (n, refl, refl)
span_of (negsuc n) h = absurd (h refl)

module _ (bound : ℕ) (lo hi : ℤ) (nonempty : span (hi -ℤ lo) ≡ 0 → ⊥) where
  hi-in : Mem hi (ints lo (span (hi -ℤ lo)))
  hi-in = let r = span_of (hi -ℤ lo) nonempty in let q : hi -ℤ lo ≡ pos r.0 = r.1 in let z : span (hi -ℤ lo) ≡ suc r.0 = r.2 in
      mem-ints lo (span (hi -ℤ lo)) r.0 hi (omega arith) (omega (zarith, sub-fact hi lo, add-fact lo (pos r.0)))

  lo-in : Mem lo (ints lo (span (hi -ℤ lo)))
  lo-in = let r = span_of (hi -ℤ lo) nonempty in let z : span (hi -ℤ lo) ≡ suc r.0 = r.2 in
      mem-ints lo (span (hi -ℤ lo)) 0 lo (omega arith) (sym (+ℤ_idr lo))

  pub below_last : {x : ℤ} → Mem x (ints lo (span (hi -ℤ lo))) → (lo ≤ℤ x) × (x ≤ℤ hi)
  below_last m = let q = ints-mem lo (span (hi -ℤ lo)) m in let r = span_of (hi -ℤ lo) nonempty in
      let d : hi -ℤ lo ≡ pos r.0 = r.1 in let z : span (hi -ℤ lo) ≡ suc r.0 = r.2 in
      (q.0, omega (zarith, sub-fact hi lo, add-fact lo (pos (span (hi -ℤ lo)))))

  pub ends-decide : any (beyond bound) (ints lo (span (hi -ℤ lo))) ≡ outside bound lo hi
  unfolding outside
  ends-decide = T-same (any (beyond bound) (ints lo (span (hi -ℤ lo)))) (lt_z lo (neg_ℤ (pos bound)) || lt_z (pos bound) hi) to from
    where
      to : T (any (beyond bound) (ints lo (span (hi -ℤ lo)))) → T (lt_z lo (neg_ℤ (pos bound)) || lt_z (pos bound) hi)
      to h = let r = any_some (beyond bound) (ints lo (span (hi -ℤ lo))) h in let q = below_last r.1 in
          ⊎_elim
          (λ t. let u : r.0 <ℤ neg_ℤ (pos bound) = lt_z_yes t in let g : lo <ℤ neg_ℤ (pos bound) = omega zarith in or_left (lt_z lo (neg_ℤ (pos bound)))
          (lt_z (pos bound) hi) g.lt)
          (λ t. let u : pos bound <ℤ r.0 = lt_z_yes t in let g : pos bound <ℤ hi = omega zarith in or_right (lt_z lo (neg_ℤ (pos bound)))
          (lt_z (pos bound) hi) g.lt)
          (or_cases (lt_z r.0 (neg_ℤ (pos bound))) (lt_z (pos bound) r.0) (beyond-cases bound r.0 r.2))

      from : T (lt_z lo (neg_ℤ (pos bound)) || lt_z (pos bound) hi) → T (any (beyond bound) (ints lo (span (hi -ℤ lo))))
      from h = ⊎_elim
          (λ t. some-any (beyond bound) (ints lo (span (hi -ℤ lo))) lo-in (below-beyond bound lo (lt_z_yes t)))
          (λ t. some-any (beyond bound) (ints lo (span (hi -ℤ lo))) hi-in (above-beyond bound hi (lt_z_yes t)))
          (or_cases (lt_z lo (neg_ℤ (pos bound))) (lt_z (pos bound) hi) h)
