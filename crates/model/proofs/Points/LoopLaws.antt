-- One loop: the largest and the smallest of a list, the numbers from one to another, and its indices, which are the numbers within its limits, rising.
use mathlib.Core.Path.{◌≡◌, refl, sym}
use mathlib.Core.Logic.{⊎_elim, ◌↔◌}
use mathlib.Core.List.Memᴰ
use mathlib.Core.List.{List, [], ◌∷◌, map, map-eq-nil_iff, cons≢nil}
use Prim.Native.Nat.{ℕ, zero, suc}
use lib.IntN.{ℤ, pos, negsuc, ◌+ℤ◌, ◌-ℤ◌}
use lib.Signed.{◌≤ℤ◌, ◌<ℤ◌, lt_z}
use Rattle.lists.specs.Membership.{Mem, All}
use Rattle.lists.specs.Order.{Ordered}
use Rattle.lists.proofs.MembershipLaws.{all_nil, all_cons, all_map}
use Rattle.lists.proofs.TestLaws.{cond_cases}
use Rattle.integers.specs.Division.{floor_div, ceil_div}
use Rattle.integers.proofs.DifferenceLaws.{add-fact, sub-fact}
use Rattle.integers.proofs.RingLaws.{zarith, ≤ℤ-trans, ≤ℤ-antisym, ≤ℤ-of-eq, ≤ℤ-or-<ℤ, <ℤ-≤ℤ}
use Rattle.integers.proofs.RangeLaws.{test-lt, test-lt-no}
use Rattle.integers.proofs.DivisionLaws.{floor-iff, ceil-iff}
use Rattle.model.specs.Ticket.{Limit, Loop}
use Rattle.model.specs.Points.{max_z, min_z, largest, smallest, value, first_index, last_index, span, ints, indices}
use Rattle.model.specs.Inside.{AtLeast, AtMost, InLimits}
use Rattle.model.specs.Shape.{Runs}

-- ---- the largest and the smallest

pub max-iff : (a b x : ℤ) → (max_z a b ≤ℤ x) ↔ ((a ≤ℤ x) × (b ≤ℤ x))
unfolding max_z
max-iff a b x = cond_cases (λ m. (m ≤ℤ x) ↔ ((a ≤ℤ x) × (b ≤ℤ x))) (lt_z b a) a b
    (λ e. (λ h. (h, ≤ℤ-trans (<ℤ-≤ℤ (test-lt e)) h), λ h. h.0))
    (λ e. (λ h. (≤ℤ-trans (test-lt-no e) h, h), λ h. h.1))

pub min-iff : (a b x : ℤ) → (x ≤ℤ min_z a b) ↔ ((x ≤ℤ a) × (x ≤ℤ b))
unfolding min_z
min-iff a b x = cond_cases (λ m. (x ≤ℤ m) ↔ ((x ≤ℤ a) × (x ≤ℤ b))) (lt_z a b) a b
    (λ e. (λ h. (h, ≤ℤ-trans h (<ℤ-≤ℤ (test-lt e))), λ h. h.0))
    (λ e. (λ h. (≤ℤ-trans h (test-lt-no e), h), λ h. h.1))

pub largest-iff : (x : ℤ) (l : List ℤ) → (l ≡ [] → ⊥) → All (λ a. a ≤ℤ x) l ↔ (largest l ≤ℤ x)
unfolding largest
largest-iff x [] n = absurd (n refl)
largest-iff x (a ∷ []) n = (λ h. h a (Memᴰ.head refl), λ h. all_cons (λ a. a ≤ℤ x) h (all_nil (λ a. a ≤ℤ x)))
largest-iff x (a ∷ b ∷ l) n = let r = largest-iff x (b ∷ l) cons≢nil in let m = max-iff a (largest (b ∷ l)) x in (
  λ h. m.1 (h a (Memᴰ.head refl), r.0 (λ y i. h y (Memᴰ.tail i))),
  λ h. all_cons (λ a. a ≤ℤ x) (m.0 h).0 (r.1 (m.0 h).1),
)

pub smallest-iff : (x : ℤ) (l : List ℤ) → (l ≡ [] → ⊥) → All (λ a. x ≤ℤ a) l ↔ (x ≤ℤ smallest l)
unfolding smallest
smallest-iff x [] n = absurd (n refl)
smallest-iff x (a ∷ []) n = (λ h. h a (Memᴰ.head refl), λ h. all_cons (λ a. x ≤ℤ a) h (all_nil (λ a. x ≤ℤ a)))
smallest-iff x (a ∷ b ∷ l) n = let r = smallest-iff x (b ∷ l) cons≢nil in let m = min-iff a (smallest (b ∷ l)) x in (
  λ h. m.1 (h a (Memᴰ.head refl), r.0 (λ y i. h y (Memᴰ.tail i))),
  λ h. all_cons (λ a. x ≤ℤ a) (m.0 h).0 (r.1 (m.0 h).1),
)

-- ---- the numbers a, a + 1, .., a + n − 1

pub ints-mem : {x : ℤ} (a : ℤ) (n : ℕ) → Mem x (ints a n) → (a ≤ℤ x) × (x <ℤ (a +ℤ pos n))
unfolding ints
ints-mem a zero m = absurd (Memᴰ.not-nil m)
ints-mem a (suc n) (Memᴰ.head e) = (≤ℤ-of-eq (sym e), omega (zarith, add-fact a (pos (suc n))))
ints-mem a (suc n) (Memᴰ.tail m) = let r = ints-mem (a +ℤ pos 1) n m in
    (omega (zarith, add-fact a (pos 1)), omega (zarith, add-fact a (pos 1), add-fact (a +ℤ pos 1) (pos n), add-fact a (pos (suc n))))

pub mem-ints : (a : ℤ) (n : ℕ) (x : ℤ) → a ≤ℤ x → x <ℤ (a +ℤ pos n) → Mem x (ints a n)
unfolding ints
mem-ints a zero x h g = absurd (omega (zarith, add-fact a (pos 0)))
mem-ints a (suc n) x h g = ⊎_elim (λ q. Memᴰ.head (≤ℤ-antisym q h))
    (λ q. Memᴰ.tail (mem-ints (a +ℤ pos 1) n x (omega (zarith, add-fact a (pos 1)))
    (omega (zarith, add-fact a (pos 1), add-fact (a +ℤ pos 1) (pos n), add-fact a (pos (suc n))))))
    (≤ℤ-or-<ℤ x a)

pub ints-rise : (a : ℤ) (n : ℕ) → Ordered ◌<ℤ◌ (ints a n)
unfolding ints
ints-rise a zero = tt
ints-rise a (suc n) = (λ x m. let r = ints-mem (a +ℤ pos 1) n m in omega (zarith, add-fact a (pos 1)), ints-rise (a +ℤ pos 1) n)

pub span-iff : (a b x : ℤ) → a ≤ℤ x → (x ≤ℤ b) ↔ (x <ℤ (a +ℤ pos (span (b -ℤ a))))
unfolding span
span-iff a b x h = go (b -ℤ a) refl
  where
    go : (d : ℤ) → b -ℤ a ≡ d → (x ≤ℤ b) ↔ (x <ℤ (a +ℤ pos (span d)))
    go (pos n) e = (λ g. omega (zarith, sub-fact b a, add-fact a (pos (suc n))), λ g. omega (zarith, sub-fact b a, add-fact a (pos (suc n))))
    go (negsuc n) e = (λ g. absurd (omega (zarith, sub-fact b a)), λ g. absurd (omega (zarith, add-fact a (pos 0))))

-- ---- the indices

module _ (L : Loop) (r : Runs L) (outer : List ℤ) (i : ℤ) where
  pub first-iff : All (AtLeast outer i) L.lower ↔ (first_index L outer ≤ℤ i)
  unfolding first_index
  first-iff =
      let f : Limit → ℤ = λ l. ceil_div (value l outer) (pos l.multiplier) in
      let a = all_map f (AtLeast outer i) (λ a. a ≤ℤ i) L.lower (λ l m. ceil-iff (value l outer) (pos l.multiplier) i
      (let h = r.positive-lower l m in omega zarith)) in
      let b = largest-iff i (map f L.lower) (λ e. r.some-lower ((map-eq-nil_iff f).0 e)) in
      (λ h. b.0 (a.0 h), λ h. a.1 (b.1 h))

  pub last-iff : All (AtMost outer i) L.upper ↔ (i ≤ℤ last_index L outer)
  unfolding last_index
  last-iff =
      let f : Limit → ℤ = λ l. floor_div (value l outer) (pos l.multiplier) in
      let a = all_map f (AtMost outer i) (λ a. i ≤ℤ a) L.upper (λ l m. floor-iff (value l outer) (pos l.multiplier) i
      (let h = r.positive-upper l m in omega zarith)) in
      let b = smallest-iff i (map f L.upper) (λ e. r.some_upper ((map-eq-nil_iff f).0 e)) in
      (λ h. b.0 (a.0 h), λ h. a.1 (b.1 h))

  pub indices-inside : Mem i (indices L outer) ↔ InLimits L outer i
  unfolding indices
  indices-inside =
      let a = first_index L outer in let b = last_index L outer in (
        λ m. let q = ints-mem a (span (b -ℤ a)) m in record { low = first-iff.1 q.0; high = last-iff.1 ((span-iff a b i q.0).1 q.1) },
        λ h. let g = first-iff.0 h.low in mem-ints a (span (b -ℤ a)) i g ((span-iff a b i g).0 (last-iff.0 h.high)),
      )

pub indices-rise : (L : Loop) (outer : List ℤ) → Ordered ◌<ℤ◌ (indices L outer)
unfolding indices
indices-rise L outer = ints-rise (first_index L outer) (span (last_index L outer -ℤ first_index L outer))
