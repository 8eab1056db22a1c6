-- The limits and the loops that flat slices stand for: how many limits a side has, and what all of them have; then loops that can be run.
use mathlib.Core.Path.{◌≡◌, refl, ap, subst}
use mathlib.Core.List.{List, []}
use Prim.Native.Nat.{ℕ, zero, suc, ◌+◌, ◌*◌, ◌≤◌, ◌<◌}
use native.Mathlib.Omega.{arith}
use native.Mathlib.Nat.{add-zero}
use lib.IntN.{ℤ, pos, negsuc, nat_abs}
use lib.Signed.{◌<ℤ◌}
use lib.ListN.{length, get_or}
use Rattle.integers.proofs.RingLaws.{zarith}
use Rattle.lists.specs.Membership.{All}
use Rattle.lists.proofs.MembershipLaws.{all_nil, all_cons}
use Rattle.model.specs.Ticket.{Limit, Loop}
use Rattle.model.specs.Shape.{Runs}
use Rattle.nest_flat.specs.Flat.{limit_at, limits_at, loop_at, loops_from, Positive, NestOk}

pub limits-length : (s : List ℤ) (n j m : ℕ) → length (limits_at s n j m) ≡ m
unfolding limits_at
limits-length s n j zero = refl
limits-length s n j (suc m) = ap suc (limits-length s n (suc j) m)

pub limits-all : (P : Limit → Type 0) (s : List ℤ) (n j m : ℕ) → ((i : ℕ) → i < m → P (limit_at s n (j + i))) → All P (limits_at s n j m)
unfolding limits_at
limits-all P s n j zero h = all_nil P
limits-all P s n j (suc m) h = all_cons P (subst (λ (i : ℕ). P (limit_at s n i)) (add-zero j) (h 0 (omega arith)))
    (limits-all P s n (suc j) m (λ i g. let e : j + suc i ≡ suc j + i = omega arith in subst (λ (i : ℕ). P (limit_at s n i)) e
    (h (suc i) (omega arith))))

loops-all : (P : Loop → Type 0) (s : List ℤ) (c : List ℕ) (k n : ℕ) → ((i : ℕ) → k ≤ i → i < k + n → P (loop_at s c i)) → All P (loops_from s c k n)
unfolding loops_from
loops-all P s c k zero h = all_nil P
loops-all P s c k (suc n) h = all_cons P (h k (omega arith) (omega arith)) (loops-all P s c (suc k) n (λ i a b. h i (omega arith) (omega arith)))

-- ---- limits on both sides, with positive multipliers

some : (s : List ℤ) (n j m : ℕ) → 1 ≤ m → limits_at s n j m ≡ [] → ⊥
some s n j m h e = let k = limits-length s n j m in let z : length (limits_at s n j m) ≡ 0 = ap length e in omega arith

size-positive : (z : ℤ) → pos 0 <ℤ z → 0 < nat_abs z
size-positive (pos n) h = omega zarith
size-positive (negsuc n) h = absurd (omega zarith)

positive : (s : List ℤ) (n j m : ℕ) → Positive s j m → All (λ (l : Limit). 0 < l.multiplier) (limits_at s n j m)
unfolding limit_at
positive s n j m p = limits-all (λ (l : Limit). 0 < l.multiplier) s n j m (λ i h. size-positive (get_or s ((j + i) * 8) (pos 0)) (p i h))

module _ (s : List ℤ) (c : List ℕ) where
  pub loop-runs : (k : ℕ) → 1 ≤ get_or c (k * 2) 0 → 1 ≤ get_or c (k * 2 + 1) 0 → Positive s (k * 32) (get_or c (k * 2) 0)
      → Positive s (k * 32 + 16) (get_or c (k * 2 + 1) 0) → Runs (loop_at s c k)
  unfolding loop_at
  loop-runs k a b p q = record {
    some-lower = some s k (k * 32) (get_or c (k * 2) 0) a;
    some_upper = some s k (k * 32 + 16) (get_or c (k * 2 + 1) 0) b;
    positive-lower = positive s k (k * 32) (get_or c (k * 2) 0) p;
    positive-upper = positive s k (k * 32 + 16) (get_or c (k * 2 + 1) 0) q;
  }

  pub nest_runs : (n : ℕ) → NestOk s c n → All Runs (loops_from s c 0 n)
  nest_runs n p = loops-all Runs s c 0 n (λ k _ h. let g : k < n = omega arith in loop-runs k (p.lower-count k g).0 (p.upper-count k g).0
      (p.lower-positive k g) (p.upper-positive k g))
