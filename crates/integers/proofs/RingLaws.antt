-- ℤ as a commutative ordered ring: `zarith`, by which `omega` reads ℤ; then the ring's laws, then the order's, then products in the order.
-- lib.IntN has +ℤ-comm, +ℤ-assoc, *ℤ-comm, the units and the inverses; lib.Signed has ≤ℤ-refl, <ℤ-≤ℤ-trans, <ℤ-irrefl, clashℤ.
-- Identities of longer polynomials are `calc` (`Quote`) or `lin` (`Linear`).
use mathlib.Core.Path.{◌≡◌, refl, ap}
use mathlib.Core.Logic.{◌⊎◌, inl, inr}
use Prim.Native.Nat.{ℕ, zero, suc, ◌+◌, ◌*◌, ◌≤◌, ◌<◌}
use native.Mathlib.Omega.{arith}
use native.Mathlib.Nat.{mul-le-mul_left}
use lib.IntN.{ℤ, pos, negsuc, neg_ℤ, ◌+ℤ◌, ◌*ℤ◌}
use lib.Signed.{◌≤ℤ◌, ◌<ℤ◌}
use Rattle.integers.specs.Difference.{up, down}
use Rattle.integers.proofs.DifferenceLaws.{neg-fact, add-fact, mul-fact, le-nat, nat_le, lt-nat, nat_lt, eq-nat, nat_eq}

-- with add-fact, sub-fact, neg-fact or mul-fact of a compound term beside it, `omega zarith` reads every ≤ℤ, <ℤ and ≡ in reach
pub ruleset zarith = (arith, le-nat, nat_le, lt-nat, nat_lt, eq-nat, nat_eq)

-- ---- z is u − d, for any u and d: a law of the ring is then an identity of ℕ

pub record Is (z : ℤ) (u d : ℕ) : Type 0 where
  pub balanced : up z + d ≡ u + down z

pub is : (z : ℤ) → Is z (up z) (down z)
is z = record { balanced = refl }

pub is-neg : {a : ℤ} {u d : ℕ} → Is a u d → Is (neg_ℤ a) d u
is-neg {a} h = omega (arith, neg-fact a)

pub is-add : {a b : ℤ} {u d u' d' : ℕ} → Is a u d → Is b u' d' → Is (a +ℤ b) (u + u') (d + d')
is-add {a} {b} h k = omega (arith, add-fact a b)

pub is_mul : {a b : ℤ} {u d u' d' : ℕ} → Is a u d → Is b u' d' → Is (a *ℤ b) (u * u' + d * d') (u * d' + d * u')
is_mul {a} {b} {u} {d} h k = omega (
  arith,
  mul-fact a b,
  ap (λ t. t * up b) h.balanced,
  ap (λ t. t * down b) h.balanced,
  ap (λ t. u * t) k.balanced,
  ap (λ t. d * t) k.balanced,
)

pub same : {a b : ℤ} {u d u' d' : ℕ} → Is a u d → Is b u' d' → u + d' ≡ u' + d → a ≡ b
same {a} {b} h k e = nat_eq a b (omega arith)

-- ---- the ring

pub *ℤ-assoc : (a b c : ℤ) → a *ℤ b *ℤ c ≡ a *ℤ (b *ℤ c)
*ℤ-assoc a b c = same (is_mul (is_mul (is a) (is b)) (is c)) (is_mul (is a) (is_mul (is b) (is c))) (omega arith)

pub *ℤ-distribˡ : (a b c : ℤ) → a *ℤ (b +ℤ c) ≡ a *ℤ b +ℤ a *ℤ c
*ℤ-distribˡ a b c = same (is_mul (is a) (is-add (is b) (is c))) (is-add (is_mul (is a) (is b)) (is_mul (is a) (is c))) (omega arith)

pub *ℤ-distribʳ : (a b c : ℤ) → (a +ℤ b) *ℤ c ≡ a *ℤ c +ℤ b *ℤ c
*ℤ-distribʳ a b c = same (is_mul (is-add (is a) (is b)) (is c)) (is-add (is_mul (is a) (is c)) (is_mul (is b) (is c))) (omega arith)

pub *ℤ-negˡ : (a b : ℤ) → neg_ℤ a *ℤ b ≡ neg_ℤ (a *ℤ b)
*ℤ-negˡ a b = same (is_mul (is-neg (is a)) (is b)) (is-neg (is_mul (is a) (is b))) (omega arith)

pub *ℤ-negʳ : (a b : ℤ) → a *ℤ neg_ℤ b ≡ neg_ℤ (a *ℤ b)
*ℤ-negʳ a b = same (is_mul (is a) (is-neg (is b))) (is-neg (is_mul (is a) (is b))) (omega arith)

pub *ℤ-identityˡ : (a : ℤ) → pos 1 *ℤ a ≡ a
*ℤ-identityˡ a = same (is_mul (is (pos 1)) (is a)) (is a) (omega arith)

pub +ℤ-left-comm : (a b c : ℤ) → a +ℤ (b +ℤ c) ≡ b +ℤ (a +ℤ c)
+ℤ-left-comm a b c = same (is-add (is a) (is-add (is b) (is c))) (is-add (is b) (is-add (is a) (is c))) (omega arith)

pub *ℤ-left-comm : (a b c : ℤ) → a *ℤ (b *ℤ c) ≡ b *ℤ (a *ℤ c)
*ℤ-left-comm a b c = same (is_mul (is a) (is_mul (is b) (is c))) (is_mul (is b) (is_mul (is a) (is c))) (omega arith)

pub +ℤ-cancelˡ : (a b c : ℤ) → a +ℤ b ≡ a +ℤ c → b ≡ c
+ℤ-cancelˡ a b c e = omega (zarith, add-fact a b, add-fact a c)

-- ---- the order

pub ≤ℤ-trans : {a b c : ℤ} → a ≤ℤ b → b ≤ℤ c → a ≤ℤ c
≤ℤ-trans h k = omega zarith

pub ≤ℤ-antisym : {a b : ℤ} → a ≤ℤ b → b ≤ℤ a → a ≡ b
≤ℤ-antisym h k = omega zarith

pub ≤ℤ-of-eq : {a b : ℤ} → a ≡ b → a ≤ℤ b
≤ℤ-of-eq e = omega zarith

pub ≤ℤ-<ℤ-trans : {a b c : ℤ} → a ≤ℤ b → b <ℤ c → a <ℤ c
≤ℤ-<ℤ-trans h k = omega zarith

pub <ℤ-trans : {a b c : ℤ} → a <ℤ b → b <ℤ c → a <ℤ c
<ℤ-trans h k = omega zarith

pub <ℤ-≤ℤ : {a b : ℤ} → a <ℤ b → a ≤ℤ b
<ℤ-≤ℤ h = omega zarith

pub +ℤ-mono : {a b c d : ℤ} → a ≤ℤ b → c ≤ℤ d → (a +ℤ c) ≤ℤ (b +ℤ d)
+ℤ-mono {a} {b} {c} {d} h k = omega (zarith, add-fact a c, add-fact b d)

pub negℤ-mono : {a b : ℤ} → a ≤ℤ b → neg_ℤ b ≤ℤ neg_ℤ a
negℤ-mono {a} {b} h = omega (zarith, neg-fact a, neg-fact b)

le-or-lt : (a b : ℕ) → (a ≤ b) ⊎ (b < a)
le-or-lt zero b = inl (omega arith)
le-or-lt (suc a) zero = inr (omega arith)
le-or-lt (suc a) (suc b) = elim (le-or-lt a b) [ inl p ↦ inl (omega arith) | inr q ↦ inr (omega arith) ]

pub ≤ℤ-or-<ℤ : (a b : ℤ) → (a ≤ℤ b) ⊎ (b <ℤ a)
≤ℤ-or-<ℤ a b = elim (le-or-lt (up a + down b) (up b + down a)) [ inl p ↦ inl (omega zarith) | inr q ↦ inr (omega zarith) ]

-- ---- products in the order: a product with a number that is not negative is linear once its `down` is 0

pub nonneg-down : (z : ℤ) → pos 0 ≤ℤ z → down z ≡ 0
nonneg-down (pos n) h = refl
nonneg-down (negsuc n) h = omega zarith

pub mulˡ : {q a b : ℤ} → pos 0 ≤ℤ q → a ≤ℤ b → (q *ℤ a) ≤ℤ (q *ℤ b)
mulˡ {q} {a} {b} z h = go (nonneg-down q z) (le-nat a b h)
  where
    go : down q ≡ 0 → up a + down b ≤ up b + down a → (q *ℤ a) ≤ℤ (q *ℤ b)
    go e k = omega (
      zarith,
      mul-fact q a,
      mul-fact q b,
      mul-le-mul_left (up q) k,
      ap (λ t. t * up a) e,
      ap (λ t. t * down a) e,
      ap (λ t. t * up b) e,
      ap (λ t. t * down b) e,
    )
