-- The rest of the ordered ring: comparisons, then products in the order, then factors that cancel, then divisibility.
-- Each law is one call of `lin` or `by`. The laws that these rest on are in `RingLaws`; quotients are in `DivisionLaws`.
use mathlib.Core.Path.{◌≡◌, refl}
use mathlib.Core.Logic.{◌↔◌, ◌⊎◌, inl, inr}
use mathlib.Core.List.{[], ◌∷◌}
use Prim.Native.Nat.{zero, suc}
use native.Mathlib.Omega.{arith}
use lib.IntN.{ℤ, pos, negsuc, ◌+ℤ◌, ◌-ℤ◌, ◌*ℤ◌}
use lib.Signed.{◌≤ℤ◌, ◌<ℤ◌}
use Rattle.integers.proofs.DifferenceLaws.{mul-fact, add-fact}
use Rattle.integers.proofs.RingLaws.{zarith, mulˡ, <ℤ-≤ℤ, ≤ℤ-or-<ℤ, ≤ℤ-antisym}
use Rattle.integers.proofs.Polynomial.{◌⊕◌, ◌⊖◌, ◌⊗◌, ⊝, #}
use Rattle.integers.proofs.Linear.{by, lin, terms, ◌⊑◌, ◌⊏◌, ◌≐◌, ◌⟶◌, ◌▹◌⟹◌, ◌▸◌⟹◌}

-- ---- comparisons

-- of whole numbers: < is ≤ of the next
pub lt-next : (a b : ℤ) → (a <ℤ b) ↔ ((a +ℤ pos 1) ≤ℤ b)
lt-next a b = (lin (a ∷ b ∷ []) (λ a b. a ⊏ b ⟶ a ⊕ # 1 ⊑ b) tt, lin (a ∷ b ∷ []) (λ a b. a ⊕ # 1 ⊑ b ⟶ a ⊏ b) tt)

pub le-sub : (a b : ℤ) → (a ≤ℤ b) ↔ (pos 0 ≤ℤ (b -ℤ a))
le-sub a b = (lin (a ∷ b ∷ []) (λ a b. a ⊑ b ⟶ # 0 ⊑ b ⊖ a) tt, lin (a ∷ b ∷ []) (λ a b. # 0 ⊑ b ⊖ a ⟶ a ⊑ b) tt)

pub trichotomy : (a b : ℤ) → (a <ℤ b) ⊎ ((a ≡ b) ⊎ (b <ℤ a))
trichotomy a b = go (≤ℤ-or-<ℤ a b) (≤ℤ-or-<ℤ b a)
  where
    go : (a ≤ℤ b) ⊎ (b <ℤ a) → (b ≤ℤ a) ⊎ (a <ℤ b) → (a <ℤ b) ⊎ ((a ≡ b) ⊎ (b <ℤ a))
    go (inr h) g = inr (inr h)
    go (inl h) (inl g) = inr (inl (≤ℤ-antisym h g))
    go (inl h) (inr g) = inl g

-- ---- products in the order

pub mulʳ : {q a b : ℤ} → pos 0 ≤ℤ q → a ≤ℤ b → (a *ℤ q) ≤ℤ (b *ℤ q)
mulʳ {q} {a} {b} z h = lin (q ∷ a ∷ b ∷ []) (λ q a b. q ▹ a ⊑ b ⟹ a ⊗ q ⊑ b ⊗ q) tt z h

pub mul-flip : {q a b : ℤ} → q ≤ℤ pos 0 → a ≤ℤ b → (q *ℤ b) ≤ℤ (q *ℤ a)
mul-flip {q} {a} {b} z h = lin (q ∷ a ∷ b ∷ []) (λ q a b. ⊝ q ▹ a ⊑ b ⟹ q ⊗ b ⊑ q ⊗ a) tt (lin (q ∷ []) (λ q. q ⊑ # 0 ⟶ # 0 ⊑ ⊝ q) tt z) h

pub mul-< : {q a b : ℤ} → pos 0 <ℤ q → a <ℤ b → (q *ℤ a) <ℤ (q *ℤ b)
mul-< {q} {a} {b} z h = lin (q ∷ a ∷ b ∷ []) (λ q a b. q ▹ a ⊕ # 1 ⊑ b ⟹ # 0 ⊏ q ⟶ q ⊗ a ⊏ q ⊗ b) tt (<ℤ-≤ℤ z) ((lt-next a b).0 h) z

pub mul-nonneg : {a b : ℤ} → pos 0 ≤ℤ a → pos 0 ≤ℤ b → pos 0 ≤ℤ (a *ℤ b)
mul-nonneg {a} {b} h g = lin (a ∷ b ∷ []) (λ a b. a ▹ # 0 ⊑ b ⟹ # 0 ⊑ a ⊗ b) tt h g

pub mul-pos : {a b : ℤ} → pos 0 <ℤ a → pos 0 <ℤ b → pos 0 <ℤ (a *ℤ b)
mul-pos {a} {b} h g = lin (a ∷ b ∷ []) (λ a b. a ▹ # 1 ⊑ b ⟹ # 0 ⊏ a ⟶ # 0 ⊏ a ⊗ b) tt (<ℤ-≤ℤ h) ((lt-next (pos 0) b).0 g) h

pub mul-≤-mul : {a b c d : ℤ} → pos 0 ≤ℤ a → a ≤ℤ b → pos 0 ≤ℤ d → c ≤ℤ d → (a *ℤ c) ≤ℤ (b *ℤ d)
mul-≤-mul {a} {b} {c} {d} z h w g = lin (a ∷ b ∷ c ∷ d ∷ []) (λ a b c d. a ▹ c ⊑ d ⟹ d ▹ a ⊑ b ⟹ a ⊗ c ⊑ b ⊗ d) tt z g w h

-- ---- factors that cancel

pub mul-cancel-< : (p a b : ℤ) → pos 0 ≤ℤ p → (p *ℤ a) <ℤ (p *ℤ b) → a <ℤ b
mul-cancel-< p a b z h = go (≤ℤ-or-<ℤ b a)
  where
    go : (b ≤ℤ a) ⊎ (a <ℤ b) → a <ℤ b
    go (inl g) = omega (zarith, mulˡ z g)
    go (inr g) = g

pub mul-cancel-≤ : (p a b : ℤ) → pos 0 <ℤ p → (p *ℤ a) ≤ℤ (p *ℤ b) → a ≤ℤ b
mul-cancel-≤ p a b z h = go (≤ℤ-or-<ℤ a b)
  where
    next : (b +ℤ pos 1) ≤ℤ a → a ≤ℤ b
    next g = omega (zarith, mulˡ (<ℤ-≤ℤ z) g, terms (p ∷ a ∷ b ∷ []) (λ p a b. p ⊗ (b ⊕ # 1) ∷ p ⊗ a ∷ p ⊗ b ∷ []))

    go : (a ≤ℤ b) ⊎ (b <ℤ a) → a ≤ℤ b
    go (inl g) = g
    go (inr g) = next (omega (zarith, add-fact b (pos 1)))

pub zero-product : (a b : ℤ) → a *ℤ b ≡ pos 0 → (a ≡ pos 0) ⊎ (b ≡ pos 0)
zero-product (pos zero) b e = inl refl
zero-product (pos (suc a)) (pos zero) e = inr refl
zero-product (pos (suc a)) (pos (suc b)) e = absurd (omega (zarith, mul-fact (pos (suc a)) (pos (suc b))))
zero-product (pos (suc a)) (negsuc b) e = absurd (omega (zarith, mul-fact (pos (suc a)) (negsuc b)))
zero-product (negsuc a) (pos zero) e = inr refl
zero-product (negsuc a) (pos (suc b)) e = absurd (omega (zarith, mul-fact (negsuc a) (pos (suc b))))
zero-product (negsuc a) (negsuc b) e = absurd (omega (zarith, mul-fact (negsuc a) (negsuc b)))

pub *ℤ-cancelˡ : (a b c : ℤ) → (a ≡ pos 0 → ⊥) → a *ℤ b ≡ a *ℤ c → b ≡ c
*ℤ-cancelˡ a b c n e = go (zero-product a (b -ℤ c) (by (a ∷ b ∷ c ∷ []) (λ a b c. a ⊗ b ≐ a ⊗ c ⟶ a ⊗ (b ⊖ c) ≐ # 0) (omega arith) e))
  where
    go : (a ≡ pos 0) ⊎ (b -ℤ c ≡ pos 0) → b ≡ c
    go (inl z) = absurd (n z)
    go (inr z) = by (b ∷ c ∷ []) (λ b c. b ⊖ c ≐ # 0 ⟶ b ≐ c) (omega arith) z

-- ---- divisibility

infix 50 ◌∣ℤ◌
pub record ◌∣ℤ◌ (g a : ℤ) : Type 0 where
  pub factor : ℤ
  pub equal : a ≡ g *ℤ factor

pub ∣-zero : (g : ℤ) → g ∣ℤ pos 0
∣-zero g = record { factor = pos 0; equal = lin (g ∷ []) (λ g. # 0 ≐ g ⊗ # 0) tt }

pub ∣-add : {g a b : ℤ} → g ∣ℤ a → g ∣ℤ b → g ∣ℤ (a +ℤ b)
∣-add {g} {a} {b} p q = record {
  factor = p.factor +ℤ q.factor;
  equal = by (g ∷ a ∷ b ∷ p.factor ∷ q.factor ∷ []) (λ g a b s t. a ≐ g ⊗ s ⟶ b ≐ g ⊗ t ⟶ a ⊕ b ≐ g ⊗ (s ⊕ t)) (omega arith) p.equal q.equal;
}

pub ∣-sub : {g a b : ℤ} → g ∣ℤ a → g ∣ℤ b → g ∣ℤ (a -ℤ b)
∣-sub {g} {a} {b} p q = record {
  factor = p.factor -ℤ q.factor;
  equal = by (g ∷ a ∷ b ∷ p.factor ∷ q.factor ∷ []) (λ g a b s t. a ≐ g ⊗ s ⟶ b ≐ g ⊗ t ⟶ a ⊖ b ≐ g ⊗ (s ⊖ t)) (omega arith) p.equal q.equal;
}

pub ∣-mul : {g a : ℤ} (x : ℤ) → g ∣ℤ a → g ∣ℤ (a *ℤ x)
∣-mul {g} {a} x p = record {
  factor = p.factor *ℤ x;
  equal = by (g ∷ a ∷ x ∷ p.factor ∷ []) (λ g a x s. x ▸ a ≐ g ⊗ s ⟹ a ⊗ x ≐ g ⊗ (s ⊗ x))
      (omega arith) p.equal;
}
