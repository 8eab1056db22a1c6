-- ℤ read in ℕ: what each operation is in `up` and `down` (for `omega`'s list), then the orders and the equation, both ways (rules of
-- `omega`: the first of each pair reads a hypothesis, the second turns a goal), then their negations.
-- `omega` with the rules is `zarith` of `RingLaws`.
use mathlib.Core.Path.{◌≡◌, refl, sym, ap, ap₂}
use mathlib.Core.Logic.{◌≢◌}
use Prim.Native.Nat.{ℕ, zero, suc, ◌+◌, ◌*◌, ◌-◌, ◌≤◌, ◌<◌}
use native.Mathlib.Omega.{arith}
use lib.Dec.{T, leb→le, le→leb, ltb, ltb→lt, lt→ltb}
use borrow.Author.Tests.{ltb-true, ltb-false}
use lib.IntN.{ℤ, pos, negsuc, neg_ℤ, ◌+ℤ◌, ◌-ℤ◌, ◌*ℤ◌, sub_ℕ}
use lib.Signed.{◌≤ℤ◌, ◌<ℤ◌, le_z, lt_z}
use Rattle.lists.proofs.TestLaws.{cond_cases}
use Rattle.integers.specs.Difference.{up, down}

-- z is u − d
abbrev Balanced : ℤ → ℕ → ℕ → Type 0
Balanced z u d = up z + d ≡ u + down z

-- ---- operations

difference : (a b : ℕ) → Balanced (sub_ℕ a b) a b
difference a b = cond_cases (λ z. Balanced z a b) (ltb a b) (negsuc (b - suc a)) (pos (a - b)) (λ e. below (ltb-true a b e))
    (λ e. above (ltb-false a b e))
  where
    below : a < b → 0 + b ≡ a + suc (b - suc a)
    below h = omega arith

    above : b ≤ a → (a - b) + b ≡ a + 0
    above h = omega arith

negation : (n : ℕ) → Balanced (neg_ℤ (pos n)) 0 n
negation zero = refl
negation (suc n) = omega arith

pub neg-fact : (z : ℤ) → up (neg_ℤ z) + up z ≡ down z + down (neg_ℤ z)
neg-fact (pos zero) = refl
neg-fact (pos (suc n)) = omega arith
neg-fact (negsuc n) = omega arith

pub add-fact : (a b : ℤ) → up (a +ℤ b) + (down a + down b) ≡ up a + up b + down (a +ℤ b)
add-fact (pos a) (pos b) = omega arith
add-fact (pos a) (negsuc b) = omega (arith, difference a (suc b))
add-fact (negsuc a) (pos b) = omega (arith, difference b (suc a))
add-fact (negsuc a) (negsuc b) = omega arith

pub sub-fact : (a b : ℤ) → up (a -ℤ b) + (down a + up b) ≡ up a + down b + down (a -ℤ b)
sub-fact a b = omega (arith, add-fact a (neg_ℤ b), neg-fact b)

-- linear once one factor is a numeral; else the products are atoms
pub mul-fact : (a b : ℤ) → up (a *ℤ b) + (up a * down b + down a * up b) ≡ up a * up b + down a * down b + down (a *ℤ b)
mul-fact (pos a) (pos b) = omega arith
mul-fact (pos a) (negsuc b) = omega (arith, negation (a * suc b))
mul-fact (negsuc a) (pos b) = omega (arith, negation (suc a * b))
mul-fact (negsuc a) (negsuc b) = omega arith

-- exact, where `neg-fact` is one equation
pub neg-parts : (z : ℤ) → (up (neg_ℤ z) ≡ down z) × (down (neg_ℤ z) ≡ up z)
neg-parts (pos zero) = (refl, refl)
neg-parts (pos (suc n)) = (refl, refl)
neg-parts (negsuc n) = (refl, refl)

-- ---- orders and the equation

pub le-nat : (a b : ℤ) → a ≤ℤ b → up a + down b ≤ up b + down a
le-nat a b h = go a b h.le
  where
    go : (a b : ℤ) → T (le_z a b) → up a + down b ≤ up b + down a
    go (pos a) (pos b) t = omega (arith, leb→le a b t)
    go (pos a) (negsuc b) t = absurd t
    go (negsuc a) (pos b) t = omega arith
    go (negsuc a) (negsuc b) t = omega (arith, leb→le b a t)

pub nat_le : (a b : ℤ) → up a + down b ≤ up b + down a → a ≤ℤ b
nat_le a b h = record { le = go a b h }
  where
    go : (a b : ℤ) → up a + down b ≤ up b + down a → T (le_z a b)
    go (pos a) (pos b) h = le→leb a b (omega arith)
    go (pos a) (negsuc b) h = omega arith
    go (negsuc a) (pos b) h = tt
    go (negsuc a) (negsuc b) h = le→leb b a (omega arith)

pub lt-nat : (a b : ℤ) → a <ℤ b → up a + down b < up b + down a
lt-nat a b h = go a b h.lt
  where
    go : (a b : ℤ) → T (lt_z a b) → up a + down b < up b + down a
    go (pos a) (pos b) t = omega (arith, ltb→lt a b t)
    go (pos a) (negsuc b) t = absurd t
    go (negsuc a) (pos b) t = omega arith
    go (negsuc a) (negsuc b) t = omega (arith, ltb→lt b a t)

pub nat_lt : (a b : ℤ) → up a + down b < up b + down a → a <ℤ b
nat_lt a b h = record { lt = go a b h }
  where
    go : (a b : ℤ) → up a + down b < up b + down a → T (lt_z a b)
    go (pos a) (pos b) h = lt→ltb a b (omega arith)
    go (pos a) (negsuc b) h = omega arith
    go (negsuc a) (pos b) h = tt
    go (negsuc a) (negsuc b) h = lt→ltb b a (omega arith)

pub eq-nat : (a b : ℤ) → a ≡ b → up a + down b ≡ up b + down a
eq-nat a b e = ap₂ (λ x y. up x + down y) e (sym e)

pub nat_eq : (a b : ℤ) → up a + down b ≡ up b + down a → a ≡ b
nat_eq (pos a) (pos b) h = ap pos (omega arith)
nat_eq (pos a) (negsuc b) h = absurd (omega arith)
nat_eq (negsuc a) (pos b) h = absurd (omega arith)
nat_eq (negsuc a) (negsuc b) h = ap negsuc (omega arith)

-- ---- negations: no rules for `omega` (their results are functions), so list them with their arguments

pub ne-nat : (a b : ℤ) → (a ≡ b → ⊥) → up a + down b ≢ up b + down a
ne-nat a b f e = f (nat_eq a b e)

pub nle-nat : (a b : ℤ) → (a ≤ℤ b → ⊥) → ¬ (up a + down b ≤ up b + down a)
nle-nat a b f e = f (nat_le a b e)

pub nlt-nat : (a b : ℤ) → (a <ℤ b → ⊥) → ¬ (up a + down b < up b + down a)
nlt-nat a b f e = f (nat_lt a b e)
