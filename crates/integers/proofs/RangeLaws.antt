-- The machine's signed numbers: ranges (`SFits`) and sizes, then the tests that a branch leaves, then reading back what was written
-- (`to_z`, `of_z`) and casts. `zneeds` is `omega` with all of it. Quotient and remainder are in `DivisionLaws`.
use mathlib.Core.Path.{◌≡◌, refl, sym, ◌∙◌, ap, subst}
use mathlib.Core.Logic.{◌⊎◌, inl, inr}
use mathlib.Core.Bool.{Bool, true, false, not}
use Prim.Native.Nat.{ℕ, suc, ◌+◌, ◌*◌, ◌^◌, ◌≤◌, ◌<◌}
use native.Mathlib.Omega.{arith}
use native.Mathlib.Nat.{mul-le-mul}
use lib.Dec.{T}
use lib.IntN.{ℤ, pos, negsuc, neg_ℤ, ◌+ℤ◌, ◌-ℤ◌, ◌*ℤ◌, nat_abs}
use lib.Signed.{◌≤ℤ◌, ◌<ℤ◌, lt_z, le_z, le_z_yes, lt_z_yes, lt_z_no, clash_ℤ, non_neg, quot_z, rem_z}
use mir.Syntax.{Width, w16, w64}
use mir.Val.{Fits, SFits, hbits, of_z, to_z}
use mir.Facts as F
use Rattle.lists.proofs.TestLaws.{true-T, T_true, not-T-false}
use Rattle.integers.specs.Difference.{up, down, size}
use Rattle.integers.specs.Division.{floor_div, ceil_div}
use Rattle.integers.proofs.DivisionLaws.{quot-parts, rem-range, floor-parts, ceil-parts}
use Rattle.integers.proofs.DifferenceLaws.{neg-fact, neg-parts, le-nat, lt-nat}
use Rattle.integers.proofs.RingLaws.{zarith, ≤ℤ-or-<ℤ, Is, is, is-add, is-neg}

-- ---- sizes

pub size_is : {z : ℤ} {u d : ℕ} → Is z u d → size z ≤ u + d
size_is {z = pos n} h = omega arith
size_is {z = negsuc n} h = omega arith

pub size-add : (a b : ℤ) → size (a +ℤ b) ≤ size a + size b
size-add a b = omega (arith, size_is (is-add (is a) (is b)))

pub size-sub : (a b : ℤ) → size (a -ℤ b) ≤ size a + size b
size-sub a b = omega (arith, size_is (is-add (is a) (is-neg (is b))))

pub size-neg : (a : ℤ) → size (neg_ℤ a) ≡ size a
size-neg a = omega (arith, neg-parts a)

pub size-product : (a b : ℤ) → size (a *ℤ b) ≡ size a * size b
size-product (pos a) (pos b) = omega arith
size-product (pos a) (negsuc b) = omega (arith, neg-parts (pos (a * suc b)))
size-product (negsuc a) (pos b) = omega (arith, neg-parts (pos (suc a * b)))
size-product (negsuc a) (negsuc b) = omega arith

pub size-mul : (a b : ℤ) {m n : ℕ} → size a ≤ m → size b ≤ n → size (a *ℤ b) ≤ m * n
size-mul a b {m} {n} h g = omega (arith, size-product a b, mul-le-mul {n₁ = size a} {m₁ = size b} {n₂ = m} {m₂ = n} h g)

pub size_of : (z : ℤ) (n : ℕ) → z ≤ℤ pos n → neg_ℤ (pos n) ≤ℤ z → size z ≤ n
size_of (pos a) n h g = omega zarith
size_of (negsuc a) n h g = omega (zarith, neg-parts (pos n))

pub size-le : (z : ℤ) (n : ℕ) → size z ≤ n → (neg_ℤ (pos n) ≤ℤ z) × (z ≤ℤ pos n)
size-le z n h = (omega (zarith, neg-fact (pos n)), omega zarith)

pub size-nat_abs : (z : ℤ) → size z ≡ nat_abs z
size-nat_abs (pos n) = omega arith
size-nat_abs (negsuc n) = omega arith

-- ---- ranges. A hypothesis is read by `sfits_up` and `sfits-down`; a goal is `sfits (omega ..)`

pub sfits_up : (w : Width) (z : ℤ) → SFits w z → up z < 2 ^ hbits w
sfits_up w (pos n) h = h.sfits
sfits_up w (negsuc n) h = omega (arith, h.sfits)

pub sfits-down : (w : Width) (z : ℤ) → SFits w z → down z ≤ 2 ^ hbits w
sfits-down w (pos n) h = omega arith
sfits-down w (negsuc n) h = h.sfits

pub sfits : {w : Width} {z : ℤ} → (up z < down z + 2 ^ hbits w) × (down z ≤ up z + 2 ^ hbits w) → SFits w z
sfits {w} {z = pos n} h = record { sfits = omega (arith, h.0) }
sfits {w} {z = negsuc n} h = record { sfits = omega (arith, h.1) }

-- as a rule of `omega`: linear, and too weak by one at the top
pub sfits-size : (w : Width) (z : ℤ) → SFits w z → size z ≤ 2 ^ hbits w
sfits-size w (pos n) h = omega (arith, h.sfits)
sfits-size w (negsuc n) h = omega (arith, h.sfits)

pub size_fits : {z : ℤ} {n : ℕ} → size z ≤ n → n < 2 ^ 63 → SFits w64 z
size_fits {z} {n} h g = sfits (omega arith)

-- a word of 16 bits
pub word_fits : {z : ℤ} → size z ≤ 32767 → SFits w16 z
word_fits {z} h = sfits (omega arith)

pub word_wide : {z : ℤ} → SFits w16 z → SFits w64 z
word_wide {z} h = let u = sfits_up w16 z h in let d = sfits-down w16 z h in sfits (omega arith)

-- as two orders
pub fits-range : (z : ℤ) → SFits w64 z → (negsuc 9223372036854775807 ≤ℤ z) × (z ≤ℤ pos 9223372036854775807)
fits-range z h = let u = sfits_up w64 z h in let d = sfits-down w64 z h in (omega zarith, omega zarith)

pub range-fits : (z : ℤ) → (negsuc 9223372036854775807 ≤ℤ z) × (z ≤ℤ pos 9223372036854775807) → SFits w64 z
range-fits z p = sfits (omega zarith)

-- what division by a positive number makes of a number that fits
module _ {a b : ℤ} (f : SFits w64 a) (g : SFits w64 b) (h : pos 0 <ℤ b) where
  pub quot_fits : SFits w64 (quot_z a b)
  quot_fits = let u = sfits_up w64 a f in let d = sfits-down w64 a f in sfits (omega (arith, quot-parts a b h))

  pub rem-fits : SFits w64 (rem_z a b)
  rem-fits = let u = sfits_up w64 b g in let r = rem-range a b h in sfits (omega (zarith, neg-fact b))

  pub floor-fits : SFits w64 (floor_div a b)
  floor-fits = let u = sfits_up w64 a f in let d = sfits-down w64 a f in sfits (omega (arith, floor-parts a b))

  pub ceil-fits : SFits w64 (ceil_div a b)
  ceil-fits = let u = sfits_up w64 a f in let d = sfits-down w64 a f in sfits (omega (arith, ceil-parts a b))

-- ---- tests, as a branch leaves them and as a definition asks them

pub test-lt : {a b : ℤ} → lt_z a b ≡ true → a <ℤ b
test-lt {a} {b} e = lt_z_yes (true-T (lt_z a b) e)

pub test-lt-no : {a b : ℤ} → lt_z a b ≡ false → b ≤ℤ a
test-lt-no {a} {b} e = lt_z_no (subst (λ (t : Bool). T (not t)) (sym e) tt)

pub test-le : {a b : ℤ} → le_z a b ≡ true → a ≤ℤ b
test-le {a} {b} e = le_z_yes (true-T (le_z a b) e)

pub test-le-no : {a b : ℤ} → le_z a b ≡ false → b <ℤ a
test-le-no {a} {b} e = go (≤ℤ-or-<ℤ a b)
  where
    go : (a ≤ℤ b) ⊎ (b <ℤ a) → b <ℤ a
    go (inl h) = absurd (subst T e h.le)
    go (inr h) = h

pub lt_test : {a b : ℤ} → a <ℤ b → lt_z a b ≡ true
lt_test {a} {b} h = T_true (lt_z a b) h.lt

pub lt-test-no : {a b : ℤ} → b ≤ℤ a → lt_z a b ≡ false
lt-test-no {a} {b} h = not-T-false (lt_z a b) (λ t. clash_ℤ (lt_z_yes {a = a} {b = b} t) h)

pub le_test : {a b : ℤ} → a ≤ℤ b → le_z a b ≡ true
le_test {a} {b} h = T_true (le_z a b) h.le

pub le-test-no : {a b : ℤ} → b <ℤ a → le_z a b ≡ false
le-test-no {a} {b} h = not-T-false (le_z a b) (λ t. clash_ℤ h (le_z_yes {a = a} {b = b} t))

-- the same in ℕ, as rules of `omega`
pub lt_z-true : (a b : ℤ) → lt_z a b ≡ true → up a + down b < up b + down a
lt_z-true a b e = lt-nat a b (test-lt e)

pub lt_z-false : (a b : ℤ) → lt_z a b ≡ false → up b + down a ≤ up a + down b
lt_z-false a b e = le-nat b a (test-lt-no e)

pub le_z-true : (a b : ℤ) → le_z a b ≡ true → up a + down b ≤ up b + down a
le_z-true a b e = le-nat a b (test-le e)

pub le_z-false : (a b : ℤ) → le_z a b ≡ false → up b + down a < up a + down b
le_z-false a b e = lt-nat b a (test-le-no e)

pub ruleset zneeds = (zarith, sfits-size, lt_z-true, lt_z-false, le_z-true, le_z-false)

-- ---- reading back what was written

pub back : {z : ℤ} → SFits w64 z → to_z w64 (of_z w64 z) ≡ z
back h = F.to_z-of_z h

-- a loop's variable holds bits: what the invariant says they are is what the machine reads
pub held : {n : ℕ} {z : ℤ} → SFits w64 z → n ≡ of_z w64 z → to_z w64 n ≡ z
held f e = ap (to_z w64) e ∙ back f

pub bits-inj : {w : Width} {a b : ℤ} → SFits w a → SFits w b → of_z w a ≡ of_z w b → a ≡ b
bits-inj {w} f g e = sym (F.to_z-of_z f) ∙ ap (to_z w) e ∙ F.to_z-of_z g

pub bits-ne : (w : Width) {a b : ℤ} → (of_z w a ≡ of_z w b → ⊥) → a ≡ b → ⊥
bits-ne w f e = f (ap (of_z w) e)

pub bits_pos : (w : Width) {z : ℤ} → pos 0 <ℤ z → 0 < of_z w z
bits_pos w {z = pos n} h = omega zarith
bits_pos w {z = negsuc n} h = absurd (omega zarith)

-- ---- casts

-- an unsigned number below 2 ^ 63 read as signed
pub from-nat : {n : ℕ} → n < 2 ^ 63 → to_z w64 n ≡ pos n
from-nat h = F.to_z_pos w64 h

pub to-nat : (z : ℤ) → pos 0 ≤ℤ z → pos (nat_abs z) ≡ z
to-nat (pos n) h = refl
to-nat (negsuc n) h = absurd (omega zarith)

pub abs-below : (x : ℤ) (n : ℕ) → pos 0 ≤ℤ x → x <ℤ pos n → nat_abs x < n
abs-below x n h k = omega (zarith, to-nat x h)

pub abs-injective : (x y : ℤ) → pos 0 ≤ℤ x → pos 0 ≤ℤ y → nat_abs x ≡ nat_abs y → x ≡ y
abs-injective x y h k e = sym (to-nat x h) ∙ ap pos e ∙ to-nat y k

pub cast_ok : (z : ℤ) → pos 0 ≤ℤ z → SFits w64 z → T (non_neg z) × Fits w64 (nat_abs z)
cast_ok (pos n) h f = (tt, record { fits = omega (arith, f.sfits) })
cast_ok (negsuc n) h f = absurd (omega zarith)

-- `x as usize as i64`
pub through-nat : (z : ℤ) → pos 0 ≤ℤ z → SFits w64 z → to_z w64 (nat_abs z) ≡ z
through-nat (pos n) h f = from-nat f.sfits
through-nat (negsuc n) h f = absurd (omega zarith)
