-- Signs: what a sign means of two integers, both ways; as a number, and that as a difference of two tests; then of equal, turned and negated ones.
-- Then the test of equality.
use mathlib.Core.Path.{◌≡◌, refl, sym, ap, subst}
use mathlib.Core.Logic.{◌↔◌}
use mathlib.Core.Bool.{Bool, true, false, cond}
use Prim.Native.Nat.{zero, suc}
use native.Mathlib.Omega.{arith}
use lib.Dec.{T, eqb→eq, eqb_refl}
use lib.IntN.{ℤ, pos, negsuc, neg_ℤ, ◌-ℤ◌}
use Rattle.lists.specs.Tests.{Decides}
use lib.Signed.{◌≤ℤ◌, ◌<ℤ◌, lt_z}
use mir.Syntax.{w64}
use mir.Val.{SFits, to_z, of_z}
use Rattle.integers.specs.Sign.{Sign, less, equal, greater, sign, turned, sign_value, yes_no, eq_z}
use Rattle.integers.proofs.RingLaws.{zarith, ≤ℤ-antisym}
use Rattle.integers.proofs.RangeLaws.{sfits, held, lt_test, lt-test-no, test-lt, test-lt-no}
use Rattle.integers.proofs.DifferenceLaws.{neg-fact}

-- s is how x stands to y: case on the sign, and the order is at hand
abbrev pub Means : Sign → ℤ → ℤ → Type 0
Means less x y = x <ℤ y
Means equal x y = x ≡ y
Means greater x y = y <ℤ x

pub sign-means : (x y : ℤ) → Means (sign x y) x y
unfolding sign
sign-means x y = go (lt_z x y) refl (lt_z y x) refl
  where
    go : (s : Bool) → lt_z x y ≡ s → (t : Bool) → lt_z y x ≡ t → Means (cond s less (cond t greater equal)) x y
    go true e t f = test-lt e
    go false e true f = test-lt f
    go false e false f = ≤ℤ-antisym (test-lt-no f) (test-lt-no e)

pub means-sign : (s : Sign) (x y : ℤ) → Means s x y → sign x y ≡ s
unfolding sign
means-sign less x y h = ap (λ (t : Bool). cond t less (cond (lt_z y x) greater equal)) (lt_test h)
means-sign equal x y h = let e : x ≤ℤ y = omega zarith in let f : y ≤ℤ x = omega zarith in rw
    (lt-test-no {a = x} {b = y} f, lt-test-no {a = y} {b = x} e)
means-sign greater x y h = let f : y ≤ℤ x = omega zarith in rw (lt-test-no {a = x} {b = y} f, lt_test h)

-- ---- as a number

abbrev value-sign : ℤ → Sign
value-sign (negsuc n) = less
value-sign (pos zero) = equal
value-sign (pos (suc n)) = greater

value-back : (s : Sign) → value-sign (sign_value s) ≡ s
value-back less = refl
value-back equal = refl
value-back greater = refl

pub value-fits : (s : Sign) → SFits w64 (sign_value s)
value-fits less = sfits (omega arith)
value-fits equal = sfits (omega arith)
value-fits greater = sfits (omega arith)

-- read back from its bits
pub value_read : {r : ℤ} (s : Sign) → r ≡ sign_value s → to_z w64 (of_z w64 r) ≡ sign_value s
value_read s e = held (value-fits s) (ap (of_z w64) e)

pub value-means : (s : Sign) (x y : ℤ) → (sign_value (sign x y) ≡ sign_value s) ↔ Means s x y
value-means s x y = (λ e. subst (λ t. Means t x y) (same e) (sign-means x y), λ h. ap sign_value (means-sign s x y h))
  where
    same : sign_value (sign x y) ≡ sign_value s → sign x y ≡ s
    same e = cc (ap value-sign e, value-back (sign x y), value-back s)

pub sign-exact : (x y : ℤ)
    → ((sign_value (sign x y) ≡ negsuc 0) ↔ (x <ℤ y)) × ((sign_value (sign x y) ≡ pos 0) ↔ (x ≡ y)) × ((sign_value (sign x y) ≡ pos 1) ↔ (y <ℤ x))
sign-exact x y = (value-means less x y, value-means equal x y, value-means greater x y)

pub sign-difference : (x y : ℤ) → sign_value (sign x y) ≡ yes_no (lt_z y x) -ℤ yes_no (lt_z x y)
unfolding sign
sign-difference x y = go (lt_z x y) refl (lt_z y x) refl
  where
    go : (s : Bool) → lt_z x y ≡ s → (t : Bool) → lt_z y x ≡ t → sign_value (cond s less (cond t greater equal)) ≡ yes_no t -ℤ yes_no s
    go true e true f = absurd (let p = test-lt {a = x} {b = y} e in let q = test-lt {a = y} {b = x} f in omega zarith)
    go true e false f = refl
    go false e true f = refl
    go false e false f = refl

-- ---- of equal, turned and negated numbers

pub means-unique : (s t : Sign) (x y : ℤ) → Means s x y → Means t x y → s ≡ t
means-unique s t x y h k = cc (means-sign s x y h, means-sign t x y k)

pub sign-self : (x : ℤ) → sign x x ≡ equal
sign-self x = means-sign equal x x refl

pub turned-turned : (s : Sign) → turned (turned s) ≡ s
turned-turned less = refl
turned-turned equal = refl
turned-turned greater = refl

pub sign-turned : (x y : ℤ) → sign y x ≡ turned (sign x y)
sign-turned x y = means-sign (turned (sign x y)) y x (go (sign x y) (sign-means x y))
  where
    go : (s : Sign) → Means s x y → Means (turned s) y x
    go less h = h
    go equal h = sym h
    go greater h = h

pub sign-negated : (x y : ℤ) → sign (neg_ℤ x) (neg_ℤ y) ≡ turned (sign x y)
sign-negated x y = means-sign (turned (sign x y)) (neg_ℤ x) (neg_ℤ y) (go (sign x y) (sign-means x y))
  where
    go : (s : Sign) → Means s x y → Means (turned s) (neg_ℤ x) (neg_ℤ y)
    go less h = omega (zarith, neg-fact x, neg-fact y)
    go equal h = ap neg_ℤ h
    go greater h = omega (zarith, neg-fact x, neg-fact y)

-- ---- the test of equality

pub eq_z-decides : Decides eq_z
eq_z-decides = record { equal = equal-when; itself = passes }
  where
    equal-when : (x y : ℤ) → T (eq_z x y) → x ≡ y
    equal-when (pos a) (pos b) t = ap pos (eqb→eq a b t)
    equal-when (pos a) (negsuc b) t = absurd t
    equal-when (negsuc a) (pos b) t = absurd t
    equal-when (negsuc a) (negsuc b) t = ap negsuc (eqb→eq a b t)

    passes : (x : ℤ) → T (eq_z x x)
    passes (pos a) = eqb_refl a
    passes (negsuc a) = eqb_refl a
