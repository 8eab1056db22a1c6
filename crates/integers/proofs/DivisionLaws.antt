-- Division by a positive number: what lies between two multiples, then the two characterisations, then uniqueness, then quotient and rest, then
-- sizes, then the machine's quotient and remainder (rounded towards 0) and how floor and ceiling come of them.
use mathlib.Core.Path.{◌≡◌, sym, ap, ◌∙◌}
use mathlib.Core.Logic.{◌⊎◌, inl, inr, ⊎_elim, ◌↔◌}
use mathlib.Core.List.{[], ◌∷◌}
use Prim.Native.Nat.{suc, ◌*◌, ◌/◌, ◌%◌, ◌≤◌, ◌<◌}
use native.Mathlib.Omega.{arith}
use native.Mathlib.Nat.{mul-div-le, lt-mul-div-succ, div-add-mod, mod-lt, div-le_self}
use lib.IntN.{ℤ, pos, negsuc, neg_ℤ, ◌+ℤ◌, ◌-ℤ◌, ◌*ℤ◌}
use lib.Signed.{◌≤ℤ◌, ◌<ℤ◌, quot_z, rem_z}
use Rattle.integers.specs.Difference.{up, down, size}
use Rattle.integers.specs.Division.{floor_div, ceil_div}
use Rattle.integers.proofs.DifferenceLaws.{mul-fact, neg-fact, add-fact, neg-parts, nat_le, nat_lt, nat_eq}
use Rattle.integers.proofs.RingLaws.{zarith, mulˡ, ≤ℤ-antisym, <ℤ-≤ℤ}
use Rattle.integers.proofs.Polynomial.{◌⊕◌, ◌⊖◌, ◌⊗◌, ⊝, #}
use Rattle.integers.proofs.Linear.{lin, by, terms, ◌⊑◌, ◌⊏◌, ◌≐◌, ◌⟶◌, ◌▸◌⟹◌}
use Rattle.integers.proofs.OrderLaws.{mul-cancel-<, trichotomy}

-- ---- p ⌊e/p⌋ ≤ e < p ⌊e/p⌋ + p

pub floor-low : (e p : ℤ) → pos 0 <ℤ p → (p *ℤ floor_div e p) ≤ℤ e
unfolding floor_div
floor-low e (negsuc p) h = absurd (omega zarith)
floor-low (pos a) (pos p) h = nat_le (pos p *ℤ pos (a / p)) (pos a) (omega (arith, mul-div-le a p))
floor-low (negsuc a) (pos p) h = let k : 0 < p = omega zarith in omega (zarith, mul-fact (pos p) (negsuc (a / p)), lt-mul-div-succ a k)

pub floor-high : (e p : ℤ) → pos 0 <ℤ p → e <ℤ (p *ℤ floor_div e p +ℤ p)
unfolding floor_div
floor-high e (negsuc p) h = absurd (omega zarith)
floor-high (pos a) (pos p) h = let k : 0 < p = omega zarith in nat_lt (pos a) (pos p *ℤ pos (a / p) +ℤ pos p) (omega (arith, lt-mul-div-succ a k))
floor-high (negsuc a) (pos p) h = omega (zarith, mul-fact (pos p) (negsuc (a / p)), add-fact (pos p *ℤ negsuc (a / p)) (pos p), mul-div-le a p)

-- ---- the two characterisations

pub floor-iff : (e p x : ℤ) → pos 0 <ℤ p → ((p *ℤ x) ≤ℤ e) ↔ (x ≤ℤ floor_div e p)
floor-iff e p x h = (to, from)
  where
    to : (p *ℤ x) ≤ℤ e → x ≤ℤ floor_div e p
    to g = omega (
      zarith,
      add-fact (floor_div e p) (pos 1),
      mul-cancel-< p x (floor_div e p +ℤ pos 1) (<ℤ-≤ℤ h) (omega (
        zarith,
        floor-high e p h,
        terms (p ∷ floor_div e p ∷ [])
            (λ p q. p ⊗ (q ⊕ # 1) ∷ p ⊗ q ⊕ p ∷ []),
      )),
    )

    from : x ≤ℤ floor_div e p → (p *ℤ x) ≤ℤ e
    from g = omega (zarith, floor-low e p h, mulˡ (<ℤ-≤ℤ h) g)

pub ceil-iff : (e p x : ℤ) → pos 0 <ℤ p → (e ≤ℤ (p *ℤ x)) ↔ (ceil_div e p ≤ℤ x)
unfolding ceil_div
ceil-iff e p x h = (to, from)
  where
    mirror : ((p *ℤ neg_ℤ x) ≤ℤ neg_ℤ e) ↔ (neg_ℤ x ≤ℤ floor_div (neg_ℤ e) p)
    mirror = floor-iff (neg_ℤ e) p (neg_ℤ x) h

    to : e ≤ℤ (p *ℤ x) → neg_ℤ (floor_div (neg_ℤ e) p) ≤ℤ x
    to g = omega (zarith, mirror.0 (lin (e ∷ p ∷ x ∷ []) (λ e p x. e ⊑ p ⊗ x ⟶ p ⊗ ⊝ x ⊑ ⊝ e) tt g), neg-fact x, neg-fact (floor_div (neg_ℤ e) p))

    from : neg_ℤ (floor_div (neg_ℤ e) p) ≤ℤ x → e ≤ℤ (p *ℤ x)
    from g = lin (e ∷ p ∷ x ∷ []) (λ e p x. p ⊗ ⊝ x ⊑ ⊝ e ⟶ e ⊑ p ⊗ x) tt (mirror.1 (omega (zarith, neg-fact x, neg-fact (floor_div (neg_ℤ e) p))))

-- ---- what lies between is the quotient

pub floor-unique : (e p q : ℤ) → pos 0 <ℤ p → (p *ℤ q) ≤ℤ e → e <ℤ (p *ℤ q +ℤ p) → q ≡ floor_div e p
floor-unique e p q h lo hi = ≤ℤ-antisym ((floor-iff e p q h).0 lo) (omega (
  zarith,
  add-fact q (pos 1),
  mul-cancel-< p (floor_div e p) (q +ℤ pos 1) (<ℤ-≤ℤ h) (omega (zarith, floor-low e p h, terms (p ∷ q ∷ []) (λ p q. p ⊗ (q ⊕ # 1) ∷ p ⊗ q ⊕ p ∷ []))),
))

pub ceil-unique : (e p q : ℤ) → pos 0 <ℤ p → e ≤ℤ (p *ℤ q) → (p *ℤ q) <ℤ (e +ℤ p) → q ≡ ceil_div e p
unfolding ceil_div
ceil-unique e p q h lo hi = omega (
  zarith,
  neg-fact q,
  neg-fact (floor_div (neg_ℤ e) p),
  floor-unique (neg_ℤ e) p (neg_ℤ q) h
      (lin (e ∷ p ∷ q ∷ []) (λ e p x. e ⊑ p ⊗ x ⟶ p ⊗ ⊝ x ⊑ ⊝ e) tt lo)
      (lin (e ∷ p ∷ q ∷ []) (λ e p q. p ⊗ q ⊏ e ⊕ p ⟶ ⊝ e ⊏ p ⊗ ⊝ q ⊕ p) tt hi),
)

-- by 1
pub floor-one : (e : ℤ) → e ≡ floor_div e (pos 1)
floor-one e = floor-unique e (pos 1) e (omega zarith) (lin (e ∷ []) (λ e. # 1 ⊗ e ⊑ e) tt) (lin (e ∷ []) (λ e. e ⊏ # 1 ⊗ e ⊕ # 1) tt)

pub ceil-one : (e : ℤ) → e ≡ ceil_div e (pos 1)
ceil-one e = ceil-unique e (pos 1) e (omega zarith) (lin (e ∷ []) (λ e. e ⊑ # 1 ⊗ e) tt) (lin (e ∷ []) (λ e. # 1 ⊗ e ⊏ e ⊕ # 1) tt)

-- ---- quotient and rest, parted and joined again: x = w × quotient + rest, the rest from 0 to w − 1

module _ (w : ℤ) where
  abbrev pub quotient : ℤ → ℤ
  quotient x = floor_div x w

  abbrev pub rest : ℤ → ℤ
  rest x = x -ℤ w *ℤ floor_div x w

  pub rejoin : (x : ℤ) → w *ℤ quotient x +ℤ rest x ≡ x
  rejoin x = lin (w ∷ x ∷ floor_div x w ∷ []) (λ w x q. w ⊗ q ⊕ (x ⊖ w ⊗ q) ≐ x) tt

  module _ (h : pos 0 <ℤ w) where
    pub rest-low : (x : ℤ) → pos 0 ≤ℤ rest x
    rest-low x = lin (w ∷ x ∷ floor_div x w ∷ []) (λ w x q. w ⊗ q ⊑ x ⟶ # 0 ⊑ x ⊖ w ⊗ q) tt (floor-low x w h)

    pub rest-high : (x : ℤ) → rest x <ℤ w
    rest-high x = lin (w ∷ x ∷ floor_div x w ∷ []) (λ w x q. x ⊏ w ⊗ q ⊕ w ⟶ x ⊖ w ⊗ q ⊏ w) tt (floor-high x w h)

    module _ (s e : ℤ) (low : pos 0 ≤ℤ e) (high : e <ℤ w) where
      pub joined-quotient : quotient (w *ℤ s +ℤ e) ≡ s
      joined-quotient = sym (floor-unique (w *ℤ s +ℤ e) w s h
          (lin (w ∷ s ∷ e ∷ []) (λ w s e. # 0 ⊑ e ⟶ w ⊗ s ⊑ w ⊗ s ⊕ e) tt low)
          (lin (w ∷ s ∷ e ∷ []) (λ w s e. e ⊏ w ⟶ w ⊗ s ⊕ e ⊏ w ⊗ s ⊕ w) tt high))

      pub joined-rest : rest (w *ℤ s +ℤ e) ≡ e
      joined-rest = ap (λ q. w *ℤ s +ℤ e -ℤ w *ℤ q) joined-quotient ∙ lin (w ∷ s ∷ e ∷ []) (λ w s e. w ⊗ s ⊕ e ⊖ w ⊗ s ≐ e) tt

    -- of two numbers in order
    pub split-less : (x y : ℤ) → x <ℤ y → (quotient x <ℤ quotient y) ⊎ ((quotient x ≡ quotient y) × (rest x <ℤ rest y))
    split-less x y l = ⊎_elim inl (λ c. inr (⊎_elim same (λ g. absurd (omega (zarith, under))) c)) (trichotomy (quotient x) (quotient y))
      where
        under : quotient x ≤ℤ quotient y
        under = (floor-iff y w (quotient x) h).0 (omega (zarith, floor-low x w h))

        same : quotient x ≡ quotient y → (quotient x ≡ quotient y) × (rest x <ℤ rest y)
        same e = (e, by (w ∷ x ∷ y ∷ floor_div x w ∷ floor_div y w ∷ []) (λ w x y p q. w ▸ p ≐ q ⟹ x ⊏ y ⟶ x ⊖ w ⊗ p ⊏ y ⊖ w ⊗ q) (omega arith) e l)

-- ---- a quotient is no larger than what is divided

pub floor-parts : (e p : ℤ) → (up (floor_div e p) ≤ up e) × (down (floor_div e p) ≤ down e)
unfolding floor_div
floor-parts (pos a) p = omega (arith, div-le_self a (up p))
floor-parts (negsuc a) p = omega (arith, div-le_self a (up p))

pub ceil-parts : (e p : ℤ) → (up (ceil_div e p) ≤ up e) × (down (ceil_div e p) ≤ down e)
unfolding ceil_div
ceil-parts e p = omega (arith, floor-parts (neg_ℤ e) p, neg-parts e, neg-parts (floor_div (neg_ℤ e) p))

pub size-floor : (e p : ℤ) → size (floor_div e p) ≤ size e
size-floor e p = omega (arith, floor-parts e p)

pub size-ceil : (e p : ℤ) → size (ceil_div e p) ≤ size e
size-ceil e p = omega (arith, ceil-parts e p)

-- ---- the machine's quotient and remainder

pub quot-parts : (a b : ℤ) → pos 0 <ℤ b → (up (quot_z a b) ≤ up a) × (down (quot_z a b) ≤ down a)
quot-parts (pos a) (pos b) h = omega (arith, div-le_self a b)
quot-parts (negsuc a) (pos b) h = omega (arith, neg-parts (pos (suc a / b)), div-le_self (suc a) b)
quot-parts a (negsuc b) h = absurd (omega zarith)

pub quot-rem : (a b : ℤ) → pos 0 <ℤ b → b *ℤ quot_z a b +ℤ rem_z a b ≡ a
quot-rem (pos a) (pos b) h = ap pos (div-add-mod a b)
quot-rem (negsuc a) (pos b) h = nat_eq (pos b *ℤ quot_z (negsuc a) (pos b) +ℤ rem_z (negsuc a) (pos b)) (negsuc a) (omega (
  arith,
  mul-fact (pos b) (quot_z (negsuc a) (pos b)),
  add-fact (pos b *ℤ quot_z (negsuc a) (pos b)) (rem_z (negsuc a) (pos b)),
  neg-parts (pos (suc a % b)),
  ap (λ t. b * t) (neg-parts (pos (suc a / b))).0,
  ap (λ t. b * t) (neg-parts (pos (suc a / b))).1,
  div-add-mod (suc a) b,
))
quot-rem a (negsuc b) h = absurd (omega zarith)

pub rem-range : (a b : ℤ) → pos 0 <ℤ b → (neg_ℤ b <ℤ rem_z a b) × (rem_z a b <ℤ b)
rem-range (pos a) (pos b) h = let g : 0 < b = omega zarith in (omega (zarith, neg-fact (pos b)), omega (zarith, mod-lt a g))
rem-range (negsuc a) (pos b) h = let g : 0 < b = omega zarith in
    (omega (zarith, neg-fact (pos b), neg-parts (pos (suc a % b)), mod-lt (suc a) g), omega (zarith, neg-parts (pos (suc a % b)), mod-lt (suc a) g))
rem-range a (negsuc b) h = absurd (omega zarith)

module _ (a b : ℤ) (h : pos 0 <ℤ b) where
  -- −3/4: quotient 0 and remainder −3, so one less
  pub floor-down : rem_z a b <ℤ pos 0 → quot_z a b -ℤ pos 1 ≡ floor_div a b
  floor-down n = let e = quot-rem a b h in let r = rem-range a b h in
      let t = terms (b ∷ quot_z a b ∷ rem_z a b ∷ []) (λ b q r. b ⊗ q ⊕ r ∷ b ⊗ (q ⊖ # 1) ∷ b ⊗ (q ⊖ # 1) ⊕ b ∷ ⊝ b ∷ []) in
      floor-unique a b (quot_z a b -ℤ pos 1) h (omega zarith) (omega zarith)

  pub floor-same : pos 0 ≤ℤ rem_z a b → quot_z a b ≡ floor_div a b
  floor-same n = let e = quot-rem a b h in let r = rem-range a b h in
      let t = terms (b ∷ quot_z a b ∷ rem_z a b ∷ []) (λ b q r. b ⊗ q ⊕ r ∷ b ⊗ q ∷ b ⊗ q ⊕ b ∷ ⊝ b ∷ []) in
      floor-unique a b (quot_z a b) h (omega zarith) (omega zarith)

  pub ceil-up : pos 0 <ℤ rem_z a b → quot_z a b +ℤ pos 1 ≡ ceil_div a b
  ceil-up n = let e = quot-rem a b h in let r = rem-range a b h in
      let t = terms (a ∷ b ∷ quot_z a b ∷ rem_z a b ∷ []) (λ a b q r. b ⊗ q ⊕ r ∷ b ⊗ (q ⊕ # 1) ∷ a ⊕ b ∷ ⊝ b ∷ []) in
      ceil-unique a b (quot_z a b +ℤ pos 1) h (omega zarith) (omega zarith)

  pub ceil-same : rem_z a b ≤ℤ pos 0 → quot_z a b ≡ ceil_div a b
  ceil-same n = let e = quot-rem a b h in let r = rem-range a b h in
      let t = terms (a ∷ b ∷ quot_z a b ∷ rem_z a b ∷ []) (λ a b q r. b ⊗ q ⊕ r ∷ b ⊗ q ∷ a ⊕ b ∷ ⊝ b ∷ []) in
      ceil-unique a b (quot_z a b) h (omega zarith) (omega zarith)
