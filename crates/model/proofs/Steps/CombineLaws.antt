-- Exchange, one limit of the inner loop J: with c its coefficient of the outer loop I it says e' + c I ≤ p J, or p J ≤ e' + c I. Its parts in the
-- new nest say the same: combined with the limits of I for the new outer loop, solved for I for the new inner one.
use mathlib.Core.Path.{◌≡◌, refl, sym, ap, ◌∙◌, subst}
use mathlib.Core.Logic.Iff
use mathlib.Core.Logic.{◌↔◌}
use mathlib.Core.List.Memᴰ
use mathlib.Core.List.{List, [], ◌∷◌, ◌++◌, map}
use Prim.Native.Nat.{ℕ, zero, suc}
use native.Mathlib.Omega.{arith}
use lib.IntN.{ℤ, pos, negsuc, neg_ℤ, ◌+ℤ◌, ◌-ℤ◌, ◌*ℤ◌}
use lib.ListN.{length, get_or, take, length-map}
use lib.Seq.{length-take-le}
use lib.Signed.{◌≤ℤ◌}
use Rattle.lists.specs.Membership.{All}
use Rattle.lists.proofs.MembershipLaws.{all_nil, all_cons}
use Rattle.integers.specs.Affine.{dot, affine}
use Rattle.integers.proofs.AffineLaws.{dot-neg, dot-mixed, dot-more, dot-last}
use Rattle.integers.proofs.RingLaws.{zarith}
use Rattle.integers.proofs.Polynomial.{◌⊕◌, ◌⊖◌, ◌⊗◌, ⊝, #}
use Rattle.integers.proofs.Linear.{lin, ◌⊑◌, ◌≐◌, ◌⟶◌, ◌▹◌⟹◌}
use Rattle.model.specs.Ticket.{Limit, Loop}
use Rattle.model.specs.Points.{value}
use Rattle.model.specs.Inside.{AtLeast, AtMost, InLimits}
use Rattle.model.specs.Limits.{outer_coefficient, kept, combined, outer_part, solved_positive, solved_negative, when_positive, when_negative, widened}
use Rattle.model.specs.Shape.{Sized}

-- ---- values

pub length-kept : (a : ℕ) (l : Limit) → length l.coefficients ≡ suc a → length (take a l.coefficients) ≡ a
length-kept a l e = length-take-le a l.coefficients (omega arith)

module _ (a : ℕ) (outer : List ℤ) (len : length outer ≡ a) where
  -- e'
  abbrev pub kept_value : Limit → ℤ
  kept_value l = value (kept a l) outer

  value-last : (l : Limit) (i : ℤ) → length l.coefficients ≡ suc a → value l (outer ++ (i ∷ [])) ≡ kept_value l +ℤ outer_coefficient a l *ℤ i
  unfolding value affine kept outer_coefficient
  value-last l i e = ap (λ d. l.constant +ℤ d) (dot-last l.coefficients outer i (e ∙ ap suc (sym len))) ∙ rw len
      (lin (l.constant ∷ dot (take a l.coefficients) outer ∷ get_or l.coefficients a (pos 0) ∷ i ∷ [])
      (λ c d b i. c ⊕ (d ⊕ b ⊗ i) ≐ c ⊕ d ⊕ b ⊗ i) tt)

  value-combined : (c : ℤ) (l m : Limit) → length l.coefficients ≡ suc a → length m.coefficients ≡ a
      → value (combined a c l m) outer ≡ pos m.multiplier *ℤ kept_value l +ℤ c *ℤ value m outer
  unfolding value affine combined kept
  value-combined c l m e f =
      ap (λ d. pos m.multiplier *ℤ l.constant +ℤ c *ℤ m.constant +ℤ d) (dot-mixed (pos m.multiplier) c (take a l.coefficients)
      m.coefficients outer (length-kept a l e ∙ sym f))
      ∙ lin (pos m.multiplier ∷ l.constant ∷ c ∷ m.constant ∷ dot (take a l.coefficients) outer ∷ dot m.coefficients outer ∷ [])
      (λ q k c n d e. q ⊗ k ⊕ c ⊗ n ⊕ (q ⊗ d ⊕ c ⊗ e) ≐ q ⊗ (k ⊕ d) ⊕ c ⊗ (n ⊕ e)) tt

  value-positive : (n : ℕ) (l : Limit) (j : ℤ) → length l.coefficients ≡ suc a
      → value (solved_positive a n l) (outer ++ (j ∷ [])) ≡ neg_ℤ (kept_value l) +ℤ pos l.multiplier *ℤ j
  unfolding value affine solved_positive kept
  value-positive n l j e =
      ap (λ d. neg_ℤ l.constant +ℤ d) (dot-more (map neg_ℤ (take a l.coefficients)) (pos l.multiplier) outer j
      (length-map (take a l.coefficients) neg_ℤ ∙ length-kept a l e ∙ sym len)
      ∙ ap (λ d. d +ℤ pos l.multiplier *ℤ j) (dot-neg (take a l.coefficients) outer))
      ∙ lin (l.constant ∷ dot (take a l.coefficients) outer ∷ pos l.multiplier ∷ j ∷ []) (λ c d p j. ⊝ c ⊕ (⊝ d ⊕ p ⊗ j) ≐ ⊝ (c ⊕ d) ⊕ p ⊗ j)
      tt

  value-negative : (n : ℕ) (l : Limit) (j : ℤ) → length l.coefficients ≡ suc a
      → value (solved_negative a n l) (outer ++ (j ∷ [])) ≡ kept_value l -ℤ pos l.multiplier *ℤ j
  unfolding value affine solved_negative kept
  value-negative n l j e =
      ap (λ d. l.constant +ℤ d) (dot-more (take a l.coefficients) (neg_ℤ (pos l.multiplier)) outer j (length-kept a l e ∙ sym len))
      ∙ lin (l.constant ∷ dot (take a l.coefficients) outer ∷ pos l.multiplier ∷ j ∷ []) (λ c d p j. c ⊕ (d ⊕ ⊝ p ⊗ j) ≐ c ⊕ d ⊖ p ⊗ j) tt

  pub value-widened : (m : Limit) (j : ℤ) → length m.coefficients ≡ a → value (widened m) (outer ++ (j ∷ [])) ≡ value m outer
  unfolding value affine widened
  value-widened m j e = ap (λ d. m.constant +ℤ d) (dot-more m.coefficients (pos 0) outer j (e ∙ sym len))
      ∙ lin (m.constant ∷ dot m.coefficients outer ∷ j ∷ []) (λ c d j. c ⊕ (d ⊕ # 0 ⊗ j) ≐ c ⊕ d) tt

  -- ---- one limit of J, at I = i and J = j

  module _ (i j : ℤ) (l : Limit) (size : length l.coefficients ≡ suc a) where
    abbrev pub Lower : ℤ → Type 0
    Lower c = (kept_value l +ℤ c *ℤ i) ≤ℤ (pos l.multiplier *ℤ j)

    abbrev pub Upper : ℤ → Type 0
    Upper c = (pos l.multiplier *ℤ j) ≤ℤ (kept_value l +ℤ c *ℤ i)

    pub lower-is : AtLeast (outer ++ (i ∷ [])) j l ↔ Lower (outer_coefficient a l)
    lower-is = rw (value-last l i size) Iff.rfl

    pub upper_is : AtMost (outer ++ (i ∷ [])) j l ↔ Upper (outer_coefficient a l)
    upper_is = rw (value-last l i size) Iff.rfl

    -- combined with the limits of I

    module _ (I : Loop) (o : InLimits I outer i) (sl : Sized a I.lower) (su : Sized a I.upper) where
      pub lower-outer : (c : ℤ) → Lower c → All (AtLeast outer j) (outer_part a I.lower I.upper c l)
      unfolding outer_part combined kept
      lower-outer (pos zero) h = all_cons (AtLeast outer j) (lin (pos l.multiplier ∷ kept_value l ∷ i ∷ j ∷ [])
          (λ p r i j. r ⊕ # 0 ⊗ i ⊑ p ⊗ j ⟶ r ⊑ p ⊗ j) tt h) (all_nil (AtLeast outer j))
      lower-outer (pos (suc n)) h = λ x t. let r = Memᴰ.of_map (combined a (pos (suc n)) l) I.lower t in let m = r.0 in subst (AtLeast outer j)
          r.2 (rw (value-combined (pos (suc n)) l m size (sl m r.1))
          (lin (pos l.multiplier ∷ pos m.multiplier ∷ pos (suc n) ∷ kept_value l ∷ value m outer ∷ i ∷ j ∷ [])
          (λ p q c r v i j. q ▹ r ⊕ c ⊗ i ⊑ p ⊗ j ⟹ c ▹ v ⊑ q ⊗ i ⟹ q ⊗ r ⊕ c ⊗ v ⊑ p ⊗ q ⊗ j) tt
          (omega zarith) h (omega zarith) (o.low m r.1)))
      lower-outer (negsuc n) h = λ x t. let r = Memᴰ.of_map (combined a (negsuc n) l) I.upper t in let m = r.0 in subst (AtLeast outer j) r.2
          (rw (value-combined (negsuc n) l m size (su m r.1))
          (lin (pos l.multiplier ∷ pos m.multiplier ∷ pos (suc n) ∷ kept_value l ∷ value m outer ∷ i ∷ j ∷ [])
          (λ p q c r v i j. q ▹ r ⊕ ⊝ c ⊗ i ⊑ p ⊗ j ⟹ c ▹ q ⊗ i ⊑ v ⟹ q ⊗ r ⊕ ⊝ c ⊗ v ⊑ p ⊗ q ⊗ j) tt
          (omega zarith) h (omega zarith) (o.high m r.1)))

      pub upper-outer : (c : ℤ) → Upper c → All (AtMost outer j) (outer_part a I.upper I.lower c l)
      unfolding outer_part combined kept
      upper-outer (pos zero) h = all_cons (AtMost outer j) (lin (pos l.multiplier ∷ kept_value l ∷ i ∷ j ∷ [])
          (λ p r i j. p ⊗ j ⊑ r ⊕ # 0 ⊗ i ⟶ p ⊗ j ⊑ r) tt h) (all_nil (AtMost outer j))
      upper-outer (pos (suc n)) h = λ x t. let r = Memᴰ.of_map (combined a (pos (suc n)) l) I.upper t in let m = r.0 in subst (AtMost outer j)
          r.2 (rw (value-combined (pos (suc n)) l m size (su m r.1))
          (lin (pos l.multiplier ∷ pos m.multiplier ∷ pos (suc n) ∷ kept_value l ∷ value m outer ∷ i ∷ j ∷ [])
          (λ p q c r v i j. q ▹ p ⊗ j ⊑ r ⊕ c ⊗ i ⟹ c ▹ q ⊗ i ⊑ v ⟹ p ⊗ q ⊗ j ⊑ q ⊗ r ⊕ c ⊗ v) tt
          (omega zarith) h (omega zarith) (o.high m r.1)))
      upper-outer (negsuc n) h = λ x t. let r = Memᴰ.of_map (combined a (negsuc n) l) I.lower t in let m = r.0 in subst (AtMost outer j) r.2
          (rw (value-combined (negsuc n) l m size (sl m r.1))
          (lin (pos l.multiplier ∷ pos m.multiplier ∷ pos (suc n) ∷ kept_value l ∷ value m outer ∷ i ∷ j ∷ [])
          (λ p q c r v i j. q ▹ p ⊗ j ⊑ r ⊕ ⊝ c ⊗ i ⟹ c ▹ v ⊑ q ⊗ i ⟹ p ⊗ q ⊗ j ⊑ q ⊗ r ⊕ ⊝ c ⊗ v) tt
          (omega zarith) h (omega zarith) (o.low m r.1)))

    -- solved for I, both ways

    abbrev Least : Limit → Type 0
    Least = AtLeast (outer ++ (j ∷ [])) i

    abbrev Most : Limit → Type 0
    Most = AtMost (outer ++ (j ∷ [])) i

    abbrev atoms : ℕ → List ℤ
    atoms n = pos l.multiplier ∷ pos n ∷ kept_value l ∷ i ∷ j ∷ []

    lower-positive : (n : ℕ) → Lower (pos n) ↔ Most (solved_positive a n l)
    unfolding solved_positive
    lower-positive n = rw (value-positive n l j size) (
      lin (atoms n) (λ p c r i j. r ⊕ c ⊗ i ⊑ p ⊗ j ⟶ c ⊗ i ⊑ ⊝ r ⊕ p ⊗ j) tt,
      lin (atoms n)
          (λ p c r i j. c ⊗ i ⊑ ⊝ r ⊕ p ⊗ j ⟶ r ⊕ c ⊗ i ⊑ p ⊗ j) tt,
    )

    upper-positive : (n : ℕ) → Upper (pos n) ↔ Least (solved_positive a n l)
    unfolding solved_positive
    upper-positive n = rw (value-positive n l j size) (
      lin (atoms n) (λ p c r i j. p ⊗ j ⊑ r ⊕ c ⊗ i ⟶ ⊝ r ⊕ p ⊗ j ⊑ c ⊗ i) tt,
      lin (atoms n)
          (λ p c r i j. ⊝ r ⊕ p ⊗ j ⊑ c ⊗ i ⟶ p ⊗ j ⊑ r ⊕ c ⊗ i) tt,
    )

    lower-negative : (n : ℕ) → Lower (negsuc n) ↔ Least (solved_negative a (suc n) l)
    unfolding solved_negative
    lower-negative n = rw (value-negative (suc n) l j size) (
      lin (atoms (suc n)) (λ p c r i j. r ⊕ ⊝ c ⊗ i ⊑ p ⊗ j ⟶ r ⊖ p ⊗ j ⊑ c ⊗ i) tt,
      lin (atoms (suc n))
          (λ p c r i j. r ⊖ p ⊗ j ⊑ c ⊗ i ⟶ r ⊕ ⊝ c ⊗ i ⊑ p ⊗ j) tt,
    )

    upper-negative : (n : ℕ) → Upper (negsuc n) ↔ Most (solved_negative a (suc n) l)
    unfolding solved_negative
    upper-negative n = rw (value-negative (suc n) l j size) (
      lin (atoms (suc n)) (λ p c r i j. p ⊗ j ⊑ r ⊕ ⊝ c ⊗ i ⟶ c ⊗ i ⊑ r ⊖ p ⊗ j) tt,
      lin (atoms (suc n))
          (λ p c r i j. c ⊗ i ⊑ r ⊖ p ⊗ j ⟶ p ⊗ j ⊑ r ⊕ ⊝ c ⊗ i) tt,
    )

    pub lower-inner : (c : ℤ) → Lower c → All Least (when_negative a c l) × All Most (when_positive a c l)
    unfolding when_negative when_positive
    lower-inner (pos zero) h = (all_nil Least, all_nil Most)
    lower-inner (pos (suc n)) h = (all_nil Least, all_cons Most ((lower-positive (suc n)).0 h) (all_nil Most))
    lower-inner (negsuc n) h = (all_cons Least ((lower-negative n).0 h) (all_nil Least), all_nil Most)

    pub upper-inner : (c : ℤ) → Upper c → All Least (when_positive a c l) × All Most (when_negative a c l)
    unfolding when_negative when_positive
    upper-inner (pos zero) h = (all_nil Least, all_nil Most)
    upper-inner (pos (suc n)) h = (all_cons Least ((upper-positive (suc n)).0 h) (all_nil Least), all_nil Most)
    upper-inner (negsuc n) h = (all_nil Least, all_cons Most ((upper-negative n).0 h) (all_nil Most))

    -- back from both parts

    pub lower-back : (s o : List Limit) (c : ℤ) → All (AtLeast outer j) (outer_part a s o c l) → All Least (when_negative a c l)
        → All Most (when_positive a c l) → Lower c
    unfolding outer_part when_negative when_positive kept
    lower-back s o (pos zero) h u d = lin (pos l.multiplier ∷ kept_value l ∷ i ∷ j ∷ []) (λ p r i j. r ⊑ p ⊗ j ⟶ r ⊕ # 0 ⊗ i ⊑ p ⊗ j) tt
        (h (kept a l) (Memᴰ.head refl))
    lower-back s o (pos (suc n)) h u d = (lower-positive (suc n)).1 (d (solved_positive a (suc n) l) (Memᴰ.head refl))
    lower-back s o (negsuc n) h u d = (lower-negative n).1 (u (solved_negative a (suc n) l) (Memᴰ.head refl))

    pub upper-back : (s o : List Limit) (c : ℤ) → All (AtMost outer j) (outer_part a s o c l) → All Least (when_positive a c l)
        → All Most (when_negative a c l) → Upper c
    unfolding outer_part when_negative when_positive kept
    upper-back s o (pos zero) h u d = lin (pos l.multiplier ∷ kept_value l ∷ i ∷ j ∷ []) (λ p r i j. p ⊗ j ⊑ r ⟶ p ⊗ j ⊑ r ⊕ # 0 ⊗ i) tt
        (h (kept a l) (Memᴰ.head refl))
    upper-back s o (pos (suc n)) h u d = (upper-positive (suc n)).1 (u (solved_positive a (suc n) l) (Memᴰ.head refl))
    upper-back s o (negsuc n) h u d = (upper-negative n).1 (d (solved_negative a (suc n) l) (Memᴰ.head refl))
