-- What a limit of J gives to the two new loops, by the sign of its coefficient of I.
use mathlib.Core.Path.{◌≡◌, refl, sym, ◌∙◌, ap, subst}
use mathlib.Core.Bool.{Bool, true, false, beq}
use mathlib.Core.List.{List, [], ◌∷◌, ◌++◌, map}
use Prim.Native.Nat.{ℕ, zero, suc, ◌<◌, ◌≤◌, ◌+◌, ◌*◌}
use native.Mathlib.Omega.{arith}
use lib.Dec.{T}
use lib.IntN.{ℤ, pos, negsuc, neg_ℤ, nat_abs, ◌+ℤ◌, ◌*ℤ◌}
use lib.ListN.{length, get_or, take, set, length-set}
use lib.Seq.{get_or-take}
use lib.Signed.{◌≤ℤ◌, ◌<ℤ◌, lt_z}
use mir.Syntax.{w32}
use mir.Val.{of_z}
use Rattle.integers.specs.Difference.{size}
use Rattle.integers.proofs.DifferenceLaws.{le-nat, lt-nat, nat_lt, nat_le, neg-fact}
use Rattle.integers.proofs.RangeLaws.{bits-inj, test-lt, test-lt-no, lt_test, lt-test-no}
use Rattle.model.specs.Ticket as Model
use Rattle.model.specs.Limits.{combined, widened, kept, outer_part, outer_coefficient, solved_positive, solved_negative, when_positive, when_negative}
use Rattle.ticket_loops.specs.LoopReads.{limit_of}
use Rattle.ticket_loops.specs.declared.Limit.{Limit}
use Rattle.step_limits.specs.Makes.{mixed, RowIs, LimitIs}
use Rattle.step_limits.proofs.NumberLaws.{size_fits}
use Rattle.step_limits.proofs.RowLaws.{front-shorter, front-longer, mixed-negates}
use Rattle.step_limits.proofs.LimitLaws.{same-limit}
use Rattle.step_exchange.specs.Pair.{solved, taken_of}

pub coefficient-at : (a : ℕ) (l : Limit) → outer_coefficient a (limit_of (a + 1) l) ≡ get_or l.coefficients a (pos 0)
unfolding outer_coefficient limit_of
coefficient-at a l = get_or-take (a + 1) l.coefficients a (pos 0) (omega arith)

-- ---- tests

pub zero_bits : (z : ℤ) → size z ≤ 32767 → of_z w32 z ≡ 0 → z ≡ pos 0
zero_bits z h e = bits-inj {w = w32} (size_fits h (omega arith)) (size_fits {z = pos 0} {n = 0} (omega arith) (omega arith)) e

pub zero_test : (z : ℤ) → (of_z w32 z ≡ 0 → ⊥) → z ≡ pos 0 → ⊥
zero_test z h e = h (ap (of_z w32) e)

pub negated-positive : (z : ℤ) → z ≤ℤ pos 0 → pos 0 ≤ℤ neg_ℤ z
negated-positive z h = nat_le (pos 0) (neg_ℤ z) (let u = le-nat z (pos 0) h in omega (arith, neg-fact z))

-- `==` on two flags
pub flags-same : (a b : Bool) → beq a b ≡ true → a ≡ b
flags-same true true e = refl
flags-same true false e = sym e
flags-same false true e = e
flags-same false false e = refl

pub flags-differ : (a b : Bool) → beq a b ≡ false → a ≡ b → ⊥
flags-differ true true e q = subst T e tt
flags-differ true false e q = subst T q tt
flags-differ false true e q = subst T (sym q) tt
flags-differ false false e q = subst T e tt

-- ---- limits, from what was done to the constant and to the row

pub widened_is : (n : ℕ) (l : Limit) (k : ℤ) → length l.coefficients ≡ 6 → n < length l.coefficients → k ≡ l.constant
    → LimitIs (n + 1) (record { multiplier = l.multiplier; constant = k; coefficients = set l.coefficients n (pos 0) }) (widened (limit_of n l))
unfolding widened limit_of
widened_is n l k m h e = record { is = same-limit refl e (front-longer n l.coefficients (pos 0) h); within = record { room = simp length-set m } }

pub combined-is : (a : ℕ) (c : ℤ) (l m : Limit) (d : ℤ) (ds : List ℤ)
    → d ≡ pos m.multiplier *ℤ l.constant +ℤ c *ℤ m.constant
    → RowIs a ds (mixed (pos m.multiplier) c (take a l.coefficients) (take a m.coefficients))
    → LimitIs a (record { multiplier = l.multiplier * m.multiplier; constant = d; coefficients = ds })
    (combined a c (limit_of (a + 1) l) (limit_of a m))
unfolding combined limit_of
combined-is a c l m d ds e f = record {
  is = same-limit refl e (f.is ∙ ap (λ w. mixed (pos m.multiplier) c w (take a m.coefficients)) (sym (front-shorter a l.coefficients)));
  within = record { room = f.room };
}

positive_of : (a : ℕ) (m : Model.Limit) (z : ℤ) → pos 0 <ℤ z → solved a z m ≡ solved_positive a (nat_abs z) m
unfolding solved
positive_of a m (pos n) h = refl
positive_of a m (negsuc n) h = absurd h.lt

negative_of : (a : ℕ) (m : Model.Limit) (z : ℤ) → z ≤ℤ pos 0 → (z ≡ pos 0 → ⊥) → solved a z m ≡ solved_negative a (nat_abs (neg_ℤ z)) m
unfolding solved
negative_of a m (pos zero) h g = absurd (g refl)
negative_of a m (pos (suc n)) h g = let u = le-nat (pos (suc n)) (pos 0) h in absurd (omega arith)
negative_of a m (negsuc n) h g = refl

module _ (a : ℕ) (l : Limit) where
  abbrev c : ℤ
  c = get_or l.coefficients a (pos 0)

  pub solved-positive : (k : ℤ) (ks : List ℤ) (p : ℤ) → a < 6 → pos 0 <ℤ c → k ≡ neg_ℤ l.constant
      → RowIs a ks (mixed (negsuc 0) (pos 0) (take a l.coefficients) (take a l.coefficients)) → p ≡ pos l.multiplier
      → LimitIs (a + 1) (record { multiplier = nat_abs c; constant = k; coefficients = set ks a p })
      (solved a (outer_coefficient a (limit_of (a + 1) l)) (limit_of (a + 1) l))
  unfolding solved_positive limit_of
  solved-positive k ks p h g e f q =
      let r = f.room in
      record {
        is = rw (coefficient-at a l) (same-limit refl e (front-longer a ks p (omega arith) ∙ ap (λ p. take a ks ++ (p ∷ [])) q
            ∙ ap (◌++ (pos l.multiplier ∷ [])) (f.is ∙ mixed-negates (take a l.coefficients)
            ∙ ap (map neg_ℤ) (sym (front-shorter a l.coefficients))))
            ∙ sym (positive_of a (limit_of (a + 1) l) c g));
        within = record { room = simp length-set r };
      }

  pub solved-negative : (k p z : ℤ) → length l.coefficients ≡ 6 → a < 6 → c ≤ℤ pos 0 → (outer_coefficient a (limit_of (a + 1) l) ≡ pos 0 → ⊥)
      → k ≡ l.constant
      → p ≡ neg_ℤ (pos l.multiplier) → z ≡ neg_ℤ c
      → LimitIs (a + 1) (record { multiplier = nat_abs z; constant = k; coefficients = set l.coefficients a p })
      (solved a (outer_coefficient a (limit_of (a + 1) l)) (limit_of (a + 1) l))
  unfolding solved_negative limit_of
  solved-negative k p z r h g n e q f = record {
    is = rw (coefficient-at a l) (same-limit (ap nat_abs f) e (front-longer a l.coefficients p (omega arith)
        ∙ ap (λ p. take a l.coefficients ++ (p ∷ [])) q ∙ ap (◌++ (neg_ℤ (pos l.multiplier) ∷ [])) (sym (front-shorter a l.coefficients)))
        ∙ sym (negative_of a (limit_of (a + 1) l) c g (λ x. n (coefficient-at a l ∙ x))));
    within = record { room = simp length-set r };
  }

-- ---- what the loop inside takes

abbrev taken_at : Bool → ℕ → ℤ → Model.Limit → List Model.Limit
taken_at true a z l = when_positive a z l
taken_at false a z l = when_negative a z l

taken_is : (positive : Bool) (a : ℕ) (l : Model.Limit) → taken_of positive a l ≡ taken_at positive a (outer_coefficient a l) l
unfolding taken_of
taken_is true a l = refl
taken_is false a l = refl

zero-at : (positive : Bool) (a : ℕ) (l : Model.Limit) → taken_at positive a (pos 0) l ≡ []
unfolding when_positive when_negative
zero-at true a l = refl
zero-at false a l = refl

same_at : (positive : Bool) (a : ℕ) (z : ℤ) (l : Model.Limit) → (z ≡ pos 0 → ⊥) → lt_z (pos 0) z ≡ positive
    → taken_at positive a z l ≡ solved a z l ∷ []
unfolding when_positive when_negative solved
same_at positive a (pos zero) l h e = absurd (h refl)
same_at true a (pos (suc n)) l h e = refl
same_at false a (pos (suc n)) l h e = let u = le-nat (pos (suc n)) (pos 0) (test-lt-no e) in absurd (omega arith)
same_at true a (negsuc n) l h e = let u = lt-nat (pos 0) (negsuc n) (test-lt e) in absurd (omega arith)
same_at false a (negsuc n) l h e = refl

other_at : (positive : Bool) (a : ℕ) (z : ℤ) (l : Model.Limit) → (z ≡ pos 0 → ⊥) → (lt_z (pos 0) z ≡ positive → ⊥) → taken_at positive a z l ≡ []
unfolding when_positive when_negative
other_at positive a (pos zero) l h e = absurd (h refl)
other_at true a (pos (suc n)) l h e = absurd (e (lt_test {a = pos 0} {b = pos (suc n)} (nat_lt (pos 0) (pos (suc n)) (omega arith))))
other_at false a (pos (suc n)) l h e = refl
other_at true a (negsuc n) l h e = refl
other_at false a (negsuc n) l h e = absurd (e (lt-test-no {a = pos 0} {b = negsuc n} (nat_le (negsuc n) (pos 0) (omega arith))))

module _ (positive : Bool) (a : ℕ) (l : Limit) where
  pub taken-zero : c a l ≡ pos 0 → taken_of positive a (limit_of (a + 1) l) ≡ []
  taken-zero e = taken_is positive a (limit_of (a + 1) l) ∙ ap (λ (y : ℤ). taken_at positive a y (limit_of (a + 1) l)) (coefficient-at a l ∙ e)
      ∙ zero-at positive a (limit_of (a + 1) l)

  pub taken-same : (c a l ≡ pos 0 → ⊥) → lt_z (pos 0) (c a l) ≡ positive
      → taken_of positive a (limit_of (a + 1) l) ≡ solved a (outer_coefficient a (limit_of (a + 1) l)) (limit_of (a + 1) l) ∷ []
  taken-same h e = taken_is positive a (limit_of (a + 1) l) ∙ rw (coefficient-at a l) (same_at positive a (c a l) (limit_of (a + 1) l) h e)

  pub taken-other : (c a l ≡ pos 0 → ⊥) → (lt_z (pos 0) (c a l) ≡ positive → ⊥) → taken_of positive a (limit_of (a + 1) l) ≡ []
  taken-other h e = taken_is positive a (limit_of (a + 1) l) ∙ rw (coefficient-at a l) (other_at positive a (c a l) (limit_of (a + 1) l) h e)

-- ---- what the loop outside takes

positive-part : (a : ℕ) (same other : List Model.Limit) (z : ℤ) (l : Model.Limit) → pos 0 <ℤ z
    → outer_part a same other z l ≡ map (combined a z l) same
unfolding outer_part
positive-part a same other (pos zero) l h = let u = lt-nat (pos 0) (pos 0) h in absurd (omega arith)
positive-part a same other (pos (suc n)) l h = refl
positive-part a same other (negsuc n) l h = let u = lt-nat (pos 0) (negsuc n) h in absurd (omega arith)

negative-part : (a : ℕ) (same other : List Model.Limit) (z : ℤ) (l : Model.Limit) → (z ≡ pos 0 → ⊥) → z ≤ℤ pos 0
    → outer_part a same other z l ≡ map (combined a z l) other
unfolding outer_part
negative-part a same other (pos zero) l n h = absurd (n refl)
negative-part a same other (pos (suc n)) l k h = let u = le-nat (pos (suc n)) (pos 0) h in absurd (omega arith)
negative-part a same other (negsuc n) l k h = refl

kept-is : (a : ℕ) (l : Limit) → kept a (limit_of (a + 1) l) ≡ limit_of a l
unfolding kept limit_of
kept-is a l = same-limit refl refl (front-shorter a l.coefficients)

module _ (a : ℕ) (same other : List Model.Limit) (l : Limit) where
  pub part-zero : c a l ≡ pos 0 → outer_part a same other (outer_coefficient a (limit_of (a + 1) l)) (limit_of (a + 1) l) ≡ limit_of a l ∷ []
  unfolding outer_part
  part-zero e = ap (λ (y : ℤ). outer_part a same other y (limit_of (a + 1) l)) (coefficient-at a l ∙ e) ∙ ap (◌∷ []) (kept-is a l)

  pub part-positive : pos 0 <ℤ c a l → outer_part a same other (outer_coefficient a (limit_of (a + 1) l)) (limit_of (a + 1) l) ≡ map
      (combined a (c a l) (limit_of (a + 1) l)) same
  part-positive h = rw (coefficient-at a l) (positive-part a same other (c a l) (limit_of (a + 1) l) h)

  pub part-negative : (c a l ≡ pos 0 → ⊥) → c a l ≤ℤ pos 0 → outer_part a same other (outer_coefficient a (limit_of (a + 1) l)) (limit_of (a + 1) l) ≡
      map (combined a (c a l) (limit_of (a + 1) l)) other
  part-negative n h = rw (coefficient-at a l) (negative-part a same other (c a l) (limit_of (a + 1) l) n h)
