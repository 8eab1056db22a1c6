-- The word of a factor: a number, which is near and not 0.
use mathlib.Core.Path.{◌≡◌, refl, sym, ap, ◌∙◌}
use mathlib.Core.Bool.{Bool, true, false, cond, not}
use mathlib.Core.List.{List}
use Prim.Native.Nat.{ℕ, suc, ◌+◌, ◌-◌, ◌<◌, ◌≤◌}
use native.Mathlib.Omega.{arith}
use borrow.Author.Tests.{le-leb, lt-leb, eq-eqb, ne_eqb, leb-true, leb-false}
use lib.Dec.{leb}
use lib.IntN.{ℤ, pos, negsuc, neg_ℤ, nat_abs}
use Rattle.lists.proofs.TestLaws.{true-T, false-not-T}
use Rattle.integers.specs.Sign.{eq_z}
use Rattle.model.specs.Answer as Answer
use Rattle.model.specs.Answer.{Answer, accepted, refused, require}
use Rattle.model.specs.Words.{word_at}
use Rattle.model.specs.Grammar.{Read, ◌>>=◌, ◌>>◌, must, done, between, within, number, most_factor}
use Rattle.model.proofs.Answers.AnswerLaws.{not-both, accepted-same}
use Rattle.std.specs.Prelude.{Ok, Err}
use Rattle.ticket_refusals.specs.declared.Refusal.{Refusal}
use Rattle.ticket_refusals.specs.declared.Refusal.TheVariants.{WordOutOfRange}
use Rattle.ticket_words.specs.Reads.{Reads, plain}
use Rattle.ticket_words.specs.declared.Words.{Words}
use Rattle.ticket_words.proofs.ReaderLaws.{read-value, read-refusal, after-value, after-refusal}
use Rattle.ticket_words.proofs.WordLaws.{within-value, within-no, within-refused}
use Rattle.ticket_steps.specs.Steps.{factor}

-- ---- the tests of a number

-- within so many and one more, on either side of 0
near : (m : ℕ) (w : ℤ) → nat_abs w ≤ suc m → between (negsuc m) (pos (suc m)) w ≡ true
unfolding between
near m (pos n) h = rw (le-leb n (suc m) h)
near m (negsuc n) h = rw (le-leb n m (omega arith))

far : (m : ℕ) (w : ℤ) → suc m < nat_abs w → between (negsuc m) (pos (suc m)) w ≡ false
unfolding between
far m (pos n) h = rw (lt-leb n (suc m) h)
far m (negsuc n) h = rw (lt-leb n m (omega arith))

within-more : (m n : ℕ) (w : ℤ) → m ≤ n → between (negsuc n) (pos (suc n)) w ≡ false → between (negsuc m) (pos (suc m)) w ≡ false
within-more m n w h e = by (leb (nat_abs w) (suc n)) refl
  where
    by : (t : Bool) → leb (nat_abs w) (suc n) ≡ t → between (negsuc m) (pos (suc m)) w ≡ false
    by true f = absurd (false-not-T _ e (true-T _ (near n w (leb-true _ _ f))))
    by false f = far m w (let l = leb-false _ _ f in omega arith)

some_number : (w : ℤ) → (nat_abs w ≡ 0 → ⊥) → not (eq_z w (pos 0)) ≡ true
some_number (pos n) h = rw (ne_eqb n 0 h)
some_number (negsuc n) h = refl

no_number : (w : ℤ) → nat_abs w ≡ 0 → not (eq_z w (pos 0)) ≡ false
no_number (pos n) h = rw (eq-eqb n 0 h)
no_number (negsuc n) h = absurd (omega arith)

-- ---- what is read

module _ (b : List ℕ) (k : ℕ) where
  last : (w : ℤ) (t : Bool) → (must t 4 >> done w) b (k + 1) ≡ cond t (accepted (record { value = w; next = k + 1 })) (refused 4 k)
  unfolding ◌>>◌ ◌>>=◌ must done require Answer.◌>>=◌ Answer.◌>>◌
  last w true = refl
  last w false = let z : k + 1 - 1 ≡ k = omega arith in ap (refused 4) z

  module _ (w : ℤ) (e : word_at b k ≡ accepted w) where
    tested : (t : Bool) → not (eq_z w (pos 0)) ≡ t → nat_abs w ≤ most_factor
        → factor b k ≡ cond t (accepted (record { value = w; next = k + 1 })) (refused 4 k)
    unfolding factor
    tested t f h = after-value (within (neg_ℤ (pos most_factor)) (pos most_factor)) _ b k w (k + 1) (within-value b k w e _ _ (near 0 w h))
        ∙ last w (not (eq_z w (pos 0))) ∙ ap (λ s. cond s (accepted (record { value = w; next = k + 1 })) (refused 4 k)) f

    beyond : between (negsuc 0) (pos 1) w ≡ false → factor b k ≡ refused 4 k
    unfolding factor
    beyond f = after-refusal (within (neg_ℤ (pos most_factor)) (pos most_factor)) _ b k 4 k (within-no b k w e _ _ f)

  -- the word of a number
  word_of : (c : ℤ) (j : ℕ) → number b k ≡ accepted (record { value = c; next = j }) → (word_at b k ≡ accepted c) × (k + 1 ≡ j)
  unfolding number
  word_of c j h = by (word_at b k) refl
    where
      on : (w : ℤ) → word_at b k ≡ accepted w → (t : Bool) → between (negsuc 32766) (pos 32767) w ≡ t → (word_at b k ≡ accepted c) × (k + 1 ≡ j)
      on w e true f = let z = accepted-same (sym (within-value b k w e _ _ f) ∙ h) in
          (e ∙ ap (λ (r : Read ℤ). accepted r.value) z, ap (λ (r : Read ℤ). r.next) z)
      on w e false f = not-both (sym h ∙ within-no b k w e _ _ f)

      by : (a : Answer ℤ) → word_at b k ≡ a → (word_at b k ≡ accepted c) × (k + 1 ≡ j)
      by (accepted w) e = on w e (between (negsuc 32766) (pos 32767) w) refl
      by (refused q p) e = not-both (sym h ∙ within-refused b k q p e _ _)

  refused_too : (q p : ℕ) → number b k ≡ refused q p → factor b k ≡ refused q p
  unfolding number factor
  refused_too q p h = by (word_at b k) refl
    where
      on : (w : ℤ) → word_at b k ≡ accepted w → (t : Bool) → between (negsuc 32766) (pos 32767) w ≡ t → factor b k ≡ refused q p
      on w e true f = not-both (sym (within-value b k w e _ _ f) ∙ h)
      on w e false f = beyond w e (within-more 0 32766 w (omega arith) f) ∙ sym (within-no b k w e _ _ f) ∙ h

      by : (a : Answer ℤ) → word_at b k ≡ a → factor b k ≡ refused q p
      by (accepted w) e = on w e (between (negsuc 32766) (pos 32767) w) refl
      by (refused n m) e = after-refusal (within (neg_ℤ (pos most_factor)) (pos most_factor)) _ b k n m
          (within-refused b k n m e (neg_ℤ (pos most_factor)) (pos most_factor)) ∙ sym (within-refused b k n m e _ _) ∙ h

module _ {o e : Words} {c : ℤ} (h : Reads plain number o (Ok c) e) where
  -- x is the number as it is answered
  pub factor-read : (x : ℤ) → x ≡ c → (nat_abs c ≡ 0 → ⊥) → nat_abs c ≤ most_factor → Reads plain factor o (Ok x) e
  factor-read x p n l = let w = word_of _ _ c e.next (read-value h) in record {
    same = rw p (sym (tested _ _ c w.0 true (some_number c n) l ∙ ap (λ j. accepted (record { value = c; next = j })) w.1));
    bytes = h.bytes;
  }

  pub factor-zero : nat_abs c ≡ 0 → Reads plain factor o (Err (WordOutOfRange o.next)) e
  factor-zero n = let w = word_of _ _ c e.next (read-value h) in record {
    same = sym (tested _ _ c w.0 false (no_number c n) (omega arith));
    bytes = h.bytes;
  }

  pub factor-far : most_factor < nat_abs c → Reads plain factor o (Err (WordOutOfRange o.next)) e
  factor-far l = let w = word_of _ _ c e.next (read-value h) in record {
    same = sym (beyond _ _ c w.0 (far 0 c l));
    bytes = h.bytes;
  }

pub factor-refused : {o e : Words} {r : Refusal} → Reads plain number o (Err r) e → Reads plain factor o (Err r) e
factor-refused h = record { same = sym (refused_too _ _ _ _ (read-refusal h)); bytes = h.bytes }
