-- A loop number with a test more: what the first test refuses, and what it lets through. For the loop that a circulation does not move.
use mathlib.Core.Path.{◌≡◌, refl, sym, ap, ap₂, ◌∙◌, subst}
use mathlib.Core.Bool.{Bool, true, false, ◌&&◌, not}
use mathlib.Core.List.{List}
use Prim.Native.Nat.{ℕ}
use borrow.Author.Tests.{eq-eqb, ne_eqb}
use lib.Dec.{T}
use lib.IntN.{ℤ, pos, negsuc, nat_abs}
use Rattle.integers.specs.Sign.{eq_z}
use Rattle.model.specs.Answer as Answer
use Rattle.model.specs.Answer.{Answer, accepted, refused, require}
use Rattle.model.specs.Grammar.{Read, ◌>>=◌, ◌>>◌, done, must_at, between, number, loop_number}
use Rattle.model.proofs.Answers.AnswerLaws.{not-both, accepted-same}
use Rattle.std.specs.Prelude.{Ok, Err}
use Rattle.ticket_refusals.specs.declared.Refusal.{Refusal}
use Rattle.ticket_refusals.specs.declared.Refusal.TheVariants.{LoopOutOfNest}
use Rattle.ticket_words.specs.Reads.{Reads, plain}
use Rattle.ticket_words.specs.declared.Words.{Words}
use Rattle.ticket_words.proofs.ReaderLaws.{read-value, read-refusal, after-value, after-refusal}
use Rattle.ticket_steps.specs.Steps.{other_loop}

-- a loop number by its word and its test
module _ (step : ℕ) (ok : ℤ → Bool) (b : List ℕ) (k : ℕ) where
  number-truncated : (q p : ℕ) → number b k ≡ refused q p → loop_number step ok b k ≡ refused q p
  unfolding loop_number
  number-truncated q p e = after-refusal number _ b k q p e

  judged-word : (w : ℤ) (j : ℕ) → number b k ≡ accepted (record { value = w; next = j })
      → loop_number step ok b k ≡ (must_at (ok w) 6 step >> done (nat_abs w)) b j
  unfolding loop_number
  judged-word w j e = after-value number _ b k w j e

  good-word : (w : ℤ) (j : ℕ) → ok w ≡ true → (must_at (ok w) 6 step >> done (nat_abs w)) b j ≡ accepted (record { value = nat_abs w; next = j })
  unfolding must_at require ◌>>◌ ◌>>=◌ done Answer.◌>>=◌
  good-word w j e = rw e

  bad-word : (w : ℤ) (j : ℕ) → ok w ≡ false → (must_at (ok w) 6 step >> done (nat_abs w)) b j ≡ refused 6 step
  unfolding must_at require ◌>>◌ ◌>>=◌ done Answer.◌>>=◌
  bad-word w j e = rw e

-- where it comes from
data Read-loop (step : ℕ) (ok : ℤ → Bool) (b : List ℕ) (k : ℕ) : Type 0 where
  truncated : (q p : ℕ) → number b k ≡ refused q p → Read-loop step ok b k
  good : (w : ℤ) (j : ℕ) → number b k ≡ accepted (record { value = w; next = j }) → ok w ≡ true → Read-loop step ok b k
  bad : (w : ℤ) (j : ℕ) → number b k ≡ accepted (record { value = w; next = j }) → ok w ≡ false → Read-loop step ok b k

read-loop : (step : ℕ) (ok : ℤ → Bool) (b : List ℕ) (k : ℕ) → Read-loop step ok b k
read-loop step ok b k = by (number b k) refl
  where
    on : (w : ℤ) (j : ℕ) → number b k ≡ accepted (record { value = w; next = j }) → (t : Bool) → ok w ≡ t → Read-loop step ok b k
    on w j e true f = good w j e f
    on w j e false f = bad w j e f

    by : (a : Answer (Read ℤ)) → number b k ≡ a → Read-loop step ok b k
    by (accepted r) e = on r.value r.next e (ok r.value) refl
    by (refused q p) e = truncated q p e

-- a test more: what the first refuses, and what it lets through
module _ (step : ℕ) (f g : ℤ → Bool) (whole : (w : ℤ) → f w ≡ true → w ≡ pos (nat_abs w)) (b : List ℕ) (k : ℕ) where
  abbrev both : ℤ → Bool
  both w = f w && g w

  further-no : (q p : ℕ) → loop_number step f b k ≡ refused q p → loop_number step both b k ≡ refused q p
  further-no q p e = by (read-loop step f b k)
    where
      by : Read-loop step f b k → loop_number step both b k ≡ refused q p
      by (truncated n m h) = number-truncated step both b k n m h ∙ sym (number-truncated step f b k n m h) ∙ e
      by (good w j h t) = not-both (sym (judged-word step f b k w j h ∙ good-word step f b k w j t) ∙ e)
      by (bad w j h t) = judged-word step both b k w j h ∙ bad-word step both b k w j (rw t)
          ∙ sym (judged-word step f b k w j h ∙ bad-word step f b k w j t) ∙ e

  module _ (v j : ℕ) (e : loop_number step f b k ≡ accepted (record { value = v; next = j })) where
    found : (w : ℤ) × (i : ℕ) × (number b k ≡ accepted (record { value = w; next = i })) × (f w ≡ true) × (w ≡ pos v) × (i ≡ j)
    found = by (read-loop step f b k)
      where
        by : Read-loop step f b k
            → (w : ℤ) × (i : ℕ) × (number b k ≡ accepted (record { value = w; next = i })) × (f w ≡ true) × (w ≡ pos v) × (i ≡ j)
        by (truncated n m h) = not-both (sym e ∙ number-truncated step f b k n m h)
        by (good w i h t) = let r = accepted-same (sym (judged-word step f b k w i h ∙ good-word step f b k w i t) ∙ e) in
            (w, i, h, t, whole w t ∙ ap (λ (x : Read ℕ). pos x.value) r, ap (λ (x : Read ℕ). x.next) r)
        by (bad w i h t) = not-both (sym e ∙ judged-word step f b k w i h ∙ bad-word step f b k w i t)

    further_same : g (pos v) ≡ false → loop_number step both b k ≡ refused 6 step
    further_same t = let r = found in judged-word step both b k r.0 r.1 r.2 ∙ bad-word step both b k r.0 r.1 (rw (r.3, r.4, t) refl)

    further-fine : g (pos v) ≡ true → loop_number step both b k ≡ accepted (record { value = v; next = j })
    further-fine t = let r = found in judged-word step both b k r.0 r.1 r.2 ∙ good-word step both b k r.0 r.1 (rw (r.3, r.4, t) refl)
        ∙ ap₂ (λ (x : ℤ) i. accepted (record { value = nat_abs x; next = i })) r.4 r.5

pub between-whole : (m : ℕ) (w : ℤ) → between (pos 1) (pos m) w ≡ true → w ≡ pos (nat_abs w)
unfolding between
between-whole m (pos n) e = refl
between-whole m (negsuc n) e = absurd (subst T (sym e) tt)

-- ---- a loop other than loop a

module _ (step m a : ℕ) {o e : Words} where
  pub other-refused : {r : Refusal} → Reads plain (loop_number step (between (pos 1) (pos m))) o (Err r) e
      → Reads plain (loop_number step (other_loop m a)) o (Err r) e
  other-refused h = record {
    same = sym (further-no step (between (pos 1) (pos m)) (λ w. not (eq_z w (pos a))) (between-whole m) _ _ _ _ (read-refusal h));
    bytes = h.bytes;
  }

  module _ {v : ℕ} (h : Reads plain (loop_number step (between (pos 1) (pos m))) o (Ok v) e) where
    pub other-itself : v ≡ a → Reads plain (loop_number step (other_loop m a)) o (Err (LoopOutOfNest step)) e
    other-itself p = record {
      same = sym (further_same step (between (pos 1) (pos m)) (λ w. not (eq_z w (pos a))) (between-whole m) _ _ v _ (read-value h) (ap not (eq-eqb v a p)));
      bytes = h.bytes;
    }

    pub other-read : (v ≡ a → ⊥) → Reads plain (loop_number step (other_loop m a)) o (Ok v) e
    other-read p = record {
      same = sym (further-fine step (between (pos 1) (pos m)) (λ w. not (eq_z w (pos a))) (between-whole m) _ _ v _ (read-value h) (ap not (ne_eqb v a p)));
      bytes = h.bytes;
    }
