-- One word: when it is there, and how its 16 bits decide the ranges that the model states of its signed number.
use mathlib.Core.Path.{◌≡◌, refl, sym, ap, ◌∙◌}
use mathlib.Core.Bool.{Bool, true, false, ◌&&◌}
use mathlib.Core.List.{List, [], ◌∷◌}
use mathlib.Core.Logic.{◌⊎◌, inl, inr, ⊎_elim}
use Prim.Native.Nat.{ℕ, suc, ◌+◌, ◌-◌, ◌*◌, ◌<◌, ◌≤◌}
use native.Mathlib.Omega.{arith}
use native.Mathlib.Numerals.{add-one}
use borrow.Author.Tests.{lt-ltb, le-ltb, le-leb, lt-leb, ltb-true, ltb-false}
use lib.Dec.{leb, ltb}
use lib.IntN.{ℤ, pos, negsuc, nat_abs}
use lib.ListN.{length, get_or, drop, length-drop}
use lib.Seq.{drop-cons}
use Rattle.model.specs.Answer as Answer
use Rattle.model.specs.Answer.{Answer, accepted, refused, require}
use Rattle.model.specs.Words.{signed, first_word, word_at}
use Rattle.model.specs.Grammar.{Read, ◌>>=◌, ◌>>◌, done, word, must, must_at, between, count, within, natural, number, loop_number}
use Rattle.ticket_refusals.specs.Refusals.{refusal}
use Rattle.ticket_words.specs.Reads.{answer, plain}
use Rattle.ticket_words.specs.Ranges.{Ranged}
use Rattle.ticket_refusals.specs.declared.Refusal.{Refusal}
use Rattle.std.specs.Prelude.{Result, Ok, Err}

-- ---- a word is there, or truncated

short : (b : List ℕ) (k : ℕ) → length b ≤ 1 → first_word k b ≡ refused 1 k
unfolding first_word
short [] k h = refl
short (x ∷ []) k h = refl
short (x ∷ y ∷ b) k h = absurd (omega arith)

module _ (b : List ℕ) (k : ℕ) where
  pub word-there : (k - 1) * 2 + 1 < length b → word_at b k ≡ accepted (signed (get_or b ((k - 1) * 2) 0 + 256 * get_or b ((k - 1) * 2 + 1) 0))
  unfolding word_at first_word
  word-there h =
      let j = (k - 1) * 2 in
      rw (drop-cons b j 0 (omega arith) ∙ ap (λ l. get_or b j 0 ∷ l) (ap (λ n. drop n b) (sym (add-one j)) ∙ drop-cons b (j + 1) 0 h))

  pub word-truncated : length b ≤ (k - 1) * 2 + 1 → word_at b k ≡ refused 1 k
  unfolding word_at
  word-truncated h = short (drop ((k - 1) * 2) b) k (omega (arith, length-drop ((k - 1) * 2) b))

-- ---- ranges by the bits of a word

signed_low : (v : ℕ) → v < 32768 → signed v ≡ pos v
unfolding signed
signed_low v h = rw (lt-ltb v 32768 h)

signed_high : (v : ℕ) → 32768 ≤ v → signed v ≡ negsuc (65535 - v)
unfolding signed
signed_high v h = rw (le-ltb v 32768 h)

low_or_high : (v : ℕ) → (v < 32768) ⊎ (32768 ≤ v)
low_or_high v = by (ltb v 32768) refl
  where
    by : (t : Bool) → ltb v 32768 ≡ t → (v < 32768) ⊎ (32768 ≤ v)
    by true e = inl (ltb-true v 32768 e)
    by false e = inr (ltb-false v 32768 e)

and-false : (t : Bool) → t && false ≡ false
and-false true = refl
and-false false = refl

module _ (v lo hi : ℕ) where
  pub in-range : lo ≤ v → v ≤ hi → hi < 32768 → between (pos lo) (pos hi) (signed v) ≡ true
  unfolding between
  in-range p q h = rw (signed_low v (omega arith), le-leb lo v p, le-leb v hi q)

  pub below-range : v < lo → hi < 32768 → between (pos lo) (pos hi) (signed v) ≡ false
  unfolding between
  below-range p h =
      ⊎_elim
      (λ (q : v < 32768). rw (signed_low v q, lt-leb lo v p))
      (λ (q : 32768 ≤ v). rw (signed_high v q))
      (low_or_high v)

  pub above-range : hi < v → between (pos lo) (pos hi) (signed v) ≡ false
  unfolding between
  above-range p =
      ⊎_elim
      (λ (q : v < 32768). rw (signed_low v q, lt-leb v hi p) (and-false (leb lo v)))
      (λ (q : 32768 ≤ v). rw (signed_high v q))
      (low_or_high v)

pub low_value : (v : ℕ) → v < 32768 → nat_abs (signed v) ≡ v
low_value v h = rw (signed_low v h)

pub number-bad : (v : ℕ) → v ≡ 32768 → between (negsuc 32766) (pos 32767) (signed v) ≡ false
unfolding between signed
number-bad v e = rw e

pub number_fits : (v : ℕ) → v < 65536 → (v ≡ 32768 → ⊥) → between (negsuc 32766) (pos 32767) (signed v) ≡ true
unfolding between
number_fits v h n =
    ⊎_elim
    (λ (q : v < 32768). rw (signed_low v q, le-leb v 32767 (omega arith)))
    (λ (q : 32768 ≤ v). rw (signed_high v q, le-leb (65535 - v) 32766 (omega arith)))
    (low_or_high v)

-- ---- the readers of one word, from the word

module _ (b : List ℕ) (k : ℕ) (w : ℤ) (e : word_at b k ≡ accepted w) where
  pub count-value : (lo hi v : ℕ) → nat_abs w ≡ v → between (pos lo) (pos hi) w ≡ true
      → count lo hi b k ≡ accepted (record { value = v; next = k + 1 })
  unfolding count ◌>>=◌ ◌>>◌ word must done Answer.◌>>=◌ Answer.◌>>◌ require
  count-value lo hi v p t = rw (e, t, p, add-one)

  pub count_no : (lo hi : ℕ) → between (pos lo) (pos hi) w ≡ false → count lo hi b k ≡ refused 3 k
  unfolding count ◌>>=◌ ◌>>◌ word must done Answer.◌>>=◌ Answer.◌>>◌ require
  count_no lo hi t = let p : suc k - 1 ≡ k = omega arith in rw (e, t, p)

  pub natural-value : (lo hi v : ℕ) → nat_abs w ≡ v → between (pos lo) (pos hi) w ≡ true
      → natural lo hi b k ≡ accepted (record { value = v; next = k + 1 })
  unfolding natural within ◌>>=◌ ◌>>◌ word must done Answer.◌>>=◌ Answer.◌>>◌ require
  natural-value lo hi v p t = rw (e, t, p, add-one)

  pub natural-no : (lo hi : ℕ) → between (pos lo) (pos hi) w ≡ false → natural lo hi b k ≡ refused 4 k
  unfolding natural within ◌>>=◌ ◌>>◌ word must done Answer.◌>>=◌ Answer.◌>>◌ require
  natural-no lo hi t = let p : suc k - 1 ≡ k = omega arith in rw (e, t, p)

  pub within-value : (lo hi : ℤ) → between lo hi w ≡ true → within lo hi b k ≡ accepted (record { value = w; next = k + 1 })
  unfolding within ◌>>=◌ ◌>>◌ word must done Answer.◌>>=◌ Answer.◌>>◌ require
  within-value lo hi t = rw (e, t, add-one)

  pub within-no : (lo hi : ℤ) → between lo hi w ≡ false → within lo hi b k ≡ refused 4 k
  unfolding within ◌>>=◌ ◌>>◌ word must done Answer.◌>>=◌ Answer.◌>>◌ require
  within-no lo hi t = let p : suc k - 1 ≡ k = omega arith in rw (e, t, p)

  pub loop-value : (step : ℕ) (ok : ℤ → Bool) (v : ℕ) → nat_abs w ≡ v → between (negsuc 32766) (pos 32767) w ≡ true → ok w ≡ true
      → loop_number step ok b k ≡ accepted (record { value = v; next = k + 1 })
  unfolding loop_number number ◌>>=◌ ◌>>◌ must_at done Answer.◌>>=◌ Answer.◌>>◌ require
  loop-value step ok v p t u = rw (within-value (negsuc 32766) (pos 32767) t, u, p)

  pub loop-no : (step : ℕ) (ok : ℤ → Bool) → between (negsuc 32766) (pos 32767) w ≡ true → ok w ≡ false → loop_number step ok b k ≡ refused 6 step
  unfolding loop_number number ◌>>=◌ ◌>>◌ must_at done Answer.◌>>=◌ Answer.◌>>◌ require
  loop-no step ok t u = rw (within-value (negsuc 32766) (pos 32767) t, u)

  pub loop-bad : (step : ℕ) (ok : ℤ → Bool) → between (negsuc 32766) (pos 32767) w ≡ false → loop_number step ok b k ≡ refused 4 k
  unfolding loop_number number ◌>>=◌ Answer.◌>>=◌
  loop-bad step ok t = rw (within-no (negsuc 32766) (pos 32767) t)

-- a reader that begins with a word that is refused
module _ (b : List ℕ) (k n p : ℕ) (e : word_at b k ≡ refused n p) where
  pub count-refused : (lo hi : ℕ) → count lo hi b k ≡ refused n p
  unfolding count ◌>>=◌ word Answer.◌>>=◌
  count-refused lo hi = rw e

  pub within-refused : (lo hi : ℤ) → within lo hi b k ≡ refused n p
  unfolding within ◌>>=◌ word Answer.◌>>=◌
  within-refused lo hi = rw e

  pub natural-refused : (lo hi : ℕ) → natural lo hi b k ≡ refused n p
  unfolding natural ◌>>=◌ Answer.◌>>=◌
  natural-refused lo hi = rw (within-refused (pos lo) (pos hi))

  pub loop-refused : (step : ℕ) (ok : ℤ → Bool) → loop_number step ok b k ≡ refused n p
  unfolding loop_number number ◌>>=◌ Answer.◌>>=◌
  loop-refused step ok = rw (within-refused (negsuc 32766) (pos 32767))

-- ---- a number by the bits of its word

-- m answers what `in_range` does
pub ranged-read : (v : ℕ) (outside : Refusal) (lo hi : ℕ) {m : Answer (Read ℕ)} {k : ℕ}
    → ((n : ℕ) → nat_abs (signed v) ≡ n → between (pos lo) (pos hi) (signed v) ≡ true → m ≡ accepted (record { value = n; next = k }))
    → (between (pos lo) (pos hi) (signed v) ≡ false → m ≡ refusal outside)
    → (r : Result ℕ Refusal) → Ranged v lo hi outside r → answer plain r k ≡ m
ranged-read v outside lo hi inside beyond (Ok n) t = sym (inside n (sym t.0) t.3)
ranged-read v outside lo hi inside beyond (Err r) t = ap refusal t.0 ∙ sym (beyond t.1)
