-- What a reader answers.
use Rattle.std.specs.Prelude.{◌≡◌, ℕ, ◌+◌, ℤ, Result, Ok, Err, IfOk}
use Rattle.model.specs.Answer.{Answer, accepted}
use Rattle.model.specs.Words.{signed, word_at}
use Rattle.model.specs.Grammar.{Read, Reader}
use Rattle.ticket_refusals.specs.Refusals.{refusal}
use Rattle.ticket_refusals.specs.declared.Refusal.{Refusal}
use Rattle.ticket_words.specs.declared.Words.{Words}

-- ---- a word as its bits

abbrev pub bits_answer : Result ℕ Refusal → Answer ℤ
bits_answer (Ok v) = accepted (signed v)
bits_answer (Err r) = refusal r

-- the next of the words o answers r, and leaves the words e
pub record ReadsBits (o : Words) (r : Result ℕ Refusal) (e : Words) : Type 0 where
  pub same : bits_answer r ≡ word_at o.bytes.now o.next
  pub next : IfOk r (λ v. e.next ≡ o.next + 1)
  pub bytes : e.bytes.now ≡ o.bytes.now

-- ---- any value

abbrev pub plain : {A : Type 0} → A → A
plain a = a

-- a value, seen by `view`, with the number of the word after it; or the refusal
abbrev pub answer : {T A : Type 0} → (T → A) → Result T Refusal → ℕ → Answer (Read A)
answer view (Ok v) k = accepted (record { value = view v; next = k })
answer view (Err r) k = refusal r

-- the model's reader m on the words o answers r, and leaves the words e
pub record Reads {T A : Type 0} (view : T → A) (m : Reader A) (o : Words) (r : Result T Refusal) (e : Words) : Type 0 where
  pub same : answer view r e.next ≡ m o.bytes.now o.next
  pub bytes : e.bytes.now ≡ o.bytes.now
