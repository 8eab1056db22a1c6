-- A text handed out into a buffer: refused before there is one, too long for the buffer, or written.
use mathlib.Core.Path.{◌≡◌, refl, sym, ◌∙◌, ap, subst}
use mathlib.Core.Bool.{Bool, true, false, cond}
use mathlib.Core.List.{List, ◌++◌}
use Prim.Native.Nat.{ℕ, ◌≤◌, ◌<◌}
use native.Mathlib.Omega.{arith}
use lib.Dec.{leb}
use lib.ListN.{length, drop}
use borrow.Author.Tests.{leb-true, le-leb, lt-leb}
use Rattle.lists.specs.Parts.{put}
use Rattle.lists.proofs.PartLaws.{put_all}
use Rattle.model.specs.Answer as Model
use Rattle.model.specs.Answer.{accepted, refused, count_in}
use Rattle.model.specs.Entries.{Outcome, hand_out}
use Rattle.ticket_refusals.specs.declared.Refusal.{Refusal}
use Rattle.ticket_refusals.specs.declared.Refusal.TheVariants.{BufferTooShort}
use Rattle.ticket_refusals.specs.Refusals.{refusal, answer_of}
use Rattle.std.specs.Prelude.{Result, Ok, Err}
use Rattle.std.specs.Result.{IsErrAnd}
use Rattle.entry_answers.specs.Answers.{OutcomeIs}

pub refused-before : (m : Model.Answer (List ℕ)) (o : List ℕ) (r : Refusal) → refusal r ≡ m → OutcomeIs (hand_out m o) (Err r) o
unfolding hand_out
refused-before m o r e = subst (λ (x : Model.Answer (List ℕ)). OutcomeIs (hand_out x o) (Err r) o) e (record { answer = refl; memory = refl })

module _ (t o : List ℕ) where
  abbrev outcome : Bool → Outcome
  outcome b = cond b (record { answer = accepted (length t); memory = t ++ drop (length t) o }) (record { answer = refused 14 0; memory = o })

  pub too_short : length o < length t → OutcomeIs (hand_out (accepted t) o) (Err BufferTooShort) o
  unfolding hand_out
  too_short h = subst (λ (b : Bool). OutcomeIs (outcome b) (Err BufferTooShort) o) (sym (lt-leb (length t) (length o) h))
      (record { answer = refl; memory = refl })

  pub written : length t ≤ length o → (m : List ℕ) → m ≡ put o 0 t → OutcomeIs (hand_out (accepted t) o) (Ok (length t)) m
  unfolding hand_out
  written h m e = subst (λ (b : Bool). OutcomeIs (outcome b) (Ok (length t)) m) (sym (le-leb (length t) (length o) h))
      (record { answer = refl; memory = e ∙ put_all o t })

-- ---- the count is within the buffer

count_fits : (m : Model.Answer (List ℕ)) (o : List ℕ) → count_in (hand_out m o).answer ≤ length o
unfolding hand_out count_in
count_fits (refused n p) o = omega arith
count_fits (accepted t) o = go (leb (length t) (length o)) refl
  where
    go : (b : Bool) → b ≡ leb (length t) (length o) → count_in (outcome t o b).answer ≤ length o
    go true e = leb-true (length t) (length o) (sym e)
    go false e = omega arith

pub handed-fits : (m : Model.Answer (List ℕ)) (o e : List ℕ) (n : ℕ) → OutcomeIs (hand_out m o) (Ok n) e → n ≤ length o
unfolding count_in
handed-fits m o e n h = let k : n ≡ count_in (hand_out m o).answer = ap count_in h.answer in omega (arith, count_fits m o)

-- ---- a refusal that a `?` hands on

pub said : (x : Result ℕ Refusal) (r : Refusal) {m : Model.Answer ℕ} → IsErrAnd x (λ e. e ≡ r) → refusal r ≡ m → answer_of x ≡ m
said (Ok n) r h p = elim h [ ]
said (Err e) r h p = ap refusal h ∙ p

pub outcome-on : (x : Result ℕ Refusal) (r : Refusal) {o : Outcome} {m : List ℕ} → IsErrAnd x (λ e. e ≡ r) → OutcomeIs o (Err r) m → OutcomeIs o x m
outcome-on x r h p = record { answer = said x r h p.answer; memory = p.memory }
