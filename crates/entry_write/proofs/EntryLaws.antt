-- The verdict and the encoder together are the model's `write`.
use mathlib.Core.Path.{◌≡◌, refl, sym, ◌∙◌, ap, subst}
use mathlib.Core.List.{List}
use Prim.Native.Nat.{ℕ}
use lib.IntN.{ℤ}
use Rattle.std.specs.Prelude.{Result, Ok, Err}
use Rattle.lists.proofs.PartLaws.{put_all}
use Rattle.model.specs.Answer.{Answer, accepted, ◌>>=◌}
use Rattle.model.specs.Ticket as Model
use Rattle.model.specs.Ticket.{Nest}
use Rattle.model.specs.Judge.{Judged}
use Rattle.model.specs.Grammar.{decode}
use Rattle.model.specs.Encode.{encode}
use Rattle.model.specs.Entries.{Outcome, hand_out, write, write_of}
use Rattle.ticket_refusals.specs.declared.Refusal.{Refusal}
use Rattle.ticket_refusals.specs.declared.Refusal.TheVariants.{BufferTooShort}
use Rattle.ticket_refusals.specs.Refusals.{refusal}
use Rattle.nest_flat.specs.FlatNests.{flat_nest, nest_of}
use Rattle.ticket_encoding.specs.Encodable.{FlatNestEncodable}
use Rattle.ticket_encoding.specs.Encoding.{Encodes}
use Rattle.ticket_encoding.specs.declared.TooShort.{TooShort}
use Rattle.step_judgement.specs.Judgement.{answer_with}
use Rattle.entry_answers.specs.Answers.{OutcomeIs}
use Rattle.entry_answers.proofs.AnswerLaws.{refused-before, too_short, written}
use Rattle.ticket_judgement.specs.declared.Decided.{Decided}
use Rattle.ticket_judgement.specs.Verdicts.{judged_with, Decides}

module _ (b : List ℕ) (l w : List ℤ) (o : List ℕ) where
  abbrev bytes : Model.Ticket → Result Decided Refusal → Answer (List ℕ)
  bytes t x = answer_with (judged_with t l w) x >>= (λ (j : Judged). accepted (encode j.new))

  whole : (x : Result Decided Refusal) (h : Decides (decode b) x l w) → hand_out (bytes h.ticket x) o ≡ write b o
  unfolding write_of
  whole x h = ap (λ y. hand_out (y >>= (λ (j : Judged). accepted (encode j.new))) o) h.same

  pub write-refused : (r : Refusal) → Decides (decode b) (Err r) l w → OutcomeIs (write b o) (Err r) o
  unfolding ◌>>=◌
  write-refused r h = subst (λ (x : Outcome). OutcomeIs x (Err r) o) (whole (Err r) h) (refused-before (refusal r) o r refl)

  module _ (d : Decided) (h : Decides (decode b) (Ok d) l w) where
    abbrev new : Nest
    new = nest_of (flat_nest d.header l w)

    pub encodable : FlatNestEncodable (flat_nest d.header l w)
    encodable = let n = h.known.new in record { flat-nest = n.flat-nest; ranges = n.ranges; formed = n.formed }

    accepted-out : hand_out (accepted (encode new)) o ≡ write b o
    unfolding ◌>>=◌
    accepted-out = whole (Ok d) h

    module _ (e : List ℕ) (r : Result ℕ TooShort) (g : Encodes new o e r) where
      pub write-complete : (n : ℕ) → r ≡ Ok n → OutcomeIs (write b o) (Ok n) e
      write-complete n q = subst (λ (x : Outcome). OutcomeIs x (Ok n) e) accepted-out (fits (subst (Encodes new o e) q g))
        where
          fits : Encodes new o e (Ok n) → OutcomeIs (hand_out (accepted (encode new)) o) (Ok n) e
          fits f = subst (λ (k : ℕ). OutcomeIs (hand_out (accepted (encode new)) o) (Ok k) e) (sym f.1)
              (written (encode new) o f.2 e (f.0 ∙ sym (put_all o (encode new))))

      pub write-short : (t : TooShort) → r ≡ Err t → OutcomeIs (write b o) (Err BufferTooShort) e
      write-short t q = subst (λ (x : Outcome). OutcomeIs x (Err BufferTooShort) e) accepted-out (short (subst (Encodes new o e) q g))
        where
          short : Encodes new o e (Err t) → OutcomeIs (hand_out (accepted (encode new)) o) (Err BufferTooShort) e
          short f = subst (OutcomeIs (hand_out (accepted (encode new)) o) (Err BufferTooShort)) (sym f.0) (too_short (encode new) o f.2)
