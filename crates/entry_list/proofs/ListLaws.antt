-- The listing of an admitted nest handed out; of any nest, refusal 9 found or passed; of a decoded ticket: the model's `list_of`.
use mathlib.Core.Path.{◌≡◌, refl, sym, ◌∙◌, ap, subst}
use mathlib.Core.Bool.{Bool, true, false, cond}
use mathlib.Core.List.{List, [], ◌∷◌, ◌++◌, flat_map}
use Prim.Native.Nat.{ℕ, ◌≤◌, ◌<◌}
use native.Mathlib.Omega.{arith}
use lib.Dec.{leb}
use lib.IntN.{ℤ}
use lib.ListN.{length, length-append}
use borrow.Author.Tests.{leb-true, leb-false}
use Rattle.lists.specs.Parts.{put}
use Rattle.model.specs.Answer as Model
use Rattle.model.specs.Answer.{accepted, refused, ◌>>◌, ◌>>=◌}
use Rattle.model.specs.Ticket.{Nest, Ticket}
use Rattle.model.specs.Points.{iterations}
use Rattle.model.specs.Bounds.{admitted}
use Rattle.model.specs.Judge.{admit, admit_of}
use Rattle.model.specs.Listing.{decimal, head_text, line_text, lines_of, listing}
use Rattle.model.specs.Entries.{Outcome, hand_out, list, list_of}
use Rattle.ticket_refusals.specs.declared.Refusal.{Refusal}
use Rattle.ticket_refusals.specs.declared.Refusal.TheVariants.{BufferTooShort}
use Rattle.std.specs.Prelude.{Result, Ok, Err, Option, Some, None}
use Rattle.ticket_steps.specs.declared.Steps.{Steps}
use Rattle.ticket_decoding.specs.declared.Decoded.{Decoded}
use Rattle.ticket_decoding.specs.Ticket.{ticket_on, ticket_of, Decodes}
use Rattle.nest_flat.specs.FlatNests.{FlatNest, flat_nest, nest_of}
use Rattle.dependence_listing_text.specs.Text.{text, Written}
use Rattle.dependence_marks.proofs.MarkLaws.{listing-is}
use Rattle.nest_admission.specs.Admission.{passed}
use Rattle.nest_admission.proofs.AdmissionLaws.{few-points}
use Rattle.ticket_admission.specs.CountedTickets.{Counts}
use Rattle.entry_answers.specs.Answers.{OutcomeIs}
use Rattle.ticket_admission.proofs.AdmitLaws.{not-counted}
use Rattle.entry_answers.proofs.AnswerLaws.{refused-before, too_short, written, handed-fits}
use Rattle.entry_list.specs.Listable.{Listable, FoundIn, list_nest}

-- ---- a text: no bytes are written where the buffer is short, and only there

module _ (t o e : List ℕ) (r : Option ℕ) (w : Written t o e r) where
  -- on the test's value
  counted : (b : Bool) → leb (length t) (length o) ≡ b → r ≡ cond b (Some (length t)) None
  counted b g = w.count ∙ ap (λ (x : Bool). cond x (Some (length t)) None) g

  left : (b : Bool) → leb (length t) (length o) ≡ b → e ≡ cond b (put o 0 t) o
  left b g = w.bytes ∙ ap (λ (x : Bool). cond x (put o 0 t) o) g

  pub no_bytes : r ≡ None → OutcomeIs (hand_out (accepted t) o) (Err BufferTooShort) e
  no_bytes z = go (leb (length t) (length o)) refl
    where
      go : (b : Bool) → leb (length t) (length o) ≡ b → OutcomeIs (hand_out (accepted t) o) (Err BufferTooShort) e
      go true g = let c : r ≡ Some (length t) = counted true g in cc
      go false g = subst (OutcomeIs (hand_out (accepted t) o) (Err BufferTooShort)) (sym (left false g))
          (too_short t o (leb-false (length t) (length o) g))

  pub all-bytes : (k : ℕ) → r ≡ Some k → OutcomeIs (hand_out (accepted t) o) (Ok k) e
  all-bytes k z = go (leb (length t) (length o)) refl
    where
      go : (b : Bool) → leb (length t) (length o) ≡ b → OutcomeIs (hand_out (accepted t) o) (Ok k) e
      go true g = let c : r ≡ Some (length t) = counted true g in let q : length t ≡ k = cc in
          subst (λ (n : ℕ). OutcomeIs (hand_out (accepted t) o) (Ok n) e) q
          (written t o (leb-true (length t) (length o) g) e (left true g))
      go false g = let c : r ≡ None = counted false g in cc

-- ---- the listing of an admitted nest

-- no listing is empty: there is the line of its counts
pub never-empty : (N : Nest) → 0 < length (listing N)
unfolding listing head_text
never-empty N =
    let a = decimal (length N.loops) in
    let b = decimal (length (iterations N.loops)) ++ (32 ∷ (decimal (length (lines_of N)) ++ (10 ∷ []))) in
    let h = length-append (a ++ (32 ∷ b)) (flat_map line_text (lines_of N)) in
    let g = length-append a (32 ∷ b) in omega arith

module _ (P : FlatNest) (n : ℕ) (marks : List Bool) (h : Listable P n marks) (o e : List ℕ) (r : Option ℕ)
    (w : Written (text marks P.statements P.depth n) o e r) where
  whole : Written (listing (nest_of P)) o e r
  whole = subst (λ (t : List ℕ). Written t o e r) (listing-is P n marks h.count h.lines) w

  pub short-buffer : r ≡ None → OutcomeIs (hand_out (accepted (listing (nest_of P))) o) (Err BufferTooShort) e
  short-buffer = no_bytes (listing (nest_of P)) o e r whole

  pub all-written : (k : ℕ) → r ≡ Some k → OutcomeIs (hand_out (accepted (listing (nest_of P))) o) (Ok k) e
  all-written = all-bytes (listing (nest_of P)) o e r whole

-- ---- a nest of which refusal 9 was found, or passed

module _ (P : FlatNest) (n : ℕ) (s : Result (Unit {0}) Refusal) (marks : List Bool) (h : FoundIn P n s marks) where
  abbrev listed : Model.Answer (Unit {0}) → Model.Answer (List ℕ)
  listed m = m >> accepted (listing (nest_of P))

  pub found-refused : (r : Refusal) → s ≡ Err r → (o : List ℕ) → OutcomeIs (list_nest (nest_of P) o) (Err r) o
  unfolding list_nest ◌>>◌ ◌>>=◌
  found-refused r e o = refused-before (listed (admitted (nest_of P))) o r (ap listed (sym (ap passed e) ∙ h.finds.admits))

  module _ (e : s ≡ Ok tt) where
    pub listable : Listable P n marks
    listable = let k = few-points P n h.points-counted in record { lines = h.finds.lines e; count = h.points-counted.count; few = omega arith }

    pub handed : (o o' : List ℕ) (a : Result ℕ Refusal) → OutcomeIs (hand_out (accepted (listing (nest_of P))) o) a o' → OutcomeIs (list_nest (nest_of P) o) a o'
    unfolding list_nest ◌>>◌ ◌>>=◌
    handed o o' a = subst (λ (x : Model.Answer (List ℕ)). OutcomeIs (hand_out x o) a o') (ap listed (sym (ap passed e) ∙ h.finds.admits))

-- ---- a decoded ticket

-- a ticket's listing is that of its nest
of-nest : (P : FlatNest) (S : Steps) (o : List ℕ) → list_nest (nest_of P) o ≡ list_of (accepted (ticket_on P S)) o
unfolding list_nest list_of admit_of ticket_on ◌>>◌ ◌>>=◌
of-nest P S o = ap (λ (x : Model.Answer (List ℕ)). hand_out x o) (go (admitted (nest_of P)))
  where
    go : (m : Model.Answer (Unit {0}))
        → (m >> accepted (listing (nest_of P))) ≡ ((m >> accepted (ticket_on P S)) >>= (λ T. accepted (listing T.nest)))
    go (accepted u) = refl
    go (refused n p) = refl

module _ (read : Result Decoded Refusal) (l w : List ℤ) (o : List ℕ) where
  pub not_read : (r : Refusal) → read ≡ Err r → OutcomeIs (list_of (ticket_of read l w) o) (Err r) o
  unfolding list_of admit_of ◌>>=◌ ◌>>◌
  not_read r e =
      refused-before (admit_of (ticket_of read l w) >>= (λ T. accepted (listing T.nest))) o r
      (sym (ap (λ (x : Result Decoded Refusal). admit_of (ticket_of x l w) >>= (λ T. accepted (listing T.nest))) e))

  pub not_listed : (r : Refusal) → Counts read l w (Err r) → OutcomeIs (list_of (ticket_of read l w) o) (Err r) o
  unfolding list_of ◌>>=◌
  not_listed r h =
      refused-before (admit_of (ticket_of read l w) >>= (λ T. accepted (listing T.nest))) o r
      (ap (◌>>= (λ (T : Ticket). accepted (listing T.nest))) (sym (not-counted read l w r h)))

  pub listed-whole : (d : Decoded) → read ≡ Ok d → (o' : List ℕ) (a : Result ℕ Refusal)
      → OutcomeIs (list_nest (nest_of (flat_nest d.header l w)) o) a o' → OutcomeIs (list_of (ticket_of read l w) o) a o'
  listed-whole d e o' a = subst (λ (x : Outcome). OutcomeIs x a o')
      (of-nest (flat_nest d.header l w) d.steps o ∙ ap (λ (x : Result Decoded Refusal). list_of (ticket_of x l w) o) (sym e))

-- of the bytes that were decoded
pub of-bytes : (m : Model.Answer Ticket) (d : Result Decoded Refusal) (l w : List ℤ) → Decodes m d l w → (o o' : List ℕ) (a : Result ℕ Refusal)
    → OutcomeIs (list_of (ticket_of d l w) o) a o' → OutcomeIs (list_of m o) a o'
of-bytes m d l w h o o' a = subst (λ (x : Model.Answer Ticket). OutcomeIs (list_of x o) a o') h.same

-- ---- for those who read what was written

pub listed-fits : (b o e : List ℕ) (a : Result ℕ Refusal) (n : ℕ) → OutcomeIs (list b o) a e → a ≡ Ok n → n ≤ length o
unfolding list_of
listed-fits b o e a n h z = handed-fits (admit b >>= (λ T. accepted (listing T.nest))) o e n (subst (λ (x : Result ℕ Refusal). OutcomeIs (list b o) x e) z h)
