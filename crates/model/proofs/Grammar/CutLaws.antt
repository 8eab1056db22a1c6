-- The first 1009 bytes decide: those of 504 words, and one that shows whether bytes follow. Words of bytes cut short, then words along slots, then `decode`.
use mathlib.Core.Path.{◌≡◌, refl, sym, ap, ◌∙◌, subst}
use mathlib.Core.Logic.{inl, inr}
use mathlib.Core.List.{List, [], ◌∷◌}
use Prim.Native.Nat.{ℕ, zero, suc, ◌+◌, ◌*◌, ◌-◌, ◌≤◌}
use native.Mathlib.Omega.{arith}
use native.Mathlib.Decide.{dec_lt}
use native.Mathlib.Nat.{zero-add, suc-add}
use lib.ListN.{length, take, drop, length-take}
use lib.Seq.{take-nil}
use Rattle.model.specs.Answer.{accepted}
use Rattle.model.specs.Words.{first_word, word_at}
use Rattle.model.specs.Ticket.{Ticket}
use Rattle.model.specs.Grammar.{decode}
use Rattle.model.specs.Roles.{Role, Slot, ticket_slots, TicketSized, Offends, truncated, bad, Taken, AllTaken, Stops}
use Rattle.model.proofs.Answers.AnswerLaws.{not-both}
use Rattle.model.proofs.Grammar.RoleLaws.{Ends}
use Rattle.model.proofs.Grammar.WalkLaws.{walk-ticket}
use Rattle.model.proofs.Grammar.WrongLaws.{stopped, sound-accepted, sound-trailing}
use Rattle.model.proofs.Grammar.BriefLaws.{Reached, brief-length, brief-ticket}

-- ---- a word of bytes cut short

first-cut : (k n : ℕ) (l : List ℕ) → first_word k (take (suc (suc n)) l) ≡ first_word k l
unfolding first_word
first-cut k n [] = refl
first-cut k n (lo ∷ []) = refl
first-cut k n (lo ∷ hi ∷ l) = refl

drop-take : (i n : ℕ) (l : List ℕ) → drop i (take (i + n) l) ≡ take n (drop i l)
drop-take zero n l = ap (λ m. take m l) (zero-add n)
drop-take (suc i) n [] = ap (λ m. drop (suc i) (take m [])) (suc-add i n) ∙ sym (take-nil n)
drop-take (suc i) n (x ∷ l) = ap (λ m. drop (suc i) (take m (x ∷ l))) (suc-add i n) ∙ drop-take i n l

module _ (b : List ℕ) (m : ℕ) where
  word_cut : (k : ℕ) → 1 ≤ k → k * 2 ≤ m → word_at (take m b) k ≡ word_at b k
  unfolding word_at
  word_cut k h l =
      let e : m ≡ (k - 1) * 2 + suc (suc (m - k * 2)) = omega arith in
      ap (λ n. first_word k (drop ((k - 1) * 2) (take n b))) e
      ∙ ap (first_word k) (drop-take ((k - 1) * 2) (suc (suc (m - k * 2))) b) ∙ first-cut k (m - k * 2) (drop ((k - 1) * 2) b)

  -- ---- along slots, as far as they are read

  taken-cut : (k : ℕ) (s : Slot) → 1 ≤ k → k * 2 ≤ m → Taken b k s → Taken (take m b) k s
  taken-cut k s h l t = record { there = word_cut k h l ∙ t.there; passes = t.passes }

  sound-cut : (k : ℕ) (ss : List Slot) → 1 ≤ k → (k + length ss - 1) * 2 ≤ m → AllTaken b k ss → AllTaken (take m b) k ss
  sound-cut k [] h l s = tt
  sound-cut k (x ∷ ss) h l s = (taken-cut k x h (omega arith) s.0, sound-cut (suc k) ss (omega arith) (omega arith) s.1)

  offends-cut : (k : ℕ) (r : Role) (n p : ℕ) → 1 ≤ k → k * 2 ≤ m → Offends b k r n p → Offends (take m b) k r n p
  offends-cut k r n p h l (truncated e f s) = truncated e f (let t = length-take m b in omega arith)
  offends-cut k r n p h l (bad w e f) = bad w (word_cut k h l ∙ e) f

  stops-cut : (k : ℕ) (ss : List Slot) (n p : ℕ) → 1 ≤ k → ((j : ℕ) (r : Role) → Reached b k ss j r → (k + j) * 2 ≤ m) → Stops b k ss n p
      → Stops (take m b) k ss n p
  stops-cut k [] n p h l s = absurd s
  stops-cut k (x ∷ ss) n p h l (inl o) = inl (offends-cut k x.role n p h (let e = l 0 x.role refl in omega arith) o)
  stops-cut k (x ∷ ss) n p h l (inr s) = inr (
    taken-cut k x h (let e = l 0 x.role refl in omega arith) s.0,
    stops-cut (suc k) ss n p (omega arith) (λ j r e. let q = l (suc j) r (s.0, e) in omega arith) s.1,
  )

-- ---- the whole

pub decode-cut : (b : List ℕ) (m : ℕ) → 1009 ≤ m → decode (take m b) ≡ decode b
decode-cut b m h = let w = walk-ticket.from b 1 (omega arith) in ending w.0 w.2.holds (subst (Ends b 1) w.2.slots w.3)
  where
    ending : (K : Ticket) → TicketSized K → Ends b 1 (ticket_slots K) → decode (take m b) ≡ decode b
    ending K s (inr e) = stopped (take m b) K s
        (stops-cut b m 1 (ticket_slots K) e.0 e.1 (omega arith) (λ j r q. let l = ((brief-ticket K s).within b 1 j r q).0 in omega arith) e.2)
        ∙ sym (stopped b K s e.2)
    ending K s (inl e) =
        let l = brief-length b 1 (ticket_slots K) (brief-ticket K s) e in
        let f = sound-cut b m 1 (ticket_slots K) (omega arith) (omega arith) e in
        let t = length-take m b in
        elim (dec_lt (length (ticket_slots K) * 2) (length b)) [
          | yes g ↦ sound-trailing (take m b) K s f (omega arith) ∙ sym (sound-trailing b K s e g)
          | no g ↦ sound-accepted (take m b) K s f (omega arith) ∙ sym (sound-accepted b K s e (omega arith))
        ]

-- an accepted ticket has at most 504 words
pub accepted-short : (b : List ℕ) {K : Ticket} → decode b ≡ accepted K → length b ≤ 1008
accepted-short b e = let w = walk-ticket.from b 1 (omega arith) in ending w.0 w.2.holds (subst (Ends b 1) w.2.slots w.3)
  where
    ending : (M : Ticket) → TicketSized M → Ends b 1 (ticket_slots M) → length b ≤ 1008
    ending M s (inr f) = not-both (sym e ∙ stopped b M s f.2)
    ending M s (inl f) = let l = brief-length b 1 (ticket_slots M) (brief-ticket M s) f in elim (dec_lt (length (ticket_slots M) * 2) (length b)) [
      | yes g ↦ not-both (sym e ∙ sound-trailing b M s f g)
      | no g ↦ omega arith
    ]
