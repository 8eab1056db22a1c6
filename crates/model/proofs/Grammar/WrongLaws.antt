-- The refusals 1 to 6, exactly: bytes are refused as `Wrong` says and no others are. Then what follows of number and place.
use mathlib.Core.Path.{◌≡◌, refl, sym, ap, ap₂, ◌∙◌, subst, subst₂}
use mathlib.Core.Logic.{◌↔◌, inl, inr}
use mathlib.Core.List.{List}
use Prim.Native.Nat.{ℕ, suc, ◌+◌, ◌*◌, ◌-◌, ◌≤◌, ◌<◌}
use native.Mathlib.Omega.{arith}
use native.Mathlib.Decide.{dec_lt}
use lib.Dec.{leb, leb→le}
use lib.ListN.{length}
use Rattle.model.specs.Answer as Answer
use Rattle.model.specs.Answer.{Answer, accepted, refused}
use Rattle.model.specs.Ticket.{Ticket}
use Rattle.model.specs.Grammar.{Read, Reader, ◌>>=◌, ◌>>◌, done, must_at, nest, steps, end, ticket, decode, ticket_loops, ticket_limits}
use Rattle.model.specs.Roles.{ticket_slots, TicketSized, AllTaken, Stops, Wrong, offends, trailing}
use Rattle.model.proofs.Answers.AnswerLaws.{not-both}
use Rattle.model.proofs.Answers.PassLaws.{bind-pass, bind-stop, require-stop}
use Rattle.model.proofs.Grammar.RoundTripLaws.{end_reads}
use Rattle.model.proofs.Grammar.RoleLaws.{bind_assoc, Ends}
use Rattle.model.proofs.Grammar.FollowLaws.{unended, follows-ticket, bind_done}
use Rattle.model.proofs.Grammar.WalkLaws.{walk-ticket}

-- ---- the end of a ticket

bind-cong : {A B : Type 0} (m : Reader A) (f g : A → Reader B) → ((a : A) (b : List ℕ) (k : ℕ) → f a b k ≡ g a b k) → (b : List ℕ) (k : ℕ)
    → (m >>= f) b k ≡ (m >>= g) b k
unfolding ◌>>=◌ Answer.◌>>=◌
bind-cong {A} m f g e b k = go (m b k)
  where
    go : (x : Answer (Read A)) → Answer.◌>>=◌ x (λ r. f r.value b r.next) ≡ Answer.◌>>=◌ x (λ r. g r.value b r.next)
    go (accepted r) = e r.value b r.next
    go (refused n p) = refl

abbrev finish : Ticket → Reader Ticket
finish K = end >> done K

ticket-parts : (b : List ℕ) (k : ℕ) → (unended >>= finish) b k ≡ ticket b k
unfolding ticket
ticket-parts b k =
    bind_assoc (nest ticket_loops ticket_limits) (λ N. steps (length N.loops) >>= (λ ts. done (record { nest = N; steps = ts }))) finish b k
    ∙ bind-cong (nest ticket_loops ticket_limits) _ (λ N. steps (length N.loops) >>= (λ ts. finish (record { nest = N; steps = ts })))
    (λ N. bind_done (steps (length N.loops)) (λ ts. record { nest = N; steps = ts }) finish) b k

end-stops : {A : Type 0} (r : Reader A) (b : List ℕ) (k : ℕ) → (k - 1) * 2 < length b → (end >> r) b k ≡ refused 2 k
unfolding end must_at ◌>>◌ ◌>>=◌
end-stops r b k h = bind-stop _ (bind-stop _ (require-stop (leb (length b) ((k - 1) * 2)) 2 k
    (λ t. let g = leb→le (length b) ((k - 1) * 2) t in omega arith)))

module _ (b : List ℕ) (K : Ticket) (sized : TicketSized K) where
  abbrev size : ℕ
  size = length (ticket_slots K)

  pub stopped : {n p : ℕ} → Stops b 1 (ticket_slots K) n p → decode b ≡ refused n p
  unfolding decode ◌>>=◌
  stopped {n} {p} s = bind-stop (λ r. accepted r.value) (sym (ticket-parts b 1) ∙ bind-stop (λ r. finish r.value b r.next)
      ((follows-ticket K sized).stops b 1 n p (omega arith) s))

  through : AllTaken b 1 (ticket_slots K) → ticket b 1 ≡ finish K b (1 + size)
  unfolding ◌>>=◌
  through s = sym (ticket-parts b 1) ∙ bind-pass (λ r. finish r.value b r.next) ((follows-ticket K sized).whole b 1 s)

  pub sound-accepted : AllTaken b 1 (ticket_slots K) → length b ≤ size * 2 → decode b ≡ accepted K
  unfolding decode done
  sound-accepted s h = bind-pass (λ r. accepted r.value) (through s ∙ end_reads (done K) b (1 + size) (omega arith))

  pub sound-trailing : AllTaken b 1 (ticket_slots K) → size * 2 < length b → decode b ≡ refused 2 (suc size)
  unfolding decode
  sound-trailing s h = bind-stop (λ r. accepted r.value) (through s ∙ end-stops (done K) b (1 + size) (omega arith)) ∙ ap (refused 2)
      (omega arith)

-- ---- both ways

pub refused-same : {A : Type 0} {n p m q : ℕ} → ◌≡◌ {A = Answer A} (refused n p) (refused m q) → (n ≡ m) × (p ≡ q)
refused-same e = (cc, cc)

pub wrong-decode : (b : List ℕ) {n p : ℕ} → Wrong b n p → decode b ≡ refused n p
wrong-decode b (offends K h s) = stopped b K h s
wrong-decode b (trailing K h s l e f) = sound-trailing b K h s l ∙ sym (ap₂ refused e f)

pub decode-wrong : (b : List ℕ) {n p : ℕ} → decode b ≡ refused n p → Wrong b n p
decode-wrong b {n} {p} e = let w = walk-ticket.from b 1 (omega arith) in ending w.0 w.2.holds (subst (Ends b 1) w.2.slots w.3)
  where
    ending : (K : Ticket) → TicketSized K → Ends b 1 (ticket_slots K) → Wrong b n p
    ending K h (inr s) = let q = refused-same (sym (stopped b K h s.2) ∙ e) in
        offends K h (subst₂ (Stops b 1 (ticket_slots K)) q.0 q.1 s.2)
    ending K h (inl s) = elim (dec_lt (length (ticket_slots K) * 2) (length b)) [
      | yes l ↦ let q = refused-same (sym e ∙ sound-trailing b K h s l) in trailing K h s l q.0 q.1
      | no f ↦ not-both (sym (sound-accepted b K h s (omega arith)) ∙ e)
    ]

pub decode-exact : (b : List ℕ) (n p : ℕ) → (decode b ≡ refused n p) ↔ Wrong b n p
decode-exact b n p = (decode-wrong b, wrong-decode b)
