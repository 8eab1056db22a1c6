-- The grammar and the words of tickets are each other's inverse: the bytes of a ticket in its ranges decode to it, bytes that decode to a ticket are
-- those of its words, and so two tickets' bytes differ where the tickets do. In order: steps, the ticket, bytes back from words.
use mathlib.Core.Path.{◌≡◌, sym, ap, ap₂, ◌∙◌}
use mathlib.Core.Logic.{◌↔◌}
use mathlib.Core.Bool.{Bool, not, ◌&&◌}
use mathlib.Core.List.{List, [], ◌∷◌, ◌++◌, flat_map, append-nil}
use Prim.Native.Nat.{ℕ, suc, ◌+◌, ◌*◌, ◌-◌, ◌≤◌, ◌<◌, zero}
use native.Mathlib.Omega.{arith}
use lib.Dec.{T, eqb, ltb, le→leb, lt→ltb, eqb_refl, eqb→eq, not_T}
use lib.IntN.{ℤ, pos, negsuc, neg_ℤ, nat_abs}
use lib.Signed.{lt_z, le_z}
use lib.ListN.{length, drop, length-append}
use lib.Seq.{drop-length}
use Rattle.lists.specs.Membership.{All}
use Rattle.lists.proofs.MembershipLaws.{all_nil, all_cons, all_append}
use Rattle.lists.proofs.TestLaws.{and_intro}
use Rattle.integers.specs.Sign.{eq_z}
use Rattle.model.specs.Answer as Answer
use Rattle.model.specs.Answer.{accepted}
use Rattle.model.specs.Words.{bytes_of}
use Rattle.model.specs.Ticket.{Step, exchange, reversal, skew, section, circulation, Ticket}
use Rattle.model.specs.Grammar.{◌>>=◌, natural, between, loop_number, exchange_step, reversal_step, skew_step, section_step, circulation_step}
use Rattle.model.specs.Grammar.{most_factor}
use Rattle.model.specs.Grammar.{step_kinds, step_of, depth_after, steps_from, steps, nest, done, ticket, decode}
use Rattle.model.specs.Encode.{counted, kind_of, arguments, step_words, ticket_words}
use Rattle.model.specs.Shape.{WellFormed}
use Rattle.model.specs.Ranges.{InRange, Small, StepThere, StepsThere, TicketRanges}
use Rattle.model.proofs.Grammar.WordLaws.{sections-then, Byte, spelled-bytes, length-bytes, spells-left, spells-right, nest_sections, Spells}
use Rattle.model.proofs.Grammar.ReaderLaws.{one}
use Rattle.model.proofs.Grammar.StepReading.{depth-there}
use Rattle.model.proofs.Grammar.GrammarLaws.{decoded, decode-ranges, decode-formed}
use Rattle.model.proofs.Grammar.YieldLaws.{Yields, yields-value, yields-done, yields-bind, yields-last, yields-must, yields-must_at}
use Rattle.model.proofs.Grammar.YieldLaws.{yields_within, yields-natural, yields-number, yields-counted, natural-between, bind-reads}
use Rattle.model.proofs.Grammar.NestYields.{yields-nest}
use Rattle.model.proofs.Grammar.RoundTripLaws.{nest-small, bytes-words, end_reads}

-- ---- steps

yields-loop_number : (k : ℕ) (ok : ℤ → Bool) (n : ℕ) → n ≤ 32767 → T (ok (pos n)) → Yields (loop_number k ok) (one n) n
unfolding loop_number
yields-loop_number k ok n h t = yields-bind _ (yields-number (pos n) h) (yields-must_at (ok (pos n)) 6 k t (yields-done n))

yields-nought : {A : Type 0} (a : A) → Yields (natural 0 0 >>= (λ _. done a)) (one 0) a
yields-nought a = let r : InRange 0 0 0 = record { low = omega arith; high = omega arith } in yields-last (λ _. a) (yields-natural r)

less_one : (a : ℕ) → suc a - 1 ≡ a
less_one a = omega arith

factor-word : (c : ℤ) → InRange 1 most_factor (nat_abs c) → T (between (neg_ℤ (pos most_factor)) (pos most_factor) c) × T (not (eq_z c (pos 0)))
unfolding between
factor-word (pos zero) r = absurd (let l = r.low in omega arith)
factor-word (pos (suc c)) r = (le→leb (suc c) most_factor r.high, not_T (eqb (suc c) 0) (λ t. let e = eqb→eq (suc c) 0 t in absurd (omega arith)))
factor-word (negsuc c) r = let h = r.high in (
  and_intro (le_z (neg_ℤ (pos most_factor)) (negsuc c)) (le_z (negsuc c) (pos most_factor))
      (le→leb c (most_factor - 1) (omega arith)) tt,
  tt,
)

module _ (k m : ℕ) (few : m ≤ 6) where
  -- the word of a loop that is there, with its rule
  yields-loop : (ok : ℤ → Bool) (a : ℕ) → a < m → T (ok (pos (suc a)))
      → Yields (loop_number k (λ w. between (pos 1) (pos m) w && ok w)) (one (suc a)) (suc a)
  yields-loop ok a h t = yields-loop_number k (λ w. between (pos 1) (pos m) w && ok w) (suc a) (omega arith)
      (and_intro (between (pos 1) (pos m) (pos (suc a))) (ok (pos (suc a))) (natural-between 1 m (suc a) (record { low = omega arith; high = h })) t)

  yields-outer : (a : ℕ) → a < m → Yields (loop_number k (between (pos 1) (pos m))) (one (suc a)) (suc a)
  yields-outer a h = yields-loop_number k (between (pos 1) (pos m)) (suc a) (omega arith)
      (natural-between 1 m (suc a) (record { low = omega arith; high = h }))

  pub yields-step : (t : Step) → StepThere m t → Yields (step_of (kind_of t) k m) (arguments t) t
  unfolding step_of exchange_step reversal_step skew_step section_step circulation_step
  yields-step (exchange a) h = yields-value (ap exchange (less_one a)) (yields-bind _ (yields-outer a (omega arith))
      (yields-bind _ (yields-loop (λ w. eq_z w (pos (suc (suc a)))) (suc a) h (eqb_refl (suc (suc a)))) (yields-nought (exchange (suc a - 1)))))
  yields-step (reversal a) h = yields-value (ap reversal (less_one a))
      (yields-bind _ (yields-outer a h) (yields-bind _ (yields-natural (record { low = omega arith; high = omega arith }))
      (yields-nought (reversal (suc a - 1)))))
  yields-step (skew a d c) h = let r = factor-word c h.1 in
      yields-value (ap₂ (λ i j. skew i j c) (less_one a) (inner a d)) (yields-bind _ (yields-outer a (let z = h.0 in omega arith))
      (yields-bind _ (yields-loop (λ w. lt_z (pos (suc a)) w) (suc (a + d)) h.0 (lt→ltb (suc a) (suc (suc (a + d))) (omega arith)))
      (yields-bind _ (yields_within (neg_ℤ (pos most_factor)) (pos most_factor) c r.0)
      (yields-must (not (eq_z c (pos 0))) 4 r.1 (yields-done (skew (suc a - 1) (suc (suc (a + d)) - suc a - 1) c))))))
    where
      inner : (a d : ℕ) → suc (suc (a + d)) - suc a - 1 ≡ d
      inner a d = omega arith
  yields-step (section a w) h = yields-value (ap (λ i. section i w) (less_one a))
      (yields-bind _ (yields-loop (λ _. ltb m 6) a h.0 (lt→ltb m 6 h.1))
      (yields-bind _ (yields-natural h.2) (yields-nought (section (suc a - 1) w))))
  yields-step (circulation a b) h = yields-value (ap₂ circulation (less_one a) (less_one b)) (yields-bind _ (yields-outer a h.0)
      (yields-bind _ (yields-loop (λ w. not (eq_z w (pos (suc a)))) b h.1
      (not_T (eqb (suc b) (suc a)) (λ t. h.2 (apart a b (eqb→eq (suc b) (suc a) t))))) (yields-nought (circulation (suc a - 1) (suc b - 1)))))
    where
      apart : (a b : ℕ) → suc b ≡ suc a → a ≡ b
      apart a b e = omega arith

kind-range : (t : Step) → InRange 1 step_kinds (kind_of t)
kind-range (exchange a) = record { low = omega arith; high = omega arith }
kind-range (reversal a) = record { low = omega arith; high = omega arith }
kind-range (skew a d c) = record { low = omega arith; high = omega arith }
kind-range (section a w) = record { low = omega arith; high = omega arith }
kind-range (circulation a b) = record { low = omega arith; high = omega arith }

yields-steps_from : (k m : ℕ) (ts : List Step) → InRange 1 6 m → StepsThere m ts → Yields (steps_from k m (length ts)) (flat_map step_words ts) ts
unfolding steps_from flat_map
yields-steps_from k m [] r h = yields-done []
yields-steps_from k m (t ∷ ts) r h = yields-bind _ (yields-natural (kind-range t)) (yields-bind _ (yields-step k m r.high t h.0)
    (yields-last (t ∷◌) (yields-steps_from (suc k) (depth_after t m) ts (depth-there t m r h.0) h.1)))

yields-steps : (m : ℕ) (ts : List Step) → InRange 1 6 m → length ts ≤ 8 → StepsThere m ts → Yields (steps m) (counted step_words ts) ts
unfolding steps
yields-steps m ts r l h = yields-counted (steps_from 1 m) step_words ts (record { low = omega arith; high = l }) (yields-steps_from 1 m ts r h)

-- a loop number is at most 6
arguments-small : (t : Step) (m : ℕ) → m ≤ 6 → StepThere m t → All Small (arguments t)
arguments-small (exchange a) m l h = all_cons Small (omega arith) (all_cons Small (omega arith) (all_cons Small (omega arith) (all_nil Small)))
arguments-small (reversal a) m l h = all_cons Small (omega arith) (all_cons Small (omega arith) (all_cons Small (omega arith) (all_nil Small)))
arguments-small (skew a d c) m l h = let z = h.0 in let f = h.1.high in
    all_cons Small (omega arith) (all_cons Small (omega arith) (all_cons Small (omega arith) (all_nil Small)))
arguments-small (section a w) m l h = let v = h.2.high in all_cons Small (omega arith)
    (all_cons Small (omega arith) (all_cons Small (omega arith) (all_nil Small)))
arguments-small (circulation a b) m l h = let u = h.0 in let v = h.1 in all_cons Small (omega arith)
    (all_cons Small (omega arith) (all_cons Small (omega arith) (all_nil Small)))

steps-small : (ts : List Step) (m : ℕ) → InRange 1 6 m → StepsThere m ts → All Small (flat_map step_words ts)
unfolding flat_map
steps-small [] m r h = all_nil Small
steps-small (t ∷ ts) m r h = all_append Small (step_words t) (flat_map step_words ts)
    (all_cons Small (let k = (kind-range t).high in omega arith) (arguments-small t m r.high h.0))
    (steps-small ts (depth_after t m) (depth-there t m r h.0) h.1)

-- ---- the ticket

few-loops : (T : Ticket) → TicketRanges T → InRange 1 6 (length T.nest.loops)
few-loops T r = let u = r.nest.few-loops.low in let v = r.nest.few-loops.high in record { low = omega arith; high = omega arith }

ticket-small : (T : Ticket) → TicketRanges T → WellFormed T.nest → All Small (nest_sections T.nest ++ counted step_words T.steps)
unfolding counted
ticket-small T r w = let l = r.few-steps in all_append Small (nest_sections T.nest) (counted step_words T.steps)
    (nest-small T.nest (omega arith) (omega arith) r.nest w)
    (all_cons Small (omega arith) (steps-small T.steps (length T.nest.loops) (few-loops T r) r.steps))

pub ticket-decodes : (T : Ticket) → TicketRanges T → WellFormed T.nest → decode (bytes_of (ticket_words T)) ≡ accepted T
unfolding decode ticket ticket_words Answer.◌>>=◌ done
ticket-decodes T r w =
    let N = T.nest in
    let us = nest_sections N in
    let vs = counted step_words T.steps in
    let b = bytes_of (us ++ vs) in
    let s : Spells b 1 (us ++ vs) = bytes-words (us ++ vs) (ticket-small T r w) in
    let k = 1 + length us in
    let l = length-bytes (us ++ vs) in
    let m = length-append us vs in
    ap (λ ws. decode (bytes_of ws)) (sections-then N vs) ∙ ap (λ x. Answer.◌>>=◌ x (λ t. accepted t.value))
    (bind-reads (nest 4 4) _ b 1 ((yields-nest 4 4 N r.nest w).read b 1 (spells-left b 1 us vs s))
    ∙ bind-reads (steps (length N.loops)) _ b k ((yields-steps (length N.loops) T.steps (few-loops T r) r.few-steps r.steps).read b k
    (spells-right b 1 us vs s))
    ∙ end_reads (done (record { nest = N; steps = T.steps })) b (k + length vs) (omega arith))

-- ---- bytes back from the ticket

pub decode-bytes : (b : List ℕ) {T : Ticket} → All Byte b → decode b ≡ accepted T → b ≡ bytes_of (ticket_words T)
decode-bytes b {T} a e =
    let d = decoded b e in
    let n = d.whole in
    let m : (1 + length (ticket_words T) - 1) * 2 ≡ length b = omega arith in
    spelled-bytes b 1 (ticket_words T) (omega arith) a d.spelled ∙ ap (bytes_of (ticket_words T) ++◌) (ap (λ i. drop i b) m ∙ drop-length b)
    ∙ append-nil (bytes_of (ticket_words T))

-- the bytes that decode to a ticket
pub decode-iff : (b : List ℕ) (T : Ticket) → All Byte b
    → (decode b ≡ accepted T) ↔ ((b ≡ bytes_of (ticket_words T)) × TicketRanges T × WellFormed T.nest)
decode-iff b T a = (λ e. (decode-bytes b a e, decode-ranges b e, decode-formed b e), λ h. ap decode h.0 ∙ ticket-decodes T h.1 h.2)

-- different bytes give different tickets
pub decode-injective : (b c : List ℕ) {T : Ticket} → All Byte b → All Byte c → decode b ≡ accepted T → decode c ≡ accepted T → b ≡ c
decode-injective b c x y e f = decode-bytes b x e ∙ sym (decode-bytes c y f)
