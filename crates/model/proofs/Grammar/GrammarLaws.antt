-- What the grammar says of a ticket that it accepts: it is well formed, its steps are proper, its numbers are in their ranges, and its words are
-- the bytes, to the last. First the nest and the ticket as they are read, then the theorems on `decode`. What it refuses is in `WrongLaws`.
use mathlib.Core.Path.{◌≡◌, sym, ap, ◌∙◌, subst}
use mathlib.Core.List.{List, [], ◌∷◌, ◌++◌, append-nil}
use Prim.Native.Nat.{ℕ, ◌+◌, ◌*◌, ◌-◌, ◌≤◌}
use native.Mathlib.Omega.{arith}
use lib.Dec.{leb, leb→le}
use lib.IntN.{ℤ}
use lib.ListN.{length, length-append}
use Rattle.lists.specs.Membership.{All}
use Rattle.lists.proofs.MembershipLaws.{all_nil, all_cons}
use Rattle.model.specs.Answer.{Answer, accepted}
use Rattle.model.specs.Ticket.{Loop, Step, exchange, reversal, skew, section, circulation, Nest, Ticket}
use Rattle.model.specs.Grammar.{Reader, ◌>>=◌, ◌>>◌, nest, end, ticket, decode}
use Rattle.model.specs.Encode.{counted, loop_words, array_words, statement_words, step_words, ticket_words}
use Rattle.model.specs.Shape.{Runs, Proper, WellFormed}
use Rattle.model.specs.Ranges.{InRange, LoopRanges, NestRanges, StepThere, StepsThere, TicketRanges}
use Rattle.model.proofs.Answers.AnswerLaws.{Leads, leads-bind, leads-accepted}
use Rattle.model.proofs.Grammar.WordLaws.{sections-then, Reaches, reaches-first, spells-reach, nest_sections, Spells}
use Rattle.model.proofs.Grammar.ReaderLaws.{Unsaid, MeetsAt, Met, As, bind-at, must_at-at, done_at}
use Rattle.model.proofs.Grammar.LoopReading.{loops-meets}
use Rattle.model.proofs.Grammar.ArrayReading.{arrays-meets}
use Rattle.model.proofs.Grammar.StatementReading.{statements-meets}
use Rattle.model.proofs.Grammar.StepReading.{steps-meets}

-- ---- what follows of the ranges

not-empty : {A : Type 0} {m : ℕ} {l : List A} → InRange 1 m (length l) → l ≡ [] → ⊥
not-empty r e = let n = ap length e in let h = r.low in omega arith

-- a loop in its ranges can be run
pub ranges-run : {m : ℕ} {L : Loop} → LoopRanges m L → Runs L
ranges-run h = record {
  some-lower = not-empty h.few-lower;
  some_upper = not-empty h.few-upper;
  positive-lower = λ l i. (h.lower l i).multiplier.low;
  positive-upper = λ l i. (h.upper l i).multiplier.low;
}

wider : {lo m n k : ℕ} → m ≤ n → InRange lo m k → InRange lo n k
wider h r = let l = r.low in let u = r.high in record { low = l; high = omega arith }

-- a nest in a ticket's ranges is in the written ones
pub ranges-wider : {d e m n : ℕ} {N : Nest} → d ≤ e → m ≤ n → NestRanges d m N → NestRanges e n N
ranges-wider h k r = record {
  few-loops = wider h r.few-loops;
  loops = λ L i. let l = r.loops L i in record {
    few-lower = wider k l.few-lower;
    few-upper = wider k
        l.few-upper;
    lower = l.lower;
    upper = l.upper;
  };
  few-arrays = r.few-arrays;
  arrays = r.arrays;
  room = r.room;
  few-statements = r.few-statements;
  statements = r.statements;
}

there-proper : (t : Step) (m : ℕ) → StepThere m t → Proper t
there-proper (exchange a) m h = tt
there-proper (reversal a) m h = tt
there-proper (skew a d c) m h = tt
there-proper (section a w) m h = let l = h.2.low in omega arith
there-proper (circulation a b) m h = tt

pub steps-proper : (ts : List Step) (m : ℕ) → StepsThere m ts → All Proper ts
steps-proper [] m h = all_nil Proper
steps-proper (t ∷ ts) m h = all_cons Proper (there-proper t m h.0) (steps-proper ts _ h.1)

-- ---- the nest

pub record LoopsRead (N : Nest) : Type 0 where
  pub ranges : NestRanges 4 4 N
  pub formed : WellFormed N

nest-at : (b : List ℕ) → MeetsAt b 1 (nest 4 4) (As LoopsRead nest_sections)
unfolding nest
nest-at b = bind-at ((loops-meets 4 4).from b 1 (reaches-first b))
    (λ ls l s. bind-at (arrays-meets.from b (1 + length (counted loop_words ls)) (spells-reach b 1 (counted loop_words ls) (reaches-first b) s))
    (λ as' a z.
    let r = spells-reach b (1 + length (counted loop_words ls)) (counted array_words as')
    (spells-reach b 1 (counted loop_words ls) (reaches-first b) s) z in
    bind-at ((statements-meets (length ls) as').from b (1 + length (counted loop_words ls) + length (counted array_words as')) r) (λ ss t _.
    done_at (record { loops = ls; arrays = as'; statements = ss }) (record {
      holds = record {
        ranges = record {
          few-loops = l.few;
          loops = l.holds.ranges;
          few-arrays = a.few;
          arrays = a.holds.ranges;
          room = let h = a.holds.room in omega arith;
          few-statements = t.few;
          statements = λ x i. (t.holds x i).ranges;
        };
        formed = record { shaped = l.holds.shaped; runs = λ L i. ranges-run (l.holds.ranges L i); fits = λ x i. (t.holds x i).fits };
      };
      words = ap (λ ws. counted loop_words ls ++ (counted array_words as' ++ ws)) (append-nil (counted statement_words ss));
    }))))

-- ---- the ticket

pub record Decoded (b : List ℕ) (T : Ticket) : Type 0 where
  pub ranges : TicketRanges T
  pub formed : WellFormed T.nest
  pub spelled : Spells b 1 (ticket_words T)
  pub whole : length b ≡ length (ticket_words T) * 2

end-at : {A : Type 0} {b : List ℕ} {k : ℕ} {r : Reader A} {P : A → List ℤ → Type 0} → Reaches b k → (length b ≤ (k - 1) * 2 → MeetsAt b k r P)
    → MeetsAt b k (end >> r) P
unfolding end ◌>>◌ ◌>>=◌
end-at {b = b} {k = k} r h = record {
  leads = (must_at-at (leb (length b) ((k - 1) * 2)) 2 k (λ t. h (leb→le (length b) ((k - 1) * 2) t))).leads;
}

record TicketRead (b : List ℕ) (T : Ticket) (ws : List ℤ) : Type 0 where
  ranges : TicketRanges T
  formed : WellFormed T.nest
  words : ws ≡ ticket_words T
  ends : length b ≤ length ws * 2

ticket-at : (b : List ℕ) → MeetsAt b 1 ticket (TicketRead b)
unfolding ticket ticket_words
ticket-at b = bind-at (nest-at b) (λ N n s. let u = n.ranges.few-loops.low in let v = n.ranges.few-loops.high in
    let r = spells-reach b 1 (nest_sections N) (reaches-first b) s in
    let k = 1 + length (nest_sections N) in
    bind-at ((steps-meets (length N.loops) (record { low = omega arith; high = omega arith })).from b k r) (λ ts t z.
    let e : nest_sections N ++ (counted step_words ts ++ []) ≡ nest_sections N ++ counted step_words ts = ap (nest_sections N ++◌)
    (append-nil (counted step_words ts)) in
    let l = ap length e ∙ length-append (nest_sections N) (counted step_words ts) in
    end-at (spells-reach b k (counted step_words ts) r z) (λ h. done_at (record { nest = N; steps = ts }) (record {
      ranges = record { nest = n.ranges; few-steps = t.few.high; steps = t.holds };
      formed = n.formed;
      words = e ∙ sym (sections-then N (counted step_words ts));
      ends = omega arith;
    }))))

-- both outcomes at once
pub decode-leads : (b : List ℕ) → Leads (Decoded b) Unsaid (decode b)
unfolding decode
decode-leads b = leads-bind (Met (TicketRead b) b 1) Unsaid (Decoded b) (ticket b 1) (λ r. accepted r.value) (ticket-at b).leads (λ r e t.
    let h = t.holds in
    let s : Spells b 1 (ticket_words r.value) = subst (Spells b 1) h.words t.spelled in
    record {
      ranges = h.ranges;
      formed = h.formed;
      spelled = s;
      whole = let u = (spells-reach b 1 (ticket_words r.value) (reaches-first b) s).there in let v = h.ends in let l = ap length h.words in
          omega arith;
    })

-- ---- accepted tickets

-- what every reader of tickets gives: an accepted one is in its ranges and well formed
pub record Sound (d : Answer Ticket) : Type 0 where
  pub ranges : {T : Ticket} → d ≡ accepted T → TicketRanges T
  pub formed : {T : Ticket} → d ≡ accepted T → WellFormed T.nest

module _ (b : List ℕ) {T : Ticket} (e : decode b ≡ accepted T) where
  pub decoded : Decoded b T
  decoded = leads-accepted (Decoded b) Unsaid (decode-leads b) e

  pub decode-ranges : TicketRanges T
  decode-ranges = decoded.ranges

  pub decode-formed : WellFormed T.nest
  decode-formed = decoded.formed

  pub decode-proper : All Proper T.steps
  decode-proper = steps-proper T.steps (length T.nest.loops) decoded.ranges.steps

module _ (d : Answer Ticket) (sound : Sound d) {T : Ticket} (e : d ≡ accepted T) where
  pub sound-proper : All Proper T.steps
  sound-proper = steps-proper T.steps (length T.nest.loops) (sound.ranges e).steps

pub decode-sound : (b : List ℕ) → Sound (decode b)
decode-sound b = record { ranges = decode-ranges b; formed = decode-formed b }
