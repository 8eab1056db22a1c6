-- The nest that accepted steps make can be written, and what is written reads as that nest. In order: the counts that a written nest may have, after
-- steps; its limits and subscripts, where the numbers are small; the new nest of a ticket, however it was read.
use mathlib.Core.Path.{◌≡◌, refl, sym, ◌∙◌, subst}
use mathlib.Core.List.Memᴰ
use mathlib.Core.List.{List, [], ◌∷◌, flat_map}
use Prim.Native.Nat.{ℕ, ◌≤◌, ◌<◌}
use native.Mathlib.Omega.{arith}
use lib.ListN.{length, length-map}
use Rattle.integers.specs.Sign.{Sign}
use Rattle.lists.specs.Membership.{All}
use Rattle.lists.proofs.MembershipLaws.{map-all}
use Rattle.lists.proofs.FlatMapLaws.{mem-flat_map}
use Rattle.model.specs.Answer.{Answer, accepted}
use Rattle.model.specs.Ticket.{Limit, Loop, Access, Statement, Step, exchange, reversal, skew, section, circulation, Nest, Ticket}
use Rattle.model.specs.Grammar.{total, most_statements, decode_nest, most_reads}
use Rattle.model.specs.Bounds.{accesses_of}
use Rattle.model.specs.Limits.{access_after, statement_after, nest_after, nest_after_all}
use Rattle.model.specs.Encode.{encode}
use Rattle.model.specs.Shape.{Runs, WellFormed}
use Rattle.model.specs.Ranges.{InRange, Small, LimitRanges, LoopRanges, ArrayRanges, SubscriptRanges, AccessRanges, StatementRanges, NestRanges, StepThere, StepsThere, TicketRanges}
use Rattle.model.specs.Judge.{Judged, judged_of}
use Rattle.model.specs.Reasons.{FewLimits, limit_numbers, loop_numbers, subscript_numbers, access_numbers, statement_numbers, nest_numbers, StepsPass}
use Rattle.model.proofs.Steps.LengthLaws.{There, depth-after}
use Rattle.model.proofs.Steps.WellFormedLaws.{well-formed-after-all}
use Rattle.model.proofs.Grammar.StepReading.{depth-there}
use Rattle.model.proofs.Grammar.GrammarLaws.{Sound, ranges-wider, steps-proper}
use Rattle.model.proofs.Grammar.RoundTripLaws.{encode-decodes}
use Rattle.model.proofs.Verdict.StageLaws.{passes-final}
use Rattle.model.proofs.Verdict.VerdictLaws.{judged-accepted, admit-accepted, judge_ticket-accepted}

-- ---- counts, rules and arrays after steps

record StatementCounts (s : Statement) : Type 0 where
  rule : s.rule ≤ 3
  constant : s.constant ≤ 32767
  one-write : length s.writes ≡ 1
  few-reads : length s.reads ≤ most_reads
  copy-reads : s.rule ≡ 3 → 1 ≤ length s.reads
  copy-constant : s.rule ≡ 3 → s.constant ≡ 0

-- all that the ranges of a written nest ask but for its limits and subscripts
record NestCounts (N : Nest) : Type 0 where
  few-loops : InRange 1 6 (length N.loops)
  few-arrays : InRange 1 4 (length N.arrays)
  arrays : All ArrayRanges N.arrays
  room : total N.arrays ≤ 16384
  few-statements : InRange 1 most_statements (length N.statements)
  statements : All StatementCounts N.statements

there : (t : Step) (m : ℕ) → StepThere m t → There t m
there (exchange a) m h = h
there (reversal a) m h = h
there (skew a d c) m h = h.0
there (section a w) m h = h.0
there (circulation a b) m h = tt

statement-counts : (t : Step) (s : Statement) → StatementCounts s → StatementCounts (statement_after t s)
unfolding statement_after
statement-counts t s c =
    let w = length-map s.writes (access_after t) in
    let r = length-map s.reads (access_after t) in
    record {
      rule = c.rule;
      constant = c.constant;
      one-write = w ∙ c.one-write;
      few-reads = let n = c.few-reads in omega arith;
      copy-reads = λ e. let n = c.copy-reads e in omega arith;
      copy-constant = c.copy-constant;
    }

counts-after : (t : Step) (N : Nest) → StepThere (length N.loops) t → NestCounts N → NestCounts (nest_after t N)
unfolding nest_after
counts-after t N h c = record {
  few-loops = subst (InRange 1 6) (sym (depth-after t N.loops (there t _ h))) (depth-there t _ c.few-loops h);
  few-arrays = c.few-arrays;
  arrays = c.arrays;
  room = c.room;
  few-statements = subst (InRange 1 most_statements) (sym (length-map N.statements (statement_after t))) c.few-statements;
  statements = map-all (statement_after t) StatementCounts StatementCounts N.statements (statement-counts t) c.statements;
}

counts-after-all : (ts : List Step) (N : Nest) → StepsThere (length N.loops) ts → NestCounts N → NestCounts (nest_after_all ts N)
unfolding nest_after_all nest_after
counts-after-all [] N h c = c
counts-after-all (t ∷ ts) N h c =
    counts-after-all ts (nest_after t N) (subst (λ m. StepsThere m ts) (sym (depth-after t N.loops (there t _ h.0))) h.1)
    (counts-after t N h.0 c)

ranges-counts : {d m : ℕ} {N : Nest} → d ≤ 6 → NestRanges d m N → NestCounts N
ranges-counts h r = record {
  few-loops = let l = r.few-loops.low in let u = r.few-loops.high in record { low = l; high = omega arith };
  few-arrays = r.few-arrays;
  arrays = r.arrays;
  room = r.room;
  few-statements = r.few-statements;
  statements = λ s i. let q = r.statements s i in
      record {
        rule = q.rule;
        constant = q.constant;
        one-write = q.one-write;
        few-reads = q.few-reads;
        copy-reads = q.copy-reads;
        copy-constant = q.copy-constant;
      };
}

-- ---- limits and subscripts of small numbers

some : {A : Type 0} {m : ℕ} (l : List A) → (l ≡ [] → ⊥) → length l ≤ m → InRange 1 m (length l)
some [] h u = absurd (h refl)
some (x ∷ l) h u = record { low = omega arith; high = u }

limit-ranges : (l : Limit) → 0 < l.multiplier → All Small (limit_numbers l) → LimitRanges l
unfolding limit_numbers
limit-ranges l p s = record {
  multiplier = record { low = p; high = s _ (Memᴰ.head refl) };
  constant = s _ (Memᴰ.tail (Memᴰ.head refl));
  coefficients = λ x i. s x (Memᴰ.tail (Memᴰ.tail i));
}

loop-ranges : (L : Loop) → Runs L → (length L.lower ≤ 16) × (length L.upper ≤ 16) → All Small (loop_numbers L) → LoopRanges 16 L
unfolding loop_numbers
loop-ranges L r f s = record {
  few-lower = some L.lower r.some-lower f.0;
  few-upper = some L.upper r.some_upper f.1;
  lower = λ l i. limit-ranges l (r.positive-lower l i) (λ x j. s x (Memᴰ.append_left (flat_map limit_numbers L.upper)
      (mem-flat_map limit_numbers L.lower i j)));
  upper = λ l i. limit-ranges l (r.positive-upper l i) (λ x j. s x (Memᴰ.append_right (flat_map limit_numbers L.lower)
      (mem-flat_map limit_numbers L.upper i j)));
}

access-ranges : (a : Access) → All Small (access_numbers a) → AccessRanges a
unfolding access_numbers
access-ranges a s b i = subscript-ranges (λ x j. s x (mem-flat_map subscript_numbers a.subscripts i j))
  where
    subscript-ranges : All Small (subscript_numbers b) → SubscriptRanges b
    subscript-ranges h = unfold subscript_numbers in record { constant = h _ (Memᴰ.head refl); coefficients = λ x j. h x (Memᴰ.tail j) }

statement-ranges : (s : Statement) → StatementCounts s → All Small (statement_numbers s) → StatementRanges s
unfolding statement_numbers accesses_of
statement-ranges s c h =
    let each : All AccessRanges (accesses_of s) = λ a i. access-ranges a (λ x j. h x (mem-flat_map access_numbers (accesses_of s) i j)) in
    record {
      rule = c.rule;
      constant = c.constant;
      one-write = c.one-write;
      few-reads = c.few-reads;
      copy-reads = c.copy-reads;
      copy-constant = c.copy-constant;
      writes = λ a i. each a (Memᴰ.append_left s.reads i);
      reads = λ a i. each a (Memᴰ.append_right s.writes i);
    }

nest-ranges : (N : Nest) → NestCounts N → WellFormed N → FewLimits N.loops → All Small (nest_numbers N) → NestRanges 6 16 N
unfolding nest_numbers
nest-ranges N c w f s = record {
  few-loops = c.few-loops;
  loops = λ L i. loop-ranges L (w.runs L i) (f L i) (λ x j. s x (Memᴰ.append_left (flat_map statement_numbers N.statements)
      (mem-flat_map loop_numbers N.loops i j)));
  few-arrays = c.few-arrays;
  arrays = c.arrays;
  room = c.room;
  few-statements = c.few-statements;
  statements = λ t i. statement-ranges t (c.statements t i) (λ x j. s x (Memᴰ.append_right (flat_map loop_numbers N.loops)
      (mem-flat_map statement_numbers N.statements i j)));
}

-- ---- the new nest

module _ (T : Ticket) (r : TicketRanges T) (w : WellFormed T.nest) where
  pub new-formed : WellFormed (nest_after_all T.steps T.nest)
  new-formed = well-formed-after-all T.steps (steps-proper T.steps _ r.steps) T.nest w

  pub new-ranges : (vs : List (List Sign)) → StepsPass T.steps vs T.nest → NestRanges 6 16 (nest_after_all T.steps T.nest)
  new-ranges vs = from T.steps r.steps (counts-after-all T.steps T.nest r.steps (ranges-counts (omega arith) r.nest)) new-formed
    where
      from : (ts : List Step) → StepsThere (length T.nest.loops) ts → NestCounts (nest_after_all ts T.nest)
          → WellFormed (nest_after_all ts T.nest) → StepsPass ts vs T.nest → NestRanges 6 16 (nest_after_all ts T.nest)
      from [] i c f h = unfold nest_after_all in ranges-wider (omega arith) (omega arith) r.nest
      from (t ∷ ts) i c f h = let q = passes-final t ts (length T.nest.loops) vs T.nest i h in
          nest-ranges (nest_after_all (t ∷ ts) T.nest) c f q.0 q.1

  pub new-written : (vs : List (List Sign)) → StepsPass T.steps vs T.nest
      → decode_nest (encode (nest_after_all T.steps T.nest)) ≡ accepted (nest_after_all T.steps T.nest)
  new-written vs h = encode-decodes (nest_after_all T.steps T.nest) new-formed (new-ranges vs h)

-- of an accepted ticket, however it was read
pub judged-written : (d : Answer Ticket) → Sound d → {j : Judged} → judged_of d ≡ accepted j → decode_nest (encode j.new) ≡ accepted j.new
judged-written d sound e =
    let r = judged-accepted d e in
    let t = (admit-accepted d r.1).0 in
    let q = judge_ticket-accepted r.0 r.2 in
    rw q.0 (new-written r.0 (sound.ranges t) (sound.formed t) _ q.1.0)
