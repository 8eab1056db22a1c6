-- Loops read and laid: the two sides of one, then a nest under way and its end.
use mathlib.Core.Path.{◌≡◌, refl, sym, ap, ap₂, ◌∙◌, subst}
use mathlib.Core.List.{List, [], ◌∷◌, ◌++◌}
use Prim.Native.Nat.{ℕ, zero, suc, ◌+◌, ◌*◌, ◌-◌, ◌≤◌, ◌<◌}
use native.Mathlib.Omega.{arith}
use native.Mathlib.Numerals.{add-one}
use lib.IntN.{ℤ}
use lib.ListN.{length, set, length-set, length-append}
use Rattle.std.specs.Prelude.{Result, Ok}
use Rattle.lists.specs.Membership.{All}
use Rattle.lists.proofs.MembershipLaws.{all_nil, all_cons, all_append}
use Rattle.integers.specs.Affine.{Within}
use Rattle.model.specs.Ticket.{Loop}
use Rattle.model.specs.Grammar as Grammar
use Rattle.model.specs.Grammar.{count, loop, loops, ticket_loops, ticket_limits}
use Rattle.model.specs.Shape.{Sized, Shaped}
use Rattle.model.specs.Ranges.{LoopRanges}
use Rattle.model.proofs.Answers.AnswerLaws.{leads-accepted}
use Rattle.model.proofs.Grammar.LoopReading.{LoopRead, loop-meets}
use Rattle.nest_flat.specs.Flat.{loops_from, NestOk}
use Rattle.ticket_refusals.specs.declared.Refusal.{Refusal}
use Rattle.ticket_words.specs.Reads.{Reads, plain}
use Rattle.ticket_words.specs.declared.Words.{Words}
use Rattle.ticket_words.proofs.ReaderLaws.{Underway, read-value, read-then, repeated, repeat-begin, repeat-more}
use Rattle.ticket_loops.specs.Laid.{lay_limits, lay_loop, lay_count, lay_loops, lay_counts}
use Rattle.ticket_loops.specs.LoopReads.{SideIn, Room, ReadsSide, ReadsLoop}
use Rattle.ticket_loops.proofs.LimitLaws.{lay-length, lay-within}
use Rattle.ticket_loops.proofs.LoopLaws.{loops-more, counts-more, Fit, loops-length, loops-within}
use Rattle.ticket_loops.proofs.NestLaws.{ranges_more, nest_back, nest-ok}

-- ---- the two sides of a loop

pub counts_room : {w : List ℤ} {c : List ℕ} (i n : ℕ) → Room w c → Room w (set c i n)
counts_room i n q = record { words = q.words; counts = simp length-set q.counts; small = q.small }

module _ (k : ℕ) (h : k < 6) {w : List ℤ} {c : List ℕ} (q : Room w c) where
  pub lower_in : SideIn k (k * 32) (length w)
  lower_in = let n = q.words in record { shallow = omega arith; fits = omega arith }

  pub upper_in : SideIn k (k * 32 + 16) (length w)
  upper_in = let n = q.words in record { shallow = omega arith; fits = omega arith }

-- a side is laid, or what stands before its refusal
module _ (k j : ℕ) {o e : Words} {w w' : List ℤ} {r : Result ℕ Refusal} (p : SideIn k j (length w)) (s : ReadsSide k j o w w' r e) where
  pub side-length : length w' ≡ length w
  side-length = let f = s.few in let g = p.fits in ap length s.laid ∙ lay-length k p.shallow w j s.limits s.sized (omega arith)

  pub side-room : {c : List ℕ} → Room w c → Room w' c
  side-room q = record {
    words = side-length ∙ q.words;
    counts = q.counts;
    small = subst (Within 32767) (sym s.laid) (lay-within w j s.limits s.ranges q.small);
  }

module _ (k : ℕ) {o i e : Words} {w v x : List ℤ} (c : List ℕ) {l u : ℕ} (s : ReadsSide k (k * 32) o w v (Ok l) i)
    (t : ReadsSide k (k * 32 + 16) i v x (Ok u) e) where
  abbrev pub sides : Loop
  sides = record { lower = s.limits; upper = t.limits }

  pub loop-laid : x ≡ lay_loop w k sides
  unfolding lay_loop
  loop-laid = t.laid ∙ ap (λ y. lay_limits y (k * 32 + 16) t.limits) s.laid

  pub loop-counted : set (set c (k * 2) l) (k * 2 + 1) u ≡ lay_count c k sides
  unfolding lay_count
  loop-counted = ap₂ (λ m n. set (set c (k * 2) m) (k * 2 + 1) n) s.count t.count

-- ---- the loops of a nest

loop-read : (k : ℕ) {T : Type 0} {view : T → Loop} {o e : Words} {v : T} → Reads view (loop ticket_limits k) o (Ok v) e
    → LoopRead ticket_limits k (view v)
loop-read k {o} h = let r = o.reached in
    (leads-accepted _ _ ((loop-meets ticket_limits k).from o.bytes.now o.next (record { first = r.counted; there = r.there })).leads
    (read-value h)).holds.holds

shaped-more : (k : ℕ) (N : List Loop) (L : Loop) → Shaped k N → Sized (k + length N) L.lower × Sized (k + length N) L.upper
    → Shaped k (N ++ (L ∷ []))
shaped-more k [] L s p = let e : k + 0 ≡ k = omega arith in (subst (λ (n : ℕ). Sized n L.lower × Sized n L.upper) e p, tt)
shaped-more k (M ∷ N) L s p =
    let e : k + suc (length N) ≡ suc k + length N = omega arith in
    (s.0, shaped-more (suc k) N L s.1 (subst (λ (n : ℕ). Sized n L.lower × Sized n L.upper) e p))

-- loops one after another, each inside those before
abbrev pub next_loop : ℕ → Loop → ℕ
next_loop k L = suc k

repeats : (k n : ℕ) → Grammar.loops_from ticket_limits k n ≡ repeated (loop ticket_limits) next_loop n k
unfolding Grammar.loops_from repeated
repeats k zero = refl
repeats k (suc n) = rw (repeats (suc k) n)

module _ {T : Type 0} {shown : T → List Loop} {o i e : Words} {n : ℕ} {r : Result T Refusal} where
  pub counted-loops : Reads plain (count 1 ticket_loops) o (Ok n) i → Reads shown (repeated (loop ticket_limits) next_loop n 0) i r e
      → Reads shown (loops ticket_loops ticket_limits) o r e
  unfolding loops
  counted-loops h g = read-then _ h (rw (repeats 0 n) g)

-- k of n loops are read and laid
pub record Passing (n : ℕ) (o e : Words) (w w' : List ℤ) (c c' : List ℕ) (k : ℕ) : Type 0 where
  pub passed : List Loop
  pub number : length passed ≡ k
  pub low : k ≤ n
  pub words : w' ≡ lay_loops w 0 passed
  pub counts : c' ≡ lay_counts c 0 passed
  pub shaped : Shaped 0 passed
  pub ranges : All (LoopRanges 16) passed
  pub underway : Underway (repeated (loop ticket_limits) next_loop n 0) o passed (repeated (loop ticket_limits) next_loop (n - k) k) e

module _ (n : ℕ) (o : Words) (w : List ℤ) (c : List ℕ) where
  pub passing-starts : Passing n o o w w c c 0
  unfolding lay_loops lay_counts
  passing-starts = record {
    passed = [];
    number = refl;
    low = omega arith;
    words = refl;
    counts = refl;
    shaped = tt;
    ranges = all_nil (LoopRanges 16);
    underway = repeat-begin (loop ticket_limits) next_loop n 0 o;
  }

  module _ (few : n ≤ ticket_loops) (q : Room w c) (e : Words) (w' : List ℤ) (c' : List ℕ) (k : ℕ) (f : Passing n o e w w' c c' k) where
    fit : Fit w c 0 f.passed
    fit = let m = f.number in let l = f.low in
        record { words = q.words; counts = q.counts; shallow = omega arith; shaped = f.shaped; ranges = f.ranges }

    pub passing-room : Room w' c'
    passing-room = record {
      words = ap length f.words ∙ (loops-length w c 0 f.passed fit).0;
      counts = ap length f.counts ∙ (loops-length w c 0 f.passed fit).1;
      small = subst (Within 32767) (sym f.words) (loops-within w c 0 f.passed fit q.small);
    }

    pub passing-more : {e' : Words} {v : List ℤ} {a : List ℕ} {u : Unit {0}} → k < n → ReadsLoop k e w' v c' a (Ok u) e'
        → Passing n o e' w v c a (k + 1)
    passing-more h r =
        let L = r.body in
        let t = loop-read k r.reads in
        let m : k ≡ 0 + length f.passed = omega (arith, f.number) in
        let b = repeat-more (loop ticket_limits) next_loop n k k f.underway h r.reads refl in
        record {
          passed = f.passed ++ (L ∷ []);
          number = let z = f.number in let i = length-append f.passed (L ∷ []) in omega arith;
          low = omega arith;
          words = r.laid.0 ∙ ap₂ (λ y i. lay_loop y i L) f.words m ∙ sym (loops-more w 0 f.passed L);
          counts = r.laid.1 ∙ ap₂ (λ y i. lay_count y i L) f.counts m ∙ sym (counts-more c 0 f.passed L);
          shaped = shaped-more 0 f.passed L f.shaped (subst (λ (i : ℕ). Sized i L.lower × Sized i L.upper) m t.sized);
          ranges = all_append (LoopRanges 16) f.passed (L ∷ []) f.ranges
              (all_cons (LoopRanges 16) (ranges_more L (omega arith) t.ranges) (all_nil (LoopRanges 16)));
          underway = rw add-one (rw add-one at b);
        }

    -- the loops that the slices stand for
    passing-back : loops_from w' c' 0 k ≡ f.passed
    passing-back =
        let N = f.passed in
        ap₂ (λ x y. loops_from x y 0 k) f.words f.counts ∙ ap (loops_from (lay_loops w 0 N) (lay_counts c 0 N) 0) (sym f.number)
        ∙ nest_back w c N fit q.small

    pub all_passed : n ≤ k → f.passed ≡ loops_from w' c' 0 n
    all_passed h = let m : n ≡ k = omega (arith, f.low) in sym (ap (loops_from w' c' 0) m ∙ passing-back)

    pub passing_ok : n ≤ k → NestOk w' c' n
    passing_ok h =
        let N = f.passed in
        subst (λ (i : ℕ). NestOk w' c' i) (omega (arith, f.number, f.low))
        (subst (λ (x : List ℤ). NestOk x c' (length N)) (sym f.words) (subst (λ (y : List ℕ). NestOk (lay_loops w 0 N) y (length N))
        (sym f.counts) (nest-ok w c N fit q.small)))
