-- What an exchange answers: a side of the outer loop is full, or one of the inner loop; a number of the outer loop is too large; or both loops are put.
use mathlib.Core.Path.{◌≡◌, refl, sym, ap, ap₂, ◌∙◌, subst}
use mathlib.Core.Bool.{Bool, true, false, not, ◌&&◌}
use mathlib.Core.List.{List}
use Prim.Native.Nat.{ℕ, ◌+◌, ◌≤◌}
use native.Mathlib.Omega.{arith}
use lib.Dec.{leb}
use lib.IntN.{ℤ}
use lib.ListN.{length}
use borrow.Author.Tests.{not-true, not-false}
use Rattle.model.specs.Ticket as Model
use Rattle.model.specs.Judge.{small_loop}
use Rattle.model.specs.Limits.{new_outer, new_inner, deduplicated}
use Rattle.model.specs.Shape.{Sized}
use Rattle.model.specs.Grammar.{most_sides, nest_room}
use Rattle.nest_flat.specs.Flat.{loop_at}
use Rattle.ticket_loops.specs.Laid.{lay_loop, lay_count}
use Rattle.step_exchange_sides.proofs.FlatLaws.{limits-sized}
use Rattle.step_exchange_sides.proofs.PutLaws.{untrue}
use Rattle.step_exchange.specs.declared.SideCounts.{SideCounts}
use Rattle.std.specs.Prelude.{Ok, Err, is_ok}
use Rattle.step_exchange.specs.declared.StepError.{StepError}
use Rattle.step_exchange.specs.declared.StepError.TheVariants.{TooManyLimits, NumberOutOfRange}
use Rattle.step_exchange.specs.Answers.{step_answer}
use Rattle.step_exchange.specs.Pair.{LoopHeld, loop_in, LoopPut, PairIn, outer_of, inner_of, few_in, PairMade, Exchanges}
use Rattle.step_exchange.proofs.PairLaws.{few-sides, sides-whole, both-few}
use Rattle.step_exchange.proofs.MadeLaws.{outer-ranges, inner-ranges}
use Rattle.step_exchange.proofs.NestLaws.{pair_made}

-- ---- the answer, from what was found

pub settled : (full small F S : Bool) → full ≡ not F → (full ≡ false → small ≡ S) → step_answer (not full) small ≡ step_answer F S
settled true small F S e f = ap (λ b. step_answer b S) (sym (not-true F (sym e)))
settled false small F S e f = ap₂ step_answer (sym (not-false F (sym e))) (f refl)

pub answer-ok : (full small : Bool) → is_ok (step_answer (not full) small) ≡ true → (full ≡ false) × (small ≡ true)
answer-ok true small e = untrue e
answer-ok false true e = (refl, refl)
answer-ok false false e = untrue e

-- a test more leaves a refusal
pub refused-anyway : (few small more : Bool) (e : StepError) → Err e ≡ step_answer few small → Err e ≡ step_answer few (small && more)
refused-anyway false small more e q = q
refused-anyway true true more e q = untrue (ap is_ok q)
refused-anyway true false more e q = q

pub accepted : (few small : Bool) → Ok tt ≡ step_answer few small → (few ≡ true) × (small ≡ true)
accepted false small q = untrue (sym (ap is_ok q))
accepted true true q = (refl, refl)
accepted true false q = untrue (sym (ap is_ok q))

-- a loop whose sides are under way, and the test of its counts
module _ (n : ℕ) (L : Model.Loop) (low up : List ℤ) (h : SideCounts) (o : LoopHeld n L low up h) (b : Bool)
    (f : b ≡ not (leb h.lower 16 && leb h.upper 16)) where
  tested : b ≡ not (few_in (deduplicated L))
  tested = f ∙ ap not (few-sides n low up h L o)

  whole : b ≡ false → loop_in n low up h ≡ deduplicated L
  whole e = let g = both-few h.lower h.upper b f e in sides-whole n low up h L o g.0 g.1

  sized : n ≤ 6 → b ≡ false → Sized n (deduplicated L).lower × Sized n (deduplicated L).upper
  sized g e =
      let m = both-few h.lower h.upper b f e in
      let r = o.lower-filled.room in
      let q = o.upper-filled.room in
      subst (λ (K : Model.Loop). Sized n K.lower × Sized n K.upper) (whole e)
      (limits-sized low n 0 h.lower g (omega (arith, m.0)), limits-sized up n 0 h.upper g (omega (arith, m.1)))

module _ (s : List ℤ) (c : List ℕ) (a : ℕ) (p : PairIn s c a) (low up : List ℤ) (h : SideCounts)
    (o : LoopHeld a (new_outer a (loop_at s c a) (loop_at s c (a + 1))) low up h)
    (b : Bool) (f : b ≡ not (leb h.lower 16 && leb h.upper 16)) where
  abbrev outer_l : Model.Loop
  outer_l = new_outer a (loop_at s c a) (loop_at s c (a + 1))

  abbrev inner_l : Model.Loop
  inner_l = new_inner a (loop_at s c a) (loop_at s c (a + 1))

  outer-test : b ≡ not (few_in (outer_of s c a))
  unfolding outer_of
  outer-test = tested a outer_l low up h o b f

  pub full-outer : b ≡ true → Exchanges s c a (Err TooManyLimits) s c
  full-outer e = record {
    answered = settled true false _ _ (sym (ap not (ap (◌&& few_in (inner_of s c a)) (not-true (few_in (outer_of s c a)) (sym outer-test ∙ e)))))
        (λ q. untrue (sym q));
    made = λ q. untrue q;
    words = p.words;
    counts = p.counts;
  }

  module _ (no : b ≡ false) (low2 up2 : List ℤ) (k : SideCounts) (i : LoopHeld (a + 1) (new_inner a (loop_at s c a) (loop_at s c (a + 1))) low2 up2 k)
      (d : Bool) (g : d ≡ not (leb k.lower 16 && leb k.upper 16)) where
    outer-few : few_in (outer_of s c a) ≡ true
    outer-few = not-false (few_in (outer_of s c a)) (sym outer-test ∙ no)

    inner-test : d ≡ not (few_in (inner_of s c a))
    unfolding inner_of
    inner-test = tested (a + 1) inner_l low2 up2 k i d g

    pub full-inner : d ≡ true → Exchanges s c a (Err TooManyLimits) s c
    full-inner e = record {
      answered = settled true false _ _ (sym (ap not (ap₂ ◌&&◌ outer-few (not-true (few_in (inner_of s c a)) (sym inner-test ∙ e)))))
          (λ q. untrue (sym q));
      made = λ q. untrue q;
      words = p.words;
      counts = p.counts;
    }

    module _ (none : d ≡ false) (r : Bool) (t : List ℤ) (e : List ℕ) (x : LoopPut s c a (loop_in a low up h) r t e) where
      inner-few : few_in (inner_of s c a) ≡ true
      inner-few = not-false (few_in (inner_of s c a)) (sym inner-test ∙ none)

      few : false ≡ not (few_in (outer_of s c a) && few_in (inner_of s c a))
      few = sym (ap not (ap₂ ◌&&◌ outer-few inner-few))

      outer-put : LoopPut s c a (outer_of s c a) r t e
      unfolding outer_of
      outer-put = subst (λ (L : Model.Loop). LoopPut s c a L r t e) (whole a outer_l low up h o b f no) x

      pub outer-large : r ≡ false → length t ≡ nest_room → length e ≡ most_sides → Exchanges s c a (Err NumberOutOfRange) t e
      outer-large q w n = record {
        answered = settled false false _ _ few (λ _. sym (ap (◌&& small_loop (inner_of s c a)) (sym outer-put.small ∙ q)));
        made = λ z. untrue z;
        words = w;
        counts = n;
      }

      module _ (yes' : r ≡ true) (q : Bool) (v : List ℤ) (y : List ℕ) (z : LoopPut t e (a + 1) (loop_in (a + 1) low2 up2 k) q v y) where
        inner-put : LoopPut t e (a + 1) (inner_of s c a) q v y
        unfolding inner_of
        inner-put = subst (λ (L : Model.Loop). LoopPut t e (a + 1) L q v y) (whole (a + 1) inner_l low2 up2 k i d g none) z

        outer-sized : Sized a (outer_of s c a).lower × Sized a (outer_of s c a).upper
        unfolding outer_of
        outer-sized = let l = p.place in sized a outer_l low up h o b f (omega arith) no

        inner-sized : Sized (a + 1) (inner_of s c a).lower × Sized (a + 1) (inner_of s c a).upper
        unfolding inner_of
        inner-sized = let l = p.place in sized (a + 1) inner_l low2 up2 k i d g (omega arith) none

        outer-small : small_loop (outer_of s c a) ≡ true
        outer-small = sym outer-put.small ∙ yes'

        both-made : q ≡ true → PairMade s c a (outer_of s c a) (inner_of s c a) v y
        both-made w =
            let m = outer-put.made yes' in
            let n = inner-put.made w in
            pair_made s c a (outer_of s c a) (inner_of s c a) v y p outer-sized inner-sized (outer-ranges s c a p outer-few outer-small)
            (inner-ranges s c a p inner-few (sym inner-put.small ∙ w))
            (n.0 ∙ ap (λ l. lay_loop l (a + 1) (inner_of s c a)) m.0) (n.1 ∙ ap (λ l. lay_count l (a + 1) (inner_of s c a)) m.1)

        both-tested : q ≡ small_loop (outer_of s c a) && small_loop (inner_of s c a)
        both-tested = inner-put.small ∙ sym (ap (◌&& small_loop (inner_of s c a)) outer-small)

        pub inner-large : q ≡ false → length v ≡ nest_room → length y ≡ most_sides → Exchanges s c a (Err NumberOutOfRange) v y
        inner-large f w n = record {
          answered = settled false false _ _ few (λ _. sym f ∙ both-tested);
          made = λ m. untrue m;
          words = w;
          counts = n;
        }

        pub both-put : q ≡ true → length v ≡ nest_room → length y ≡ most_sides → Exchanges s c a (Ok tt) v y
        both-put f w n = record {
          answered = settled false true _ _ few (λ _. sym f ∙ both-tested);
          made = λ _. both-made f;
          words = w;
          counts = n;
        }
