-- One step judged: the vectors after it; a stage of it on the slices of a flat nest, with the tests of 11 and 12; the step as the model judges it.
-- Its stages one after another are in `StageLaws`, what the steps before it left is in `LoopLaws`.
use mathlib.Core.Path.{◌≡◌, refl, sym, ◌∙◌, ap, subst}
use mathlib.Core.Bool.{Bool, true, false, ◌&&◌}
use mathlib.Core.List.{List, [], ◌∷◌, ◌++◌, map}
use Prim.Native.Nat.{ℕ, suc, ◌*◌, ◌≤◌}
use native.Mathlib.Omega.{arith}
use lib.IntN.{ℤ}
use lib.ListN.{length, take, drop, length-append, length-drop}
use lib.Seq.{take-append_seam}
use Rattle.integers.specs.Sign.{Sign}
use Rattle.lists.specs.Tests.{all}
use Rattle.model.specs.Answer.{Answer, refused, require, ◌>>=◌, ◌>>◌}
use Rattle.model.specs.Ticket as Model
use Rattle.model.specs.Ticket.{exchange, reversal, skew, section, circulation}
use Rattle.model.specs.Grammar.{depth_after, access_room, most_words}
use Rattle.model.specs.Ranges.{StepThere}
use Rattle.model.specs.Steps.{vectors_after, some_points_back}
use Rattle.model.specs.Limits.{loops_after, access_after, nest_after, nest_after_all}
use Rattle.model.specs.Judge.{few_limits, small_loop, small_access, small_numbers, stages, judge_stages, judge_steps}
use Rattle.model.proofs.Verdict.StageLaws.{after-stages}
use Rattle.model.proofs.Verdict.SameVectorsLaws.{points_back-same, judge_steps-same}
use Rattle.ticket_refusals.specs.Refusals.{refusal, answer_of}
use Rattle.ticket_refusals.specs.declared.Refusal.TheVariants.{DependenceReversed}
use Rattle.ticket_refusals.specs.declared.Refusal.{Refusal}
use Rattle.std.specs.Prelude.{Result, Ok, Err, is_ok}
use Rattle.nest_flat.specs.Flat.{loops_from}
use Rattle.nest_flat.specs.Layout.{accesses_from}
use Rattle.nest_flat.specs.FlatNests.{FlatNest, extents_in, accessed_in, words_in, nest_of, FlatNestIn, moved}
use Rattle.nest_flat.proofs.FlatNestLaws.{words_count, accessed-count}
use Rattle.step_kinds.specs.Kinds.{step_of, stage_of}
use Rattle.step_kinds.specs.declared.Stage.{Stage}
use Rattle.step_kinds.specs.declared.Step.{Step}
use Rattle.step_directions.specs.Sets.{vectors_of, DirectionIn, After}
use Rattle.step_directions.specs.declared.DirectionSet.{DirectionSet}
use Rattle.step_directions.proofs.AfterLaws.{few-after}
use Rattle.step_exchange.specs.declared.StepError.{StepError}
use Rattle.step_exchange.specs.Answers.{step_answer}
use Rattle.step_subscripts.specs.After.{accesses_after, AccessesAfter}
use Rattle.step_subscripts.specs.Relaid.{Relaid}
use Rattle.step_subscripts.proofs.FlatNestLaws.{nest-after, small-nest, flat-nest-after, accesses-moved, accesses-held}
use Rattle.step_judgement.proofs.StageLaws.{not-ok}
use Rattle.step_judgement.specs.Judgement.{unless, stage_refusal, stage_answer, StageTaken, TakeIn, Taken}

-- ---- the vectors after a step

-- at most six loops stay at most six
pub vectors-are : (s : DirectionSet) (t : Step) → DirectionIn s t → (r : DirectionSet) → After (step_of t) s r → After (step_of t) s r × (r.depth ≤ 6)
vectors-are s t i r a = (a, subst (λ m. m ≤ 6) (sym a.depth) (few-after (step_of t) s.depth i.few i.there))

-- ---- a stage on a flat nest

relaid : (P : FlatNest) (d : ℕ) (l : List ℤ) (c : List ℕ) (w : List ℤ) → Relaid P (moved P d l c w)
relaid P d l c w = record {
  arrays = refl;
  extents = refl;
  statements = refl;
  sizes = refl;
  rules = refl;
  constants = refl;
  accesses = refl;
  accessed = refl;
}

some_after : (t : Model.Step) (m : ℕ) → 1 ≤ m → 1 ≤ depth_after t m
unfolding depth_after
some_after (exchange a) m h = h
some_after (reversal a) m h = h
some_after (skew a d c) m h = h
some_after (section a w) m h = omega arith
some_after (circulation a b) m h = h

module _ (P : FlatNest) (t : Stage) (i : TakeIn P (stage_of t)) where
  abbrev h : FlatNestIn P
  h = i.flat-nest

  module _ (k : ℕ) (z : Result (Unit {0}) Refusal) (l : List ℤ) (c : List ℕ) (w : List ℤ)
      (g : StageTaken t k P.limits P.counts (words_in P) (accessed_in P) (extents_in P) P.depth z l c w) where
    abbrev r : Result (Unit {0}) StepError
    r = g.stepped

    -- what stands behind the words in use is not lent
    abbrev words : List ℤ
    words = w ++ drop (P.accesses * access_room) P.words

    part : take (P.accesses * access_room) words ≡ w
    part = ap (λ n. take n words) (sym (g.takes.words-room ∙ words_count P h)) ∙ take-append_seam w (drop (P.accesses * access_room) P.words)

    pub stage-words : length words ≡ most_words
    stage-words = let a = length-append w (drop (P.accesses * access_room) P.words) in let d = length-drop (P.accesses * access_room) P.words
        in let q = g.takes.words-room in let v = words_count P h in let f = h.few-accesses in let y = h.words-length in omega arith

    abbrev Q : FlatNest
    Q = moved P (depth_after (stage_of t) P.depth) l c words

    abbrev F : Bool
    F = few_limits (loops_after (stage_of t) (loops_from P.limits P.counts 0 P.depth))

    abbrev N : Bool
    N = all small_loop (loops_after (stage_of t) (loops_from P.limits P.counts 0 P.depth)) && all small_access
        (accesses_after (stage_of t) (words_in P) (accessed_in P) (extents_in P) P.depth (length (accessed_in P)))

    few-are : few_limits (nest_after (stage_of t) (nest_of P)).loops ≡ F
    unfolding nest_after nest_of
    few-are = refl

    small-are : small_numbers (nest_after (stage_of t) (nest_of P)) ≡ N
    small-are = small-nest P h (stage_of t)
        ∙ ap (λ n. all small_loop (loops_after (stage_of t) (loops_from P.limits P.counts 0 P.depth)) && all small_access
        (map (access_after (stage_of t)) (accesses_from (words_in P) (accessed_in P) (extents_in P) P.depth 0 n))) (sym (accessed-count P h))

    module _ (f : is_ok r ≡ true) where
      accesses : AccessesAfter (stage_of t) (words_in P) (accessed_in P) (extents_in P) P.depth (words_in Q) true
      accesses = subst (λ v. AccessesAfter (stage_of t) (words_in P) (accessed_in P) (extents_in P) P.depth v true) (sym part) (g.takes.accesses f)

      whole : nest_of Q ≡ nest_after (stage_of t) (nest_of P)
      whole = nest-after P Q (relaid P Q.depth l c words) (stage_of t) (accesses-moved P h Q (stage_of t) refl accesses) h (g.takes.loops f)

      flat-nest-is : FlatNestIn Q
      flat-nest-is = flat-nest-after P Q h (relaid P Q.depth l c words) (g.takes.nest f) (some_after (stage_of t) P.depth h.some)
          (accesses-held P h Q (stage_of t) refl accesses) stage-words

    -- what the model answers, by the two tests
    by : (f n : Bool) → F ≡ f → N ≡ n → answer_of (stage_answer (step_answer f n) k) ≡ judge_stages k (stage_of t ∷ []) (nest_of P)
    unfolding judge_stages require ◌>>◌ ◌>>=◌
    by false n ef en = rw (few-are ∙ ef)
    by true false ef en = rw (few-are ∙ ef, small-are ∙ en)
    by true true ef en = rw (few-are ∙ ef, small-are ∙ en)

    passes : z ≡ Ok tt → is_ok r ≡ true
    passes y = go r (sym g.answered ∙ y)
      where
        go : (x : Result (Unit {0}) StepError) → stage_answer x k ≡ Ok tt → is_ok x ≡ true
        go (Ok u) e = refl
        go (Err d) e = not-ok (stage_refusal d k) e

    pub stage-taken : Taken (stage_of t ∷ []) (depth_after (stage_of t) P.depth) k P z l c words
    unfolding nest_after_all
    stage-taken = record {
      same = ap answer_of (g.answered ∙ ap (λ x. stage_answer x k) g.takes.answered) ∙ by F N refl refl;
      nest = λ y. whole (passes y);
      flat-nest = λ y. flat-nest-is (passes y);
    }

-- ---- one step

module _ (k : ℕ) (t : Model.Step) (ts : List Model.Step) (vs : List (List Sign)) (N : Model.Nest) where
  stop-at-10 : some_points_back (vectors_after t vs) ≡ true → judge_steps k (t ∷ ts) vs N ≡ refused 10 k
  unfolding judge_steps require ◌>>◌ ◌>>=◌
  stop-at-10 b = rw b

  past-10 : some_points_back (vectors_after t vs) ≡ false
      → judge_steps k (t ∷ ts) vs N ≡ (judge_stages k (stages t) N >> judge_steps (suc k) ts (vectors_after t vs) (nest_after t N))
  unfolding judge_steps require ◌>>◌ ◌>>=◌
  past-10 b = rw b

module _ (P : FlatNest) (h : FlatNestIn P) (s : DirectionSet) (level : s.depth ≡ P.depth) (t : Step) (there : StepThere P.depth (step_of t)) where
  pub direction-in : DirectionIn s t
  direction-in = let f = h.nest.shallow in record { few = omega arith; there = subst (λ m. StepThere m (step_of t)) (sym level) there }

  module _ (q : DirectionSet) (a : After (step_of t) s q) where
    module _ (b : Bool) (p : b ≡ some_points_back (vectors_of q)) (k : ℕ) (ts : List Model.Step) where
      back_is : some_points_back (vectors_after (step_of t) (vectors_of s)) ≡ b
      back_is = sym (points_back-same a.vectors) ∙ sym p

      pub judged-back : b ≡ true → judge_steps k (step_of t ∷ ts) (vectors_of s) (nest_of P) ≡ refusal (DependenceReversed k)
      judged-back e = stop-at-10 k (step_of t) ts (vectors_of s) (nest_of P) (back_is ∙ e)

      module _ (e : b ≡ false) (m : ℕ) (z : Result (Unit {0}) Refusal) (l : List ℤ) (c : List ℕ) (w : List ℤ) (g : Taken (stages (step_of t)) m k P z l c w) where
        rest : Model.Nest → Answer Model.Nest
        rest N = judge_steps (suc k) ts (vectors_after (step_of t) (vectors_of s)) N

        by-stages : (x : Result (Unit {0}) Refusal) → answer_of x ≡ judge_stages k (stages (step_of t)) (nest_of P)
            → (x ≡ Ok tt → nest_of (moved P m l c w) ≡ nest_after_all (stages (step_of t)) (nest_of P))
            → (judge_stages k (stages (step_of t)) (nest_of P) >> rest (nest_after (step_of t) (nest_of P))) ≡ unless x
            (judge_steps (suc k) ts (vectors_of q) (nest_of (moved P m l c w)))
        unfolding rest ◌>>◌ ◌>>=◌
        by-stages (Ok v) u f =
            ap (λ a. a >> rest (nest_after (step_of t) (nest_of P))) (sym u)
            ∙ ap rest (after-stages (step_of t) (nest_of P) ∙ sym (f refl))
            ∙ sym (judge_steps-same (suc k) ts (nest_of (moved P m l c w)) a.vectors)
        by-stages (Err y) u f = ap (λ a. a >> rest (nest_after (step_of t) (nest_of P))) (sym u)

        pub judged-step : judge_steps k (step_of t ∷ ts) (vectors_of s) (nest_of P) ≡ unless z
            (judge_steps (suc k) ts (vectors_of q) (nest_of (moved P m l c w)))
        unfolding rest
        judged-step = past-10 k (step_of t) ts (vectors_of s) (nest_of P) (back_is ∙ e) ∙ by-stages z g.same g.nest

    pub level-goes-on : q.depth ≡ depth_after (step_of t) P.depth
    level-goes-on = a.depth ∙ ap (depth_after (step_of t)) level
