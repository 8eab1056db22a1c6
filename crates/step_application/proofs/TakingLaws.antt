-- A step taken: what it asks of the loops and of the accesses, and its answer from both.
use mathlib.Core.Path.{◌≡◌, refl, sym, ◌∙◌, ap, ap₂, subst}
use mathlib.Core.Bool.{Bool, true, false, ◌&&◌, true≢false}
use mathlib.Core.List.{List}
use Prim.Native.Nat.{ℕ}
use lib.IntN.{ℤ}
use lib.ListN.{length}
use Rattle.lists.specs.Tests.{all}
use Rattle.model.specs.Ranges.{StepThere}
use Rattle.model.specs.Judge.{small_access}
use Rattle.step_kinds.specs.Kinds.{stage_of}
use Rattle.step_kinds.specs.declared.Stage.{Stage}
use Rattle.step_loops.specs.After.{After}
use Rattle.std.specs.Prelude.{Result, Ok, Err, ⊤}
use Rattle.step_exchange.specs.declared.StepError.{StepError}
use Rattle.step_exchange.specs.Answers.{step_answer}
use Rattle.step_exchange.proofs.AnswerLaws.{refused-anyway, accepted, answer-ok}
use Rattle.step_subscripts.specs.After.{accesses_after, AccessesIn, AccessesAfter}
use Rattle.step_application.specs.Taking.{LoopsIn, TakingIn, Takes}

-- ---- the step that a match found

module _ (s : List ℤ) (c : List ℕ) (depth : ℕ) (t d : Stage) (e : t ≡ d) where
  pub there : LoopsIn s c depth t → StepThere depth (stage_of d)
  there i = subst (λ (x : Stage). StepThere depth (stage_of x)) e i.there

  pub loops-are : (r : Result ⊤ StepError) (s' : List ℤ) (c' : List ℕ) → After (stage_of d) s c depth r s' c' → After (stage_of t) s c depth r s' c'
  loops-are r s' c' a = subst (λ (x : Stage). After (stage_of x) s c depth r s' c') (sym e) a

-- ---- both

module _ (s : List ℤ) (c : List ℕ) (w : List ℤ) (o a : List ℕ) (depth : ℕ) (t : Stage) (i : TakingIn s c w o a depth t) where
  pub accesses-in : AccessesIn w o a depth t
  accesses-in = record { step = record { few = i.loops.nest.shallow; there = i.loops.there }; held = i.accesses }

  abbrev more : Bool
  more = all small_access (accesses_after (stage_of t) w o a depth (length o))

  -- the loops are refused, whatever the subscripts
  pub takes-none : (e : StepError) (s' : List ℤ) (c' : List ℕ) → After (stage_of t) s c depth (Err e) s' c'
      → Takes (stage_of t) s c w o a depth (Err e) s' c' w
  takes-none e s' c' g = record {
    limits-room = g.words;
    counts-room = g.counts;
    words-room = refl;
    answered = refused-anyway _ _ more e g.answered;
    loops = λ x. absurd (true≢false (sym x));
    nest = λ x. absurd (true≢false (sym x));
    accesses = λ x. absurd (true≢false (sym x));
  }

  -- the loops are there: b tells of the subscripts
  pub takes-both : (s' : List ℤ) (c' : List ℕ) → After (stage_of t) s c depth (Ok tt) s' c' → (b : Bool) (w' : List ℤ)
      → AccessesAfter (stage_of t) w o a depth w' b → Takes (stage_of t) s c w o a depth (step_answer true b) s' c' w'
  takes-both s' c' g b w' h = let y = accepted _ _ g.answered in record {
    limits-room = g.words;
    counts-room = g.counts;
    words-room = h.room;
    answered = ap₂ step_answer (sym y.0) (h.test ∙ sym (ap (◌&& more) y.1));
    loops = λ _. g.whole refl;
    nest = λ _. g.nest refl;
    accesses = λ x. subst (AccessesAfter (stage_of t) w o a depth w') (answer-ok false b x).1 h;
  }
