-- The steps, then refusal 13 on the flat nest of the new nest, are the model's `judge_ticket`.
use mathlib.Core.Path.{◌≡◌, sym, ◌∙◌, ap, subst}
use mathlib.Core.List.{List}
use Prim.Native.Nat.{ℕ}
use lib.IntN.{ℤ}
use Rattle.model.specs.Answer.{Answer, accepted, ◌>>=◌, ◌>>◌}
use Rattle.model.specs.Ticket as Model
use Rattle.model.specs.Ranges.{NestRanges}
use Rattle.model.specs.Shape.{WellFormed}
use Rattle.model.specs.Bounds.{new_space}
use Rattle.model.specs.Limits.{nest_after_all}
use Rattle.model.specs.Judge as Judge
use Rattle.model.specs.Judge.{directions_of, judge_ticket}
use Rattle.model.specs.Reasons.{StepsPass}
use Rattle.model.proofs.Answers.PassLaws.{bind-pass, bind-stop}
use Rattle.model.proofs.Verdict.JudgeLaws.{judge_steps-accepted}
use Rattle.model.proofs.Promise.WrittenLaws.{new-formed, new-ranges}
use Rattle.ticket_refusals.specs.declared.Refusal.{Refusal}
use Rattle.ticket_refusals.specs.declared.Refusal.TheVariants.{NewNestTooLarge}
use Rattle.std.specs.Prelude.{Result, Ok, Err}
use Rattle.nest_points.specs.Surveys as Space
use Rattle.nest_points.specs.declared.SpaceError.{SpaceError}
use Rattle.nest_points.specs.declared.SpaceError.TheVariants.{IndexTooLarge, CountTooLarge}
use Rattle.ticket_steps.specs.Steps.{steps_of}
use Rattle.ticket_steps.specs.declared.Steps.{Steps}
use Rattle.nest_flat.specs.FlatNests.{FlatNest, flat_nest, nest_of}
use Rattle.nest_points.specs.Nests.{NestSurveyed}
use Rattle.step_directions.specs.declared.DirectionSet.{DirectionSet}
use Rattle.ticket_decoding.specs.Ticket.{ticket_on}
use Rattle.step_judgement.specs.Judgement.{SurveyedNew, JudgeIn, JudgesSteps, Judges}
use Rattle.step_judgement.specs.declared.Judged.{Judged}

-- ---- refusal 13

module _ (P : FlatNest) (v : Result ℕ SpaceError) (g : NestSurveyed P 100000 65536 v) where
  surveyed : Space.answer_of 13 13 v ≡ new_space (nest_of P).loops
  unfolding new_space
  surveyed = g.same 13 13

  pub new-admitted : (n : ℕ) → v ≡ Ok n → SurveyedNew P (Ok tt)
  new-admitted n e = sym (ap (Space.answer_of 13 13) e) ∙ surveyed

  pub new-far : (k : ℕ) → v ≡ Err (IndexTooLarge k) → SurveyedNew P (Err (NewNestTooLarge k))
  new-far k e = sym (ap (Space.answer_of 13 13) e) ∙ surveyed

  pub new-many : (k : ℕ) → v ≡ Err (CountTooLarge k) → SurveyedNew P (Err (NewNestTooLarge k))
  new-many k e = sym (ap (Space.answer_of 13 13) e) ∙ surveyed

-- ---- the ticket

module _ (P : FlatNest) (S : Steps) (s : DirectionSet) (i : JudgeIn P S s) (l w : List ℤ) where
  abbrev verdict : Model.Nest → Answer Judge.Judged
  verdict N = new_space N.loops >> accepted (record { ticket = ticket_on P S; new = N })

  pub steps-refused : (y : Refusal) → JudgesSteps P S (Err y) l w → Judges P S (Err y) l w
  unfolding judge_ticket ticket_on
  steps-refused y g = record { same = sym (bind-stop verdict (sym g.same)); new-nest = tt; directions = tt }

  module _ (j : Judged) (g : JudgesSteps P S (Ok j) l w) where
    abbrev new : Model.Nest
    new = nest_of (flat_nest j.header l w)

    made : (new ≡ nest_after_all (steps_of S) (nest_of P)) × StepsPass (steps_of S) (directions_of (nest_of P)) (nest_of P)
    made = judge_steps-accepted 1 (steps_of S) (directions_of (nest_of P)) (nest_of P) (sym g.same)

    ranges : NestRanges 6 16 new
    unfolding ticket_on
    ranges = subst (NestRanges 6 16) (sym made.0) (new-ranges (ticket_on P S) i.ranges i.formed (directions_of (nest_of P)) made.1)

    formed : WellFormed new
    unfolding ticket_on
    formed = subst WellFormed (sym made.0) (new-formed (ticket_on P S) i.ranges i.formed)

    pub new-refused : (y : Refusal) → SurveyedNew (flat_nest j.header l w) (Err y) → Judges P S (Err y) l w
    unfolding judge_ticket ticket_on ◌>>◌ ◌>>=◌
    new-refused y h = record {
      same = ap (◌>> accepted (record { ticket = ticket_on P S; new = new })) h ∙ sym (bind-pass verdict (sym g.same));
      new-nest = tt;
      directions = tt;
    }

    pub ticket-judged : SurveyedNew (flat_nest j.header l w) (Ok tt) → Judges P S (Ok j) l w
    unfolding judge_ticket ticket_on ◌>>◌ ◌>>=◌
    ticket-judged h = record {
      same = ap (◌>> accepted (record { ticket = ticket_on P S; new = new })) h ∙ sym (bind-pass verdict (sym g.same));
      new-nest = record { flat-nest = g.flat-nest; ranges = ranges; formed = formed; new-space-accepted = sym h };
      directions = g.directions;
    }
