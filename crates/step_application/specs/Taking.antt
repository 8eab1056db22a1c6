-- What a step asks of the slices of a nest, and what taking it leaves there: s and c are limits and counts, w, o and a the accesses.
use Rattle.std.specs.Prelude.{◌≡◌, true, ◌&&◌, Result, ⊤, is_ok, List, ℕ, ℤ, length}
use Rattle.lists.specs.Tests.{all}
use Rattle.model.specs.Ticket as Model
use Rattle.model.specs.Grammar.{depth_after, most_sides, nest_room}
use Rattle.model.specs.Ranges.{StepThere}
use Rattle.model.specs.Limits.{loops_after}
use Rattle.model.specs.Judge.{few_limits, small_loop, small_access}
use Rattle.nest_flat.specs.Flat.{loops_from, NestOk}
use Rattle.nest_flat.specs.Layout.{AccessesOk}
use Rattle.step_kinds.specs.Kinds.{stage_of}
use Rattle.step_kinds.specs.declared.Stage.{Stage}
use Rattle.step_exchange.specs.declared.StepError.{StepError}
use Rattle.step_exchange.specs.Answers.{step_answer}
use Rattle.step_subscripts.specs.After.{accesses_after, AccessesAfter}

-- of the loops alone
pub record LoopsIn (s : List ℤ) (c : List ℕ) (depth : ℕ) (t : Stage) : Type 0 where
  pub nest : NestOk s c depth
  pub there : StepThere depth (stage_of t)

pub record TakingIn (s : List ℤ) (c : List ℕ) (w : List ℤ) (o a : List ℕ) (depth : ℕ) (t : Stage) : Type 0 where
  pub loops : LoopsIn s c depth t
  pub accesses : AccessesOk w o a depth

-- what it answers, and the model's loops and accesses after the step where that is Ok
pub record Takes (t : Model.Step) (s : List ℤ) (c : List ℕ) (w : List ℤ) (o a : List ℕ) (depth : ℕ) (r : Result ⊤ StepError) (s' : List ℤ) (c' : List ℕ)
    (w' : List ℤ) : Type 0 where
  pub limits-room : length s' ≡ nest_room
  pub counts-room : length c' ≡ most_sides
  pub words-room : length w' ≡ length w
  pub answered : r ≡ step_answer (few_limits (loops_after t (loops_from s c 0 depth))) (all small_loop (loops_after t (loops_from s c 0 depth))
      && all small_access (accesses_after t w o a depth (length o)))
  pub loops : is_ok r ≡ true → loops_from s' c' 0 (depth_after t depth) ≡ loops_after t (loops_from s c 0 depth)
  pub nest : is_ok r ≡ true → NestOk s' c' (depth_after t depth)
  pub accesses : is_ok r ≡ true → AccessesAfter t w o a depth w' true
