-- What a step asks of the flat slices of a nest, and what it leaves in them.
use Rattle.std.specs.Prelude.{◌≡◌, true, Result, ⊤, is_ok, List, ℕ, ◌+◌, ◌<◌, ◌≤◌, ℤ, length}
use Rattle.integers.specs.Difference.{size}
use Rattle.lists.specs.Tests.{all}
use Rattle.model.specs.Ticket.{Step}
use Rattle.model.specs.Grammar.{depth_after, most_loops, most_sides, nest_room}
use Rattle.model.specs.Limits.{loops_after}
use Rattle.model.specs.Judge.{few_limits, small_loop}
use Rattle.nest_flat.specs.Flat.{loops_from, NestOk}
use Rattle.step_exchange.specs.declared.StepError.{StepError}
use Rattle.step_exchange.specs.Answers.{step_answer}

pub record ReversalIn (s : List ℤ) (c : List ℕ) (depth a : ℕ) : Type 0 where
  pub nest : NestOk s c depth
  pub place : a < depth

pub record SkewIn (s : List ℤ) (c : List ℕ) (depth a d : ℕ) (factor : ℤ) : Type 0 where
  pub nest : NestOk s c depth
  pub place : a + 1 + d < depth
  pub near : size factor ≤ 32767

pub record SectionIn (s : List ℤ) (c : List ℕ) (depth a w : ℕ) : Type 0 where
  pub nest : NestOk s c depth
  pub place : a < depth
  pub room : depth < most_loops
  pub positive : 1 ≤ w
  pub narrow : w ≤ 256

pub record ExchangeIn (s : List ℤ) (c : List ℕ) (depth a : ℕ) : Type 0 where
  pub nest : NestOk s c depth
  pub place : a + 1 < depth

-- what it answers; where that is Ok, the slices hold the model's loops
pub record After (t : Step) (s : List ℤ) (c : List ℕ) (depth : ℕ) (r : Result ⊤ StepError) (s' : List ℤ) (c' : List ℕ) : Type 0 where
  pub words : length s' ≡ nest_room
  pub counts : length c' ≡ most_sides
  pub answered : r ≡ step_answer (few_limits (loops_after t (loops_from s c 0 depth))) (all small_loop (loops_after t (loops_from s c 0 depth)))
  pub whole : is_ok r ≡ true → loops_from s' c' 0 (depth_after t depth) ≡ loops_after t (loops_from s c 0 depth)
  pub nest : is_ok r ≡ true → NestOk s' c' (depth_after t depth)
