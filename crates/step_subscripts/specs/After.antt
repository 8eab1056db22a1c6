-- What a step asks of the accesses of a flat slice (`nest_flat`, specs/Layout), and what it leaves there. n is the number of loops before the
-- step, w the words before it and v those after it.
use Rattle.std.specs.Prelude.{◌≡◌, Bool, true, ◌&&◌, List, map, ℕ, ◌+◌, ◌*◌, ◌≤◌, ℤ, length, take, drop}
use Rattle.integers.specs.Affine.{Within}
use Rattle.lists.specs.Tests.{all}
use Rattle.model.specs.Ticket as Model
use Rattle.model.specs.Grammar.{depth_after, most_loops}
use Rattle.model.specs.Ranges.{StepThere}
use Rattle.model.specs.Limits.{subscript_after, access_after}
use Rattle.model.specs.Judge.{small, small_access}
use Rattle.nest_flat.specs.Layout.{forms_from, accesses_from, AccessesOk}
use Rattle.step_kinds.specs.Kinds.{stage_of}
use Rattle.step_kinds.specs.declared.Stage.{Stage}

-- every number within ±32767, as `small_access` tests it
abbrev pub small_subscript : Model.Subscript → Bool
small_subscript s = small s.constant && all small s.coefficients

-- ---- what a step asks

-- the loops that it names are there
pub record StepFits (n : ℕ) (t : Stage) : Type 0 where
  pub few : n ≤ most_loops
  pub there : StepThere n (stage_of t)

-- of `count` subscripts from number `first` on; m is the number of loops after the step
pub record ChangeIn (w : List ℤ) (first count n m : ℕ) (t : Stage) : Type 0 where
  pub step : StepFits n t
  pub depth : m ≡ depth_after (stage_of t) n
  pub inside : (first + count) * 8 ≤ length w
  pub small : Within 32767 w

pub record AccessesIn (w : List ℤ) (o a : List ℕ) (n : ℕ) (t : Stage) : Type 0 where
  pub step : StepFits n t
  pub held : AccessesOk w o a n

-- ---- what it leaves

abbrev pub subscripts_after : Model.Step → List ℤ → ℕ → ℕ → ℕ → List Model.Subscript
subscripts_after t w n first count = map (subscript_after t) (forms_from w n first count)

abbrev pub accesses_after : Model.Step → List ℤ → List ℕ → List ℕ → ℕ → ℕ → List Model.Access
accesses_after t w o a n count = map (access_after t) (accesses_from w o a n 0 count)

-- `count` subscripts from number `first` on, that all passed; what stood before them and behind them stands
pub record Changed (t : Model.Step) (w : List ℤ) (n first count : ℕ) (v : List ℤ) : Type 0 where
  pub room : length v ≡ length w
  pub small : Within 32767 v
  pub passed : all small_subscript (subscripts_after t w n first count) ≡ true
  pub made : forms_from v (depth_after t n) first count ≡ subscripts_after t w n first count
  pub before : take (first * 8) v ≡ take (first * 8) w
  pub behind : drop ((first + count) * 8) v ≡ drop ((first + count) * 8) w

-- r says whether they passed
pub record Changes (t : Model.Step) (w : List ℤ) (n first count : ℕ) (v : List ℤ) (r : Bool) : Type 0 where
  pub room : length v ≡ length w
  pub test : r ≡ all small_subscript (subscripts_after t w n first count)
  pub changed : r ≡ true → Changed t w n first count v

-- all accesses of the slice: every number of every subscript is tried for refusal 12
pub record AccessesAfter (t : Model.Step) (w : List ℤ) (o a : List ℕ) (n : ℕ) (v : List ℤ) (r : Bool) : Type 0 where
  pub room : length v ≡ length w
  pub test : r ≡ all small_access (accesses_after t w o a n (length o))
  pub made : r ≡ true → accesses_from v o a (depth_after t n) 0 (length o) ≡ accesses_after t w o a n (length o)
  pub held : r ≡ true → AccessesOk v o a (depth_after t n)
