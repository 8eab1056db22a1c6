-- A side that is filled limit by limit: repeats are dropped, and where one limit more than most_limits comes the side is full. It is under way in
-- wide numbers, row_room for each limit, as `nest_flat` (specs/Flat) has them among words. n is the number of loops outside.
use Rattle.std.specs.Prelude.{◌≡◌, Bool, true, List, ◌++◌, ℕ, ◌+◌, ◌*◌, ◌<◌, ◌≤◌, leb, ℤ, pos, nat_abs, length, get_or}
use Rattle.lists.specs.Tests.{all, unique}
use Rattle.model.specs.Ticket as Model
use Rattle.model.specs.Judge.{small_limit}
use Rattle.model.specs.Limits.{same_limit}
use Rattle.model.specs.Grammar.{most_loops, most_limits, row_room}
use Rattle.ticket_loops.specs.LoopReads.{LimitIn}
use Rattle.ticket_loops.specs.declared.Limit.{Limit}
use Rattle.nest_flat.specs.Flat.{limits_at}
use Rattle.ticket_loops.specs.Laid.{lay_limits}

-- the first `count` limits of f are what the limits ls leave, or count says that there are more than 16
pub record Holds (n : ℕ) (f : List ℤ) (count : ℕ) (ls : List Model.Limit) : Type 0 where
  pub few : leb count most_limits ≡ leb (length (unique same_limit ls)) most_limits
  pub limits : count ≤ most_limits → limits_at f n 0 count ≡ unique same_limit ls

-- a multiplier at place i is not negative
abbrev pub Natural : List ℤ → ℕ → Type 0
Natural f i = get_or f (i * 8) (pos 0) ≡ pos (nat_abs (get_or f (i * 8) (pos 0)))

pub record Filled (f : List ℤ) (count : ℕ) : Type 0 where
  pub room : length f ≡ most_limits * row_room
  pub natural : (i : ℕ) → i < most_limits → i < count → Natural f i

-- g with count d is f with count c and the limits ls added
pub record Adds (n : ℕ) (f : List ℤ) (c : ℕ) (ls : List Model.Limit) (g : List ℤ) (d : ℕ) : Type 0 where
  pub adds : (old : List Model.Limit) → Holds n f c old → Holds n g d (old ++ ls)
  pub within : Filled g d

-- ---- what is asked

-- a multiplier is a product of two that are within 32767
pub record WideIn (n : ℕ) (x : Limit) : Type 0 where
  pub place : n ≤ most_loops
  pub limit : LimitIn x
  pub multiplier : x.multiplier ≤ 1073676289

pub record SameIn (n : ℕ) (f : List ℤ) (k : ℕ) (x : Limit) : Type 0 where
  pub wide : WideIn n x
  pub room : length f ≡ most_limits * row_room
  pub inside : k < most_limits
  pub natural : Natural f k

pub record PushIn (n : ℕ) (f : List ℤ) (count : ℕ) (x : Limit) : Type 0 where
  pub wide : WideIn n x
  pub filled : Filled f count

-- limit k of a side under way
pub record HeldIn (f : List ℤ) (k : ℕ) : Type 0 where
  pub room : length f ≡ 128
  pub inside : k < 16
  pub natural : Natural f k

-- a side that is not full, and room for it among as many words
pub record PutIn (room j : ℕ) (f : List ℤ) (count n : ℕ) : Type 0 where
  pub filled : Filled f count
  pub few : count ≤ most_limits
  pub fits : (j + count) * 8 ≤ room
  pub shallow : n ≤ most_loops

-- ---- the limits ls were to be put over s from limit j on: r says whether all their numbers are small, and t is what is left

pub record SidePut (s : List ℤ) (j : ℕ) (ls : List Model.Limit) (r : Bool) (t : List ℤ) : Type 0 where
  pub small : r ≡ all small_limit ls
  pub made : r ≡ true → t ≡ lay_limits s j ls
