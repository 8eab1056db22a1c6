-- The least and the greatest value of a loop: what a limit says of them, and what the functions that find them ask.
use Rattle.std.specs.Prelude.{◌≡◌, List, map, ℕ, suc, ◌+◌, ◌*◌, ◌≤◌, ◌<◌, ℤ, pos, ◌+ℤ◌, ◌<ℤ◌, length, get_or}
use Rattle.integers.specs.Affine.{Within}
use Rattle.model.specs.Ticket.{Limit}
use Rattle.model.specs.Quick as Model
use Rattle.model.specs.Quick.{range_of, ranges}
use Rattle.model.specs.Grammar.{nest_limits, nest_room}
use Rattle.nest_flat.specs.Flat.{limits_at, loop_at, loops_from, Positive, NestOk}
use Rattle.nest_index_range.specs.declared.Side.{Side}
use Rattle.nest_index_range.specs.Sides.{rounded, tightest}
use Rattle.nest_loop_ranges.specs.declared.Range.{Range}
use Rattle.nest_loop_ranges.specs.Ranges.{ranges_of, RangesIn}
use Rattle.nest_loop_ranges.specs.Extremes.{extreme_sum}

-- the extreme index that a limit of a side allows over the ranges outside
abbrev pub extreme_of : Side → List Model.Range → Limit → ℤ
extreme_of d rs l = rounded d (l.constant +ℤ extreme_sum d l.coefficients rs) (pos l.multiplier)

-- of n limits from limit j on, of a loop with k loops outside
unfoldable pub extreme_from : Side → List ℤ → ℕ → ℕ → ℕ → List Model.Range → ℤ
extreme_from d s k j n rs = tightest d (map (extreme_of d rs) (limits_at s k j n))

-- the range of loop k
unfoldable pub range_at : List ℤ → List ℕ → ℕ → Model.Range
range_at s c k = range_of (ranges (loops_from s c 0 k)) (loop_at s c k)

-- none of n limits from limit j on has a coefficient of loop i
abbrev pub Free : List ℤ → ℕ → ℕ → ℕ → Type 0
Free s j n i = (l : ℕ) → l < n → get_or s ((j + l) * 8 + 2 + i) (pos 0) ≡ pos 0

-- limit j, of a loop with k loops outside
pub record LimitIn (s : List ℤ) (j k : ℕ) (b : List Range) : Type 0 where
  pub words : length s ≡ nest_room
  pub small : Within 32767 s
  pub inside : j < nest_limits
  pub positive : pos 0 <ℤ get_or s (j * 8) (pos 0)
  pub outside : RangesIn k b

-- n limits from limit j on
pub record SideIn (s : List ℤ) (j n k : ℕ) (b : List Range) : Type 0 where
  pub words : length s ≡ nest_room
  pub small : Within 32767 s
  pub some : 1 ≤ n
  pub inside : j + n ≤ nest_limits
  pub positive : Positive s j n
  pub outside : RangesIn k b

-- loop k inside the ranges of the loops before it
pub record LoopIn (s : List ℤ) (c : List ℕ) (k : ℕ) (b : List Range) : Type 0 where
  pub nest : NestOk s c (suc k)
  pub outside : RangesIn k b

-- the array holds the ranges of the first n loops
pub record RangesAre (s : List ℤ) (c : List ℕ) (n : ℕ) (b : List Range) : Type 0 where
  pub are : ranges_of n b ≡ ranges (loops_from s c 0 n)
  pub held : RangesIn n b
