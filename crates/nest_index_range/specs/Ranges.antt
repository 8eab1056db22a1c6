-- The range of a loop: what a limit says of its index, and what the functions that find a loop's first and last index ask and give.
use Rattle.std.specs.Prelude.{◌≡◌, List, map, ℕ, ◌+◌, ◌*◌, ◌≤◌, ◌<◌, ℤ, pos, ◌<ℤ◌, length, get_or}
use Rattle.integers.specs.Difference.{size}
use Rattle.integers.specs.Affine.{Within}
use Rattle.model.specs.Ticket.{Limit, Loop}
use Rattle.model.specs.Points.{value, first_index, last_index}
use Rattle.model.specs.Grammar.{most_sides, nest_limits, nest_room, most_loops}
use Rattle.nest_flat.specs.Flat.{limits_at, Positive}
use Rattle.nest_index_range.specs.declared.Side.{Side}
use Rattle.nest_index_range.specs.Sides.{place, rounded, tightest}

-- within ±2^35, as the value of every limit is at indices within ±100,000
abbrev pub Narrow : ℤ → Type 0
Narrow z = size z ≤ 34359738368

-- the last index that a limit of a side allows
unfoldable pub allowed : Side → List ℤ → Limit → ℤ
allowed d outer l = rounded d (value l outer) (pos l.multiplier)

-- the end of the range of the loop that stands inside the indices outer
unfoldable pub end : Side → List ℤ → List ℕ → List ℤ → ℤ
end d s c outer = tightest d (map (allowed d outer) (limits_at s (length outer) (place d (length outer) * 16) (get_or c (place d (length outer)) 0)))

-- indices outside a loop that were admitted
pub record Outside (outer : List ℤ) : Type 0 where
  pub few : length outer ≤ most_loops
  pub near : Within 100000 outer

pub record LimitIn (s : List ℤ) (j : ℕ) (outer : List ℤ) : Type 0 where
  pub words : length s ≡ nest_room
  pub small : Within 32767 s
  pub inside : j < nest_limits
  pub outside : Outside outer

pub record DivisorIn (s : List ℤ) (j : ℕ) (outer : List ℤ) : Type 0 where
  pub limit : LimitIn s j outer
  pub positive : pos 0 <ℤ get_or s (j * 8) (pos 0)

-- n limits from limit j on
pub record SideIn (s : List ℤ) (j n : ℕ) (outer : List ℤ) : Type 0 where
  pub words : length s ≡ nest_room
  pub small : Within 32767 s
  pub some : 1 ≤ n
  pub inside : j + n ≤ nest_limits
  pub positive : Positive s j n
  pub outside : Outside outer

-- the loop that stands inside the indices outer
pub record RangeIn (s : List ℤ) (c : List ℕ) (outer : List ℤ) : Type 0 where
  pub counts : length c ≡ most_sides
  pub deep : length outer < most_loops
  pub lower : SideIn s (length outer * 32) (get_or c (length outer * 2) 0) outer
  pub upper : SideIn s (length outer * 32 + 16) (get_or c (length outer * 2 + 1) 0) outer

-- one side of it
pub record EndIn (d : Side) (s : List ℤ) (c : List ℕ) (outer : List ℤ) : Type 0 where
  pub counts : length c ≡ most_sides
  pub deep : length outer < most_loops
  pub side : SideIn s (place d (length outer) * 16) (get_or c (place d (length outer)) 0) outer

-- the two ends of a loop's range
pub record Ranged (L : Loop) (outer : List ℤ) (lo hi : ℤ) : Type 0 where
  pub first : lo ≡ first_index L outer
  pub last : hi ≡ last_index L outer
  pub low-size : Narrow lo
  pub high-size : Narrow hi
