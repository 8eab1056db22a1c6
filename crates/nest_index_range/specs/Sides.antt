-- The two sides of a loop. A lower limit is rounded up, and the largest of all counts; an upper one is rounded down, and the smallest counts.
-- What is said of a side here is said of both.
use Rattle.std.specs.Prelude.{List, ℕ, ◌+◌, ◌*◌, ℤ}
use Rattle.integers.specs.Division.{floor_div, ceil_div}
use Rattle.model.specs.Points.{max_z, min_z, largest, smallest}
use Rattle.nest_index_range.specs.declared.Side.{Side}
use Rattle.nest_index_range.specs.declared.Side.TheVariants.{Lower, Upper}

abbrev pub other : Side → Side
other Lower = Upper
other Upper = Lower

-- of loop k, among the sides of a nest
abbrev pub place : Side → ℕ → ℕ
place Lower k = k * 2
place Upper k = k * 2 + 1

abbrev pub rounded : Side → ℤ → ℤ → ℤ
rounded Lower = ceil_div
rounded Upper = floor_div

abbrev pub tighter : Side → ℤ → ℤ → ℤ
tighter Lower = max_z
tighter Upper = min_z

abbrev pub tightest : Side → List ℤ → ℤ
tightest Lower = largest
tightest Upper = smallest
