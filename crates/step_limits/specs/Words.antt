-- Limits among the flat words of a nest: what it asks to read one, and to put one there.
use Rattle.std.specs.Prelude.{ℕ, ◌+◌, ◌*◌, ◌≤◌, ℤ, pos, ◌<ℤ◌, length, get_or, List}
use Rattle.integers.specs.Affine.{Within}
use Rattle.model.specs.Grammar.{most_loops, most_limits}
use Rattle.nest_flat.specs.Flat.{Positive}

-- limit j, of a loop with n loops outside
pub record LimitRoom (s : List ℤ) (j n : ℕ) : Type 0 where
  pub fits : j * 8 + 8 ≤ length s
  pub shallow : n ≤ most_loops

pub record LimitThere (s : List ℤ) (j n : ℕ) : Type 0 where
  pub room : LimitRoom s j n
  pub small : Within 32767 s
  pub positive : pos 0 <ℤ get_or s (j * 8) (pos 0)

-- what `NestOk` says of loop k
pub record LoopOk (s : List ℤ) (c : List ℕ) (k : ℕ) : Type 0 where
  pub lower-count : (1 ≤ get_or c (k * 2) 0) × (get_or c (k * 2) 0 ≤ most_limits)
  pub upper-count : (1 ≤ get_or c (k * 2 + 1) 0) × (get_or c (k * 2 + 1) 0 ≤ most_limits)
  pub lower-positive : Positive s (k * 32) (get_or c (k * 2) 0)
  pub upper-positive : Positive s (k * 32 + 16) (get_or c (k * 2 + 1) 0)
