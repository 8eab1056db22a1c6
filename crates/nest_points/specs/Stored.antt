-- Points stored row by row: what the functions that store them ask and give.
use Rattle.std.specs.Prelude.{◌≡◌, ℕ, ◌+◌, ◌*◌, ◌≤◌, ℤ, length}
use mathlib.Core.List.{List, flat_map}
use Rattle.lists.specs.Membership.{All}
use Rattle.lists.specs.Parts.{rows, put}
use Rattle.integers.specs.Affine.{Within}
use Rattle.model.specs.Grammar.{most_loops, most_points}
use Rattle.nest_flat.specs.Flat.{NestOk, loops_from}
use Rattle.nest_points.specs.Tallies.{through, Near}

-- the indices of all points, one point after the other
abbrev pub joined : List (List ℤ) → List ℤ
joined ps = flat_map (λ p. p) ps

-- the k indices outside stand, and `left` loops are to go; there is room from place `at` on
pub record CollectIn (s : List ℤ) (c : List ℕ) (k left : ℕ) (outer : List ℤ) (room at : ℕ) : Type 0 where
  pub nest : NestOk s c (k + left)
  pub stand : length outer ≡ k
  pub some : 1 ≤ left
  pub small : Within 100000 outer
  pub near : Near 100000 (loops_from s c k left) outer
  pub fits : at + length (joined (through (loops_from s c k left) outer)) ≤ room

pub record Collected (s : List ℤ) (c : List ℕ) (k left : ℕ) (outer o e : List ℤ) (at r : ℕ) : Type 0 where
  pub place : r ≡ at + length (joined (through (loops_from s c k left) outer))
  pub wrote : e ≡ put o at (joined (through (loops_from s c k left) outer))

-- points that stand in a slice row by row, within ±100,000
pub record RowsIn (points : List ℤ) (depth count : ℕ) : Type 0 where
  pub few : depth ≤ most_loops
  pub bound : count ≤ most_points
  pub room : count * depth ≤ length points
  pub near : All (Within 100000) (rows depth count points)
