-- Points moved by steps: what it asks to move one and all of them, what comes of it, and how far indices grow.
use Rattle.std.specs.Prelude.{◌≡◌, List, map, ℕ, zero, suc, ◌+◌, ◌*◌, ◌≤◌, ℤ, length, take}
use Rattle.lists.specs.Membership.{All}
use Rattle.lists.specs.Parts.{rows}
use Rattle.integers.specs.Affine.{Within}
use Rattle.model.specs.Ticket.{Step}
use Rattle.model.specs.Grammar.{depth_after, most_loops, most_factor}
use Rattle.model.specs.Ranges.{StepThere, StepsThere}
use Rattle.model.specs.Steps.{forward, forward_all}
use Rattle.nest_rows.specs.Rows.{RowIs}
use Rattle.nest_points.specs.Stored.{RowsIn}
use Rattle.ticket_steps.specs.Steps.{steps_of, StepsIn}
use Rattle.ticket_steps.specs.declared.Steps.{Steps}
use Rattle.step_points.specs.declared.MovedPoint.{MovedPoint}

-- ---- how far indices grow

-- 2⁴²: the indices that a step is given; a multiple of one by a factor or a width stays in 64 bits
abbrev pub farthest : ℕ
farthest = 4398046511104

-- a step adds to an index at most most_factor times another
abbrev pub grown : ℕ → ℕ
grown m = m + most_factor * m

-- the bound of the indices after k steps, from ±100,000 on
unfoldable pub reach : ℕ → ℕ
reach zero = 100000
reach (suc k) = grown (reach k)

-- ---- one step

-- the loops that the step names are there, and no sum leaves 64 bits
pub record PointIn (row : List ℤ) (depth : ℕ) (t : Step) : Type 0 where
  pub shallow : depth ≤ most_loops
  pub there : StepThere depth t
  pub near : Within farthest (take depth row)

-- r begins with the point that the step makes of the row's. A bound grows if it is no less than the greatest width, below which remainders stay
pub record PointAfter (row : List ℤ) (depth : ℕ) (t : Step) (r : List ℤ) : Type 0 where
  pub is : RowIs (depth_after t depth) r (forward t (take depth row))
  pub near : (m : ℕ) → 256 ≤ m → Within m (take depth row) → Within (grown m) (take (depth_after t depth) r)

-- ---- the first steps of a ticket

-- the point that the first `done` of them make of p
abbrev pub after_steps : Steps → ℕ → List ℤ → List ℤ
after_steps S done p = forward_all (take done (steps_of S)) p

-- each step names loops that are there when it is reached, from a nest of this depth on
pub record StepsTaken (S : Steps) (depth done : ℕ) : Type 0 where
  pub steps : StepsIn S
  pub few : done ≤ S.count
  pub shallow : depth ≤ most_loops
  pub there : StepsThere depth (steps_of S)

pub record PointMoved (S : Steps) (done : ℕ) (p : List ℤ) (r : MovedPoint) : Type 0 where
  pub shallow : r.depth ≤ most_loops
  pub is : RowIs r.depth r.row (after_steps S done p)
  pub near : Within (reach done) (take r.depth r.row)

-- every point of the nest has r indices afterwards
pub record DepthAfter (S : Steps) (depth done r : ℕ) : Type 0 where
  pub shallow : r ≤ most_loops
  pub level : (p : List ℤ) → length p ≡ depth → length (after_steps S done p) ≡ r

-- ---- all points

-- count points stand row by row, and there is room for as many of the most loops
pub record PointsIn (points : List ℤ) (depth count : ℕ) (S : Steps) (done room : ℕ) : Type 0 where
  pub stored : RowsIn points depth count
  pub taken : StepsTaken S depth done
  pub fits : count * most_loops ≤ room

-- r is the depth afterwards
pub record PointsMoved (points : List ℤ) (depth count : ℕ) (S : Steps) (done : ℕ) (out : List ℤ) (r : ℕ) : Type 0 where
  pub depth-after : DepthAfter S depth done r
  pub room : count * r ≤ length out
  pub are : rows r count out ≡ map (after_steps S done) (rows depth count points)
  pub near : All (Within (reach done)) (rows r count out)
