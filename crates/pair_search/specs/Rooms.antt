-- What a search keeps of a ticket's points: room for it, and what stands there.
use Rattle.std.specs.Prelude.{◌≡◌, Bool, List, ℕ, ◌*◌, ◌≤◌, ℤ, length}
use Rattle.model.specs.Grammar.{total, ticket_loops, most_loops, most_points, most_numbers, most_elements}
use Rattle.ticket_steps.specs.declared.Steps.{Steps}
use Rattle.nest_flat.specs.FlatNests.{FlatNest, nest_of, sizes_in}
use Rattle.nest_points.specs.Nests.{PointsAre}
use Rattle.nest_elements.specs.Nests.{NumbersAre}
use Rattle.dependence_marks.specs.Uses.{written_in}
use Rattle.step_points.specs.Points.{PointsMoved}
use Rattle.pair_partners.specs.Chains.{Links}

abbrev pub few_points : ℕ
few_points = 256

abbrev pub few_numbers : ℕ
few_numbers = 1024

-- few points, few numbers of elements at them and few elements
pub record Few (P : FlatNest) (n : ℕ) : Type 0 where
  pub points : n ≤ few_points
  pub numbers : P.accesses * n ≤ few_numbers
  pub elements : total (nest_of P).arrays ≤ few_numbers

-- room for n points, for their indices before and after the steps, for a number of each access at each of them, and for a head of each element
pub record RoomFor (P : FlatNest) (n points indices moved numbers elements : ℕ) : Type 0 where
  pub points-fit : n ≤ points
  pub indices-fit : n * P.depth ≤ indices
  pub moved-fit : n * most_loops ≤ moved
  pub numbers-fit : P.accesses * n ≤ numbers
  pub elements-fit : total (nest_of P).arrays ≤ elements
  pub most-points : points ≤ most_points
  pub most-indices : indices ≤ ticket_loops * most_points
  pub most-moved : moved ≤ most_loops * most_points
  pub most-numbers : numbers ≤ most_numbers
  pub most-elements : elements ≤ most_elements

-- the points are listed, moved by the first `step` steps to rows of `depth` numbers, numbered and linked
pub record Linked (P : FlatNest) (S : Steps) (n step : ℕ) (points : List ℤ) (numbers : List ℕ) (writes : List Bool) (named written : List ℕ)
    (moved : List ℤ) (depth : ℕ) : Type 0 where
  pub points-are : PointsAre P points n
  pub moved-are : PointsMoved points P.depth n S step moved depth
  pub numbers-are : NumbersAre P points n numbers
  pub writes_are : writes ≡ written_in (sizes_in P)
  pub links-are : Links numbers writes n P.accesses named written
