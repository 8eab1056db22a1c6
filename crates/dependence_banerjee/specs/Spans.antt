-- What the difference of two terms, and of two sums of subscripts, can be at iterations with given signs.
use Rattle.std.specs.Prelude.{◌≡◌, List, map, ℕ, ◌≤◌, ◌<◌, ℤ, pos, ◌-ℤ◌, ◌*ℤ◌, ◌≤ℤ◌}
use Rattle.integers.specs.Difference.{size}
use Rattle.integers.proofs.OrderLaws.{◌∣ℤ◌}
use Rattle.integers.specs.Sign.{sign}
use Rattle.model.specs.Bounds.{subscript_at}
use Rattle.model.specs.Directions.{signs}
use Rattle.model.specs.Grammar.{most_loops}
use Rattle.model.specs.Quick.{Contains, InRanges}
use Rattle.nest_flat.specs.Layout.{forms_from}
use Rattle.nest_loop_ranges.specs.declared.Range.{Range}
use Rattle.nest_loop_ranges.specs.Ranges.{range_as, ranges_of, NearRange, RangesIn}
use Rattle.dependence_vectors.specs.Numbers.{digit, number_after}
use Rattle.dependence_banerjee.specs.Sums.{difference, SumsIn}

-- ---- one loop

-- coefficients that are sums of three words, and a range
pub record SpanIn (c d : ℤ) (r : Range) : Type 0 where
  pub source : size c ≤ 98301
  pub sink : size d ≤ 98301
  pub range : NearRange (range_as r)

-- two such coefficients, and two indices of a range or beside it
pub record TermDifferenceIn (c d x y : ℤ) : Type 0 where
  pub source : size c ≤ 98301
  pub sink : size d ≤ 98301
  pub first : size x ≤ 32768
  pub second : size y ≤ 32768

-- a range of what two terms can differ by
pub record Filled (r : Range) : Type 0 where
  pub low : size r.least ≤ 6442254336
  pub high : size r.greatest ≤ 6442254336
  pub order : r.least ≤ℤ r.greatest

-- t is filled, and has all of r, and z
pub record Widened (r : Range) (z : ℤ) (t : Range) : Type 0 where
  pub filled : Filled t
  pub low : t.least ≤ℤ r.least
  pub high : r.greatest ≤ℤ t.greatest
  pub new : Contains (range_as t) z

-- t has the difference of the two terms wherever the indices have the sign with digit s
pub record Spans (c d : ℤ) (r : Range) (s : ℕ) (t : Range) : Type 0 where
  pub low : size t.least ≤ 6442254336
  pub high : size t.greatest ≤ 6442254336
  pub holds : (x y : ℤ) → Contains (range_as r) x → Contains (range_as r) y → digit (sign x y) ≡ s → Contains (range_as t) (c *ℤ x -ℤ d *ℤ y)

-- ---- all loops

-- p and q are iterations of n loops in their ranges, whose signs make the number u
pub record Directed (n : ℕ) (b : List Range) (u : ℕ) (p q : List ℤ) : Type 0 where
  pub source : InRanges (ranges_of n b) p
  pub sink : InRanges (ranges_of n b) q
  pub number : number_after 0 (signs p q) ≡ u

-- m subscripts from i on and as many from j on, in a nest of n loops
pub record RegionIn (w : List ℤ) (i j m n : ℕ) (b : List Range) : Type 0 where
  pub sums : SumsIn w i j m
  pub ranges : RangesIn n b

-- the coefficients of loop k − 1, its range, and a sign's digit
pub record TermIn (w : List ℤ) (i j m k : ℕ) (r : Range) (s : ℕ) : Type 0 where
  pub sums : SumsIn w i j m
  pub loop : k ≤ most_loops
  pub range : NearRange (range_as r)
  pub digit : s < 3

-- two ranges to be summed
pub record PairIn (r t : Range) : Type 0 where
  pub first-low : size r.least ≤ 68719476736
  pub first-high : size r.greatest ≤ 68719476736
  pub second-low : size t.least ≤ 68719476736
  pub second-high : size t.greatest ≤ 68719476736

-- t has the sum of m subscripts from i on, less that of m from j on, wherever the iterations have the signs
pub record Extent (w : List ℤ) (i j m n : ℕ) (b : List Range) (u : ℕ) (t : Range) : Type 0 where
  pub low : size t.least ≤ 68719476736
  pub high : size t.greatest ≤ 68719476736
  pub holds : (p q : List ℤ) → Directed n b u p q → Contains (range_as t) (difference w i j m n p q)

-- the two sums are never equal
abbrev pub Excluded : List ℤ → ℕ → ℕ → ℕ → ℕ → List Range → ℕ → Type 0
Excluded w i j m n b u = (p q : List ℤ) → Directed n b u p q → difference w i j m n p q ≡ pos 0 → ⊥

-- no multiple of g is in r
abbrev pub NoMultiple : Range → ℕ → Type 0
NoMultiple r g = (z : ℤ) → Contains (range_as r) z → pos g ∣ℤ z → ⊥

-- no iterations have the signs
abbrev pub NoIterations : ℕ → List Range → ℕ → Type 0
NoIterations n b u = (p q : List ℤ) → Directed n b u p q → ⊥

-- at no iterations with the signs d subscripts from i on equal those from j on
abbrev pub Impossible : List ℤ → ℕ → ℕ → ℕ → ℕ → List Range → ℕ → Type 0
Impossible w i j d n b u =
    (p q : List ℤ) → Directed n b u p q → map (subscript_at p) (forms_from w n i d) ≡ map (subscript_at q) (forms_from w n j d) → ⊥
