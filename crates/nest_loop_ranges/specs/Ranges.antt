-- Ranges as the code holds them, an array of six, and sums over them: what the functions that sum ask.
use Rattle.std.specs.Prelude.{◌≡◌, Bool, cond, List, [], ◌∷◌, map, ℕ, ◌+◌, ◌≤◌, ℤ, pos, ◌*ℤ◌, length, take}
use Rattle.std.specs.Int.Signed.{lt_z}
use Rattle.integers.specs.Difference.{size}
use Rattle.integers.specs.Affine.{Within}
use Rattle.model.specs.Quick as Model
use Rattle.model.specs.Grammar.{most_loops}
use Rattle.nest_loop_ranges.specs.declared.Range.{Range}

abbrev pub range_as : Range → Model.Range
range_as r = record { least = r.least; greatest = r.greatest }

-- the ranges of the first n loops
unfoldable pub ranges_of : ℕ → List Range → List Model.Range
ranges_of n b = map range_as (take n b)

-- the least exceeds the greatest
unfoldable pub is_empty : Model.Range → Bool
is_empty r = lt_z r.greatest r.least

-- within ±32767
pub record NearRange (r : Model.Range) : Type 0 where
  pub low : size r.least ≤ 32767
  pub high : size r.greatest ≤ 32767

abbrev pub NearRanges : List Model.Range → Type 0
NearRanges [] = Unit {0}
NearRanges (r ∷ rs) = NearRange r × NearRanges rs

-- the ranges of n loops stand in the array
pub record RangesIn (n : ℕ) (b : List Range) : Type 0 where
  pub six : length b ≡ 6
  pub few : n ≤ most_loops
  pub near : NearRanges (ranges_of n b)

-- a coefficient times the one index where it is above 0, else times the other
unfoldable pub term_by : ℤ → ℤ → ℤ → ℤ
term_by c rising falling = cond (lt_z (pos 0) c) (c *ℤ rising) (c *ℤ falling)

-- a sum, and a coefficient with two indices
pub record TermIn (e c rising falling : ℤ) : Type 0 where
  pub sum : size e ≤ 17179869184
  pub coefficient : size c ≤ 32767
  pub up : size rising ≤ 32767
  pub down : size falling ≤ 32767

-- n coefficients from place at on
pub record SumIn (w : List ℤ) (at n : ℕ) (b : List Range) : Type 0 where
  pub small : Within 32767 w
  pub inside : at + n ≤ length w
  pub ranges : RangesIn n b
