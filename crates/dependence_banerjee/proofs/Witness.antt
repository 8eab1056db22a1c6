-- Real inputs meet `CoverIn`, so that the contract of the test says something: two accesses of an array with three dimensions, in six loops.
use mathlib.Core.Bool.{false}
use mathlib.Core.Path.{refl}
use Prim.Native.Nat.{ℕ, zero, suc}
use native.Mathlib.Omega.{arith}
use lib.IntN.{pos}
use lib.ListN.{replicate, length-replicate}
use Rattle.integers.specs.Affine.{Within}
use Rattle.model.specs.Directions.{vector_count}
use Rattle.nest_loop_ranges.specs.Ranges.{range_as, ranges_of, NearRange}
use Rattle.nest_loop_ranges.specs.declared.Range.{Range}
use Rattle.dependence_banerjee.specs.Covers.{CoverIn}

within-ones : (n : ℕ) → Within 32767 (replicate n (pos 1))
within-ones zero = tt
within-ones (suc n) = (omega arith, within-ones n)

-- indices from 0 to 3
abbrev four : Range
four = record { least = pos 0; greatest = pos 3 }

four-near : NearRange (range_as four)
four-near = record { low = omega arith; high = omega arith }

pub cover-in : CoverIn (replicate 48 (pos 1)) 0 1 3 6 (replicate 6 four) 0 (replicate vector_count false)
unfolding ranges_of
cover-in = let w = length-replicate 48 (pos 1) in let m = length-replicate vector_count false in record {
  small = within-ones 48;
  source = omega arith;
  sink = omega arith;
  dimensions = omega arith;
  ranges = record { six = refl; few = omega arith; near = (four-near, (four-near, (four-near, (four-near, (four-near, (four-near, tt)))))) };
  marks = omega arith;
}
