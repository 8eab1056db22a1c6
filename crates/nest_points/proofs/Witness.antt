-- A real flat nest meets what the functions ask: one loop with the one index 1, an array of one element, and a statement that adds 1 to it.
use mathlib.Core.Path.{◌≡◌, refl, sym, subst}
use mathlib.Core.List.{flat_map}
use Prim.Native.Nat.{ℕ, zero, suc, ◌+◌, ◌*◌, ◌≤◌, ◌<◌}
use native.Mathlib.Omega.{arith}
use lib.IntN.{ℤ, pos}
use lib.Signed.{◌<ℤ◌}
use lib.ListN.{get_or, replicate, length-replicate, get_or-replicate}
use Rattle.lists.specs.Tests.{any}
use Rattle.lists.proofs.MembershipLaws.{all_nil, all_cons}
use Rattle.integers.specs.Affine.{Within, affine, dot}
use Rattle.integers.specs.Division.{floor_div, ceil_div}
use Rattle.integers.proofs.RingLaws.{zarith}
use Rattle.model.specs.Answer.{require, ◌>>◌, ◌>>=◌}
use Rattle.model.specs.Points.{largest, smallest, value, first_index, last_index, span, ints, indices, points, partial_points}
use Rattle.model.specs.Bounds.{last_of, beyond, survey, space}
use Rattle.model.specs.Grammar.{elements, total, nest_limits, nest_room, most_sides, most_points, array_room}
use Rattle.model.specs.Store.{sum}
use Rattle.nest_flat.specs.Flat.{limit_at, limits_at, loop_at, loops_from, Positive, NestOk}
use Rattle.nest_flat.specs.Layout.{extents_at, arrays_from, arrays_of, AccessesOk}
use Rattle.nest_flat.specs.FlatNests.{FlatNest, nest_of, extents_in, accessed_in, words_in, FlatNestIn}
use Rattle.nest_flat.proofs.Plain.{plain}
use Rattle.nest_points.specs.Tallies.{Bounded}
use Rattle.nest_points.specs.Nests.{ListIn}
use Rattle.nest_points.proofs.ListLaws.{admitted-near, admitted-few}

abbrev pub counter : FlatNest
counter = plain 2 1

within : (a n : ℕ) → a ≤ 1 → Within 32767 (replicate n (pos a))
within a zero h = tt
within a (suc n) h = (omega arith, within a n h)

-- ---- its loop

one : (i : ℕ) → i < most_sides → get_or counter.counts i 0 ≡ 1
one i h = get_or-replicate {A = ℕ} most_sides i 1 0 h

positive : (j n : ℕ) → j + n ≤ nest_limits → Positive counter.limits j n
positive j n g i h = let e = get_or-replicate nest_room ((j + i) * 8) (pos 1) (pos 0) (omega arith) in
    subst (λ (z : ℤ). pos 0 <ℤ z) (sym e) (omega zarith)

loop-ok : NestOk counter.limits counter.counts 1
loop-ok = record {
  words = length-replicate nest_room (pos 1);
  counts = refl;
  shallow = omega arith;
  small = within 1 nest_room (omega arith);
  lower-count = λ k h. let e = one (k * 2) (omega arith) in (omega arith, omega arith);
  upper-count = λ k h. let e = one (k * 2 + 1) (omega arith) in (omega arith, omega arith);
  lower-positive = λ k h. let e = one (k * 2) (omega arith) in positive (k * 32) (get_or counter.counts (k * 2) 0) (omega arith);
  upper-positive = λ k h. let e = one (k * 2 + 1) (omega arith) in positive (k * 32 + 16) (get_or counter.counts (k * 2 + 1) 0) (omega arith);
}

-- ---- its accesses

small : (n j : ℕ) → get_or {A = ℕ} (replicate n 1) j 0 ≤ 1
small zero j = omega arith
small (suc n) zero = omega arith
small (suc n) (suc j) = small n j

accesses-ok : AccessesOk (words_in counter) (accessed_in counter) (extents_in counter) 1
accesses-ok = record {
  words = refl;
  many = omega arith;
  few = omega arith;
  shallow = omega arith;
  small = within 0 48 (omega arith);
  dimensions = λ i h. let e = small array_room (i * 4) in omega arith;
  extents = λ j. let e = small array_room j in omega arith;
  there = λ k h. let e = get_or-replicate {A = ℕ} 2 k 0 0 h in omega arith;
}

-- ---- all of it

pub counter-in : FlatNestIn counter
unfolding sum total elements arrays_of arrays_from extents_at
counter-in = record {
  nest = loop-ok;
  some = omega arith;
  accesses-ok = accesses-ok;
  fits = omega arith;
  all-accesses = refl;
  each = all_cons (λ (m : ℕ). 1 ≤ m) (omega arith) (all_nil (λ (m : ℕ). 1 ≤ m));
  few-arrays = omega arith;
  few-statements = omega arith;
  few-accesses = omega arith;
  extents-length = refl;
  sizes-length = refl;
  accessed-length = refl;
  words-length = refl;
  rules-length = refl;
  constants-length = refl;
}

pub counter-listed : ListIn counter most_points
unfolding nest_of space survey ◌>>◌ ◌>>=◌ require any beyond last_of partial_points points flat_map indices ints span first_index last_index largest
    smallest value affine dot ceil_div floor_div loops_from loop_at limits_at limit_at
counter-listed = let f = admitted-few (nest_of counter).loops (omega arith) refl in record {
  flat-nest = counter-in;
  near = admitted-near (nest_of counter).loops refl;
  few = f;
  fits = omega arith;
}

pub counter-surveyed : FlatNestIn counter × Bounded 100000 65536
counter-surveyed = (counter-in, record { near = omega arith; few = omega arith })
