-- A flat nest that meets what writing asks: one loop from 1 to 1, an array of one element and a statement that stores 0 in it.
use mathlib.Core.Path.{refl, sym, ap, subst}
use Prim.Native.Nat.{ℕ, zero, suc, ◌+◌, ◌*◌, ◌≤◌, ◌<◌}
use native.Mathlib.Omega.{arith}
use lib.IntN.{pos, nat_abs}
use lib.Signed.{◌<ℤ◌}
use lib.ListN.{length, get_or, replicate, length-replicate, get_or-replicate}
use Rattle.lists.proofs.MembershipLaws.{all_nil, all_cons}
use Rattle.integers.specs.Affine.{Within}
use Rattle.integers.proofs.RingLaws.{zarith}
use Rattle.model.specs.Grammar.{elements, total, extents, most_words, nest_room, access_room}
use Rattle.model.specs.Store.{sum}
use Rattle.model.specs.Ranges.{InRange, Small, LimitRanges, LoopRanges, ArrayRanges, SubscriptRanges, AccessRanges, StatementRanges, NestRanges}
use Rattle.model.specs.Shape.{Runs, Fits, FitsAll, WellFormed}
use Rattle.nest_flat.specs.Flat.{limit_at, limits_at, loop_at, loops_from, NestOk}
use Rattle.nest_flat.specs.Layout.{extents_at, arrays_from, arrays_of, form_at, forms_from, access_at, accesses_from, AccessesOk}
use Rattle.nest_flat.proofs.Plain.{plain}
use Rattle.nest_flat.specs.FlatNests.{FlatNest, words_in, accessed_in, extents_in, statements_from, nest_of, FlatNestIn}
use Rattle.ticket_encoding.specs.Encodable.{FlatNestEncodable}

abbrev smallest : FlatNest
smallest = plain 1 0

within-ones : (n : ℕ) → Within 32767 (replicate n (pos 1))
within-ones zero = tt
within-ones (suc n) = (omega arith, within-ones n)

within-zeros : (n : ℕ) → Within 32767 (replicate n (pos 0))
within-zeros zero = tt
within-zeros (suc n) = (omega arith, within-zeros n)

count : (i : ℕ) → i < 12 → (1 ≤ get_or smallest.counts i 0) × (get_or smallest.counts i 0 ≤ 16)
count i h = let e = get_or-replicate {A = ℕ} 12 i 1 0 h in (omega arith, omega arith)

multiplier : (i : ℕ) → i < nest_room → pos 0 <ℤ get_or smallest.limits i (pos 0)
multiplier i h = subst (λ z. pos 0 <ℤ z) (sym (get_or-replicate nest_room i (pos 1) (pos 0) h)) (omega zarith)

nest-ok : NestOk smallest.limits smallest.counts 1
nest-ok = record {
  words = length-replicate nest_room (pos 1);
  counts = length-replicate {A = ℕ} 12 1;
  shallow = omega arith;
  small = within-ones nest_room;
  lower-count = λ k h. count (k * 2) (omega arith);
  upper-count = λ k h. count (k * 2 + 1) (omega arith);
  lower-positive = λ k h i b. multiplier ((k * 32 + i) * 8) (let e = (count (k * 2) (omega arith)).1 in omega arith);
  upper-positive = λ k h i b. multiplier ((k * 32 + 16 + i) * 8) (let e = (count (k * 2 + 1) (omega arith)).1 in omega arith);
}

extent : (j : ℕ) → get_or (extents_in smallest) j 0 ≤ 1
extent zero = omega arith
extent (suc zero) = omega arith
extent (suc (suc zero)) = omega arith
extent (suc (suc (suc zero))) = omega arith
extent (suc (suc (suc (suc j)))) = omega arith

its-array : (k : ℕ) → k < 1 → get_or (accessed_in smallest) k 0 < 1
its-array zero h = omega arith
its-array (suc k) h = absurd (omega arith)

accesses-ok : AccessesOk (words_in smallest) (accessed_in smallest) (extents_in smallest) 1
accesses-ok = record {
  words = refl;
  many = omega arith;
  few = omega arith;
  shallow = omega arith;
  small = within-zeros access_room;
  dimensions = λ i h. let e = extent (i * 4) in omega arith;
  extents = λ j. let e = extent j in omega arith;
  there = its-array;
}

flat-nest-in : FlatNestIn smallest
unfolding arrays_of arrays_from extents_at total elements sum
flat-nest-in = record {
  nest = nest-ok;
  some = omega arith;
  accesses-ok = accesses-ok;
  fits = omega arith;
  all-accesses = refl;
  each = all_cons (λ m. 1 ≤ m) (omega arith) (all_nil (λ m. 1 ≤ m));
  few-arrays = omega arith;
  few-statements = omega arith;
  few-accesses = omega arith;
  extents-length = refl;
  sizes-length = refl;
  accessed-length = refl;
  words-length = length-replicate most_words (pos 0);
  rules-length = refl;
  constants-length = refl;
}

-- ---- ranges

limit-ranges : (j : ℕ) → j < 192 → LimitRanges (limit_at smallest.limits 0 j)
unfolding limit_at
limit-ranges j h =
    let m = ap nat_abs (get_or-replicate nest_room (j * 8) (pos 1) (pos 0) (omega arith)) in
    let c = ap nat_abs (get_or-replicate nest_room (j * 8 + 1) (pos 1) (pos 0) (omega arith)) in
    record { multiplier = record { low = omega arith; high = omega arith }; constant = omega arith; coefficients = all_nil Small }

loop-ranges : LoopRanges 16 (loop_at smallest.limits smallest.counts 0)
unfolding loop_at limits_at
loop-ranges = record {
  few-lower = record { low = omega arith; high = omega arith };
  few-upper = record { low = omega arith; high = omega arith };
  lower = all_cons LimitRanges (limit-ranges 0 (omega arith)) (all_nil LimitRanges);
  upper = all_cons LimitRanges (limit-ranges 16 (omega arith)) (all_nil LimitRanges);
}

access-ranges : AccessRanges (access_at (words_in smallest) (accessed_in smallest) (extents_in smallest) 1 0)
unfolding access_at forms_from form_at
access-ranges = all_cons SubscriptRanges (record { constant = omega arith; coefficients = all_cons Small (omega arith) (all_nil Small) })
    (all_nil SubscriptRanges)

nest-ranges : NestRanges 6 16 (nest_of smallest)
unfolding nest_of loops_from arrays_of arrays_from extents_at statements_from accesses_from total elements
nest-ranges = record {
  few-loops = record { low = omega arith; high = omega arith };
  loops = all_cons (LoopRanges 16) loop-ranges (all_nil (LoopRanges 16));
  few-arrays = record { low = omega arith; high = omega arith };
  arrays = all_cons ArrayRanges (record {
    dimensions = record { low = omega arith; high = omega arith };
    extents = all_cons (InRange 1 4096)
        (record { low = omega arith; high = omega arith }) (all_nil (InRange 1 4096));
  }) (all_nil ArrayRanges);
  room = omega arith;
  few-statements = record { low = omega arith; high = omega arith };
  statements = all_cons StatementRanges
      (record {
        rule = omega arith;
        constant = omega arith;
        one-write = refl;
        few-reads = omega arith;
        copy-reads = λ e. absurd (omega arith);
        copy-constant = λ e. refl;
        writes = all_cons AccessRanges access-ranges (all_nil AccessRanges);
        reads = all_nil AccessRanges;
      })
      (all_nil StatementRanges);
}

-- ---- the shape

nest-formed : WellFormed (nest_of smallest)
unfolding nest_of loops_from loop_at limits_at limit_at arrays_of arrays_from extents_at statements_from access_at accesses_from forms_from form_at extents
nest-formed = record {
  shaped = ((all_cons _ refl (all_nil _), all_cons _ refl (all_nil _)), tt);
  runs = all_cons Runs (record {
    some-lower = λ e. absurd (omega (arith, ap length e));
    some_upper = λ e. absurd (omega (arith, ap length e));
    positive-lower = all_cons _ (omega arith) (all_nil _);
    positive-upper = all_cons _ (omega arith) (all_nil _);
  }) (all_nil Runs);
  fits = all_cons (FitsAll _ 1) (record {
    writes = all_cons (Fits _ 1) (record {
      there = omega arith;
      dimensions = refl;
      wide = all_cons _ refl
          (all_nil _);
    }) (all_nil (Fits _ 1));
    reads = all_nil (Fits _ 1);
  }) (all_nil (FitsAll _ 1));
}

pub encodable : FlatNestEncodable smallest
encodable = record { flat-nest = flat-nest-in; ranges = nest-ranges; formed = nest-formed }
