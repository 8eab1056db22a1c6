use mathlib.Core.Path.{◌≡◌, subst}
use mathlib.Core.Bool.{false}
use Prim.Native.Nat.{ℕ, ◌+◌, ◌*◌}
use native.Mathlib.Omega.{arith}
use borrow.Author.Count.{below_more}
use lib.ListN.{get_or}
use Rattle.lists.proofs.TestLaws.{true-T}
use Rattle.nest_flat.specs.Layout.{form_at}
use Rattle.nest_loop_ranges.specs.Ranges.{ranges_of}
use Rattle.nest_bounding_box.specs.Subscripts.{Enclosed, FirstEnclosed}
use Rattle.nest_bounding_box.proofs.SubscriptLaws.{its-array-ends, flat, subscript-in}
use Rattle.nest_bounding_box.proofs.access_fits.Goals as goal

pub offset_bounds-accessed-k : goal.offset_bounds-accessed-k
offset_bounds-accessed-k c = let h = c.requires.1 in let m = c.requires.0.accesses.many in omega arith

pub bounds-accessed-k : goal.bounds-accessed-k
bounds-accessed-k c = c.requires.1

pub overflow_mul-at : goal.overflow_mul-at
overflow_mul-at c = omega (
  arith,
  (its-array-ends c.requires.0 c.requires.1).0,
  (its-array-ends
      c.requires.0 c.requires.1).1,
)

pub offset_bounds-arrays-at : goal.offset_bounds-arrays-at
offset_bounds-arrays-at c = omega (
  arith,
  (its-array-ends c.requires.0 c.requires.1).0,
  (its-array-ends
      c.requires.0 c.requires.1).1,
)

pub bounds-arrays-at : goal.bounds-arrays-at
bounds-arrays-at c = omega (
  arith,
  (its-array-ends c.requires.0
      c.requires.1).0,
)

pub loop-d-init : goal.loop-d-init
loop-d-init c = (omega arith, λ d h. absurd (omega arith))

pub overflow_mul-k : goal.overflow_mul-k
overflow_mul-k c = let h = c.requires.1
    in let m = c.requires.0.accesses.many in omega arith

pub overflow_add-k : goal.overflow_add-k
overflow_add-k c = let h = c.requires.1
    in let m = c.requires.0.accesses.many in let f = flat
    c.requires.0 h in let t = c.loop-d-test.true in omega arith

pub overflow_add-at : goal.overflow_add-at
overflow_add-at c = omega (
  arith,
  (its-array-ends c.requires.0
      c.requires.1).0,
  (its-array-ends c.requires.0
      c.requires.1).1,
)

pub overflow_add-at-in-loop-d : goal.overflow_add-at-in-loop-d
overflow_add-at-in-loop-d c = let t = c.loop-d-test.true in omega (
  arith,
  flat c.requires.0
      c.requires.1,
  (its-array-ends c.requires.0
      c.requires.1).0,
  (its-array-ends c.requires.0
      c.requires.1).1,
)

pub offset_bounds-arrays-at-in-loop-d : goal.offset_bounds-arrays-at-in-loop-d
offset_bounds-arrays-at-in-loop-d c = let t = c.loop-d-test.true in omega (
  arith,
  flat c.requires.0
      c.requires.1,
  (its-array-ends c.requires.0
      c.requires.1).0,
  (its-array-ends c.requires.0
      c.requires.1).1,
)

pub bounds-arrays-at-in-loop-d : goal.bounds-arrays-at-in-loop-d
bounds-arrays-at-in-loop-d c = let t = c.loop-d-test.true in omega (
  arith,
  flat c.requires.0
      c.requires.1,
  (its-array-ends
      c.requires.0 c.requires.1).0,
)

pub subscript_fits-requires : goal.subscript_fits-requires
subscript_fits-requires c = subscript-in c.requires.0 c.requires.1
    c.loop-d.d c.loop-d-test.true

pub returns-then-not-subscript_fits : goal.returns-then-not-subscript_fits
returns-then-not-subscript_fits c = λ e. absurd (true-T false e)

pub loop-d-preserved : goal.loop-d-preserved
loop-d-preserved c = let t = c.loop-d-test.true in let g = c.subscript_fits in (
  omega arith,
  below_more (λ (d : ℕ). Enclosed (ranges_of c.args.n c.args.ranges) (get_or c.args.arrays.now
      (get_or c.args.accessed.now c.args.k 0 * 4 + 1 + d) 0) (form_at c.args.words.now c.args.n (c.args.k * 3 + d)))
      c.loop-d.d c.loop-d.invariant.1
      (g.ensures c.if-not-subscript_fits.false),
)

pub returns : goal.returns
returns c = λ _. let h = c.loop-d-test.false in let i = c.loop-d.invariant.0
    in let e : c.loop-d.d ≡ get_or c.args.arrays.now (get_or c.args.accessed.now c.args.k 0 * 4) 0 = omega arith in
    subst (FirstEnclosed (ranges_of c.args.n c.args.ranges) c.args.words.now c.args.accessed.now c.args.arrays.now
    c.args.n c.args.k) e c.loop-d.invariant.1
