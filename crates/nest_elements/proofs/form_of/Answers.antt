use mathlib.Core.Path.{refl}
use mathlib.Core.List.{List}
use Prim.Native.Nat.{ℕ, ◌+◌, ◌*◌, ◌≤◌, ◌<◌}
use native.Mathlib.Omega.{arith}
use lib.IntN.{ℤ}
use lib.ListN.{length, get_or}
use Rattle.model.specs.Grammar.{most_accesses, most_extents}
use Rattle.nest_elements.specs.Forms.{form_to, FormIn}
use Rattle.nest_elements.proofs.LayoutLaws.{array-ends}
use Rattle.nest_elements.proofs.FormLaws.{its-array, flat, fold-in, fold_next, raise-in, form-done}
use Rattle.nest_elements.proofs.form_of.Goals as goal

record Bounds (o a : List ℕ) (k : ℕ) : Type 0 where
  there : k < length o
  ends : get_or o k 0 * 4 + 4 ≤ length a
  flat : get_or a (get_or o k 0 * 4) 0 ≤ 3
  few : length a ≤ most_extents
  many : length o ≤ most_accesses

bounds : {w : List ℤ} {o a : List ℕ} {k b : ℕ} → FormIn w o a k b → Bounds o a k
bounds {w} {o} {a} {k} {b} f = record {
  there = f.there;
  ends = array-ends a (get_or o k 0) (its-array f.accesses f.there);
  flat = flat f.accesses f.there;
  few = f.accesses.few;
  many = f.accesses.many;
}

pub offset_bounds-accessed-k : goal.offset_bounds-accessed-k
offset_bounds-accessed-k c = let b = bounds c.requires in omega arith

pub bounds-accessed-k : goal.bounds-accessed-k
bounds-accessed-k c = c.requires.there

pub overflow_mul-at : goal.overflow_mul-at
overflow_mul-at c = let b = bounds c.requires in omega arith

pub offset_bounds-arrays-at : goal.offset_bounds-arrays-at
offset_bounds-arrays-at c = let b = bounds c.requires in omega arith

pub bounds-arrays-at : goal.bounds-arrays-at
bounds-arrays-at c = let b = bounds c.requires in omega arith

pub loop-d-init : goal.loop-d-init
unfolding form_to
loop-d-init c = (omega arith, refl)

pub overflow_add-at : goal.overflow_add-at
overflow_add-at c = let b = bounds c.requires in let v = c.loop-d-test.true in omega arith

pub overflow_add-at-in-loop-d : goal.overflow_add-at-in-loop-d
overflow_add-at-in-loop-d c = let b = bounds c.requires in let v = c.loop-d-test.true in omega arith

pub offset_bounds-arrays-at-in-loop-d : goal.offset_bounds-arrays-at-in-loop-d
offset_bounds-arrays-at-in-loop-d c = let b = bounds c.requires in let v = c.loop-d-test.true in omega arith

pub bounds-arrays-at-in-loop-d : goal.bounds-arrays-at-in-loop-d
bounds-arrays-at-in-loop-d c = let b = bounds c.requires
    in let v = c.loop-d-test.true in omega arith

pub overflow_mul-k : goal.overflow_mul-k
overflow_mul-k c = let b = bounds c.requires in let v = c.loop-d-test.true
    in omega arith

pub overflow_add-k : goal.overflow_add-k
overflow_add-k c = let b = bounds c.requires in let v = c.loop-d-test.true
    in omega arith

pub add_dimension-deeper-requires : goal.add_dimension-deeper-requires
add_dimension-deeper-requires c = let f = c.requires in let l = c.loop-d in fold-in
    f.accesses f.there c.loop-d-test.true l.invariant.1

pub loop-d-preserved : goal.loop-d-preserved
loop-d-preserved c = let f = c.requires in let l = c.loop-d in let v = c.loop-d-test.true in (omega arith, fold_next f.accesses f.there v l.invariant.1 c.add_dimension-deeper.ensures)

pub add_base-requires : goal.add_base-requires
add_base-requires c = let f = c.requires in let l = c.loop-d in (raise-in f.accesses f.there l.invariant.0 c.loop-d-test.false l.invariant.1, omega (arith, f.begins))

pub returns : goal.returns
returns c = let f = c.requires in let l = c.loop-d in form-done f.accesses
    f.there l.invariant.0 c.loop-d-test.false l.invariant.1 _ c.add_base.ensures
