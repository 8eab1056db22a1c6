use mathlib.Core.Path.{◌≡◌, refl, ◌∙◌, ap}
use Prim.Native.Nat.{ℕ}
use native.Mathlib.Omega.{arith}
use lib.ListN.{drop}
use Rattle.model.specs.Grammar.{elements}
use Rattle.nest_flat.specs.Layout.{extents_at}
use Rattle.nest_elements.proofs.LayoutLaws.{array-ends}
use Rattle.nest_elements.proofs.ElementLaws.{no-extent, one-extent, one-small}
use Rattle.nest_elements.proofs.elements_of.Goals as goal

pub overflow_mul-at : goal.overflow_mul-at
overflow_mul-at c = let e = array-ends c.args.arrays.now c.args.i c.requires in let f = c.requires.few in omega arith

pub offset_bounds-arrays-at : goal.offset_bounds-arrays-at
offset_bounds-arrays-at c = let e = array-ends c.args.arrays.now c.args.i c.requires in let f = c.requires.few in omega arith

pub bounds-arrays-at : goal.bounds-arrays-at
bounds-arrays-at c = let e = array-ends c.args.arrays.now c.args.i c.requires in omega arith

pub loop-d-init : goal.loop-d-init
loop-d-init c = (refl, omega arith, no-extent c.args.arrays.now c.args.i c.requires _ refl)

pub overflow_add-r : goal.overflow_add-r
overflow_add-r c = let e = array-ends c.args.arrays.now c.args.i c.requires in let f = c.requires.few
    in let d = c.requires.dimensions c.args.i c.requires.there in omega arith

pub overflow_add-r-in-loop-d : goal.overflow_add-r-in-loop-d
overflow_add-r-in-loop-d c = let e = array-ends c.args.arrays.now c.args.i c.requires in let f = c.requires.few
    in let d = c.requires.dimensions c.args.i c.requires.there in omega arith

pub offset_bounds-arrays-at-in-loop-d : goal.offset_bounds-arrays-at-in-loop-d
offset_bounds-arrays-at-in-loop-d c = let e = array-ends c.args.arrays.now c.args.i c.requires in let f = c.requires.few
    in let d = c.requires.dimensions c.args.i c.requires.there in omega arith

pub bounds-arrays-at-in-loop-d : goal.bounds-arrays-at-in-loop-d
bounds-arrays-at-in-loop-d c = let e = array-ends c.args.arrays.now c.args.i c.requires
    in let f = c.requires.few in let d = c.requires.dimensions c.args.i c.requires.there in let v = c.loop-d-test.true in omega arith

pub overflow_mul-r : goal.overflow_mul-r
overflow_mul-r c = let l = c.loop-d in let v = c.loop-d-test.true in let b = one-small
    c.args.arrays.now c.args.i c.requires l.d l.r v l.invariant.1 l.invariant.2 in record { fits = omega arith }

pub loop-d-preserved : goal.loop-d-preserved
loop-d-preserved c = let l = c.loop-d in let v = c.loop-d-test.true
    in (refl, omega arith, one-extent c.args.arrays.now c.args.i c.requires l.d l.r v l.invariant.1 l.invariant.2)

pub returns : goal.returns
returns c = let l = c.loop-d in let z : l.d ≡ 0 = omega (arith, c.loop-d-test.false) in l.invariant.2
    ∙ ap (λ (k : ℕ). elements (drop k (extents_at c.args.arrays.now c.args.i))) z
