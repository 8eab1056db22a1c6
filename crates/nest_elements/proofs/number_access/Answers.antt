use mathlib.Core.Path.{◌≡◌, refl, sym, ◌∙◌, ap}
use Prim.Native.Nat.{ℕ, ◌+◌, ◌*◌}
use native.Mathlib.Omega.{arith}
use native.Mathlib.Nat.{zero-mul}
use Rattle.lists.specs.Parts.{rows, put}
use Rattle.lists.proofs.PartLaws.{row_next}
use Rattle.nest_elements.specs.Places.{places_of}
use Rattle.nest_elements.proofs.RowLaws.{row_small}
use Rattle.nest_elements.proofs.NumberLaws.{base-in, form_in, begins-small, no_place, same-room, place-lent, in-room, one_place}
use Rattle.nest_elements.proofs.number_access.Goals as goal

pub offset_bounds-accessed-k : goal.offset_bounds-accessed-k
offset_bounds-accessed-k c = let m = c.requires.0.accesses.many in let h = c.requires.1 in omega arith

pub bounds-accessed-k : goal.bounds-accessed-k
bounds-accessed-k c = c.requires.1

pub base_of-b-requires : goal.base_of-b-requires
base_of-b-requires c = base-in c.requires.0 c.requires.1

pub form_of-form-requires : goal.form_of-form-requires
form_of-form-requires c = form_in c.requires.0 c.requires.1 c.base_of-b.ensures

pub overflow_mul-first : goal.overflow_mul-first
overflow_mul-first c = let m = begins-small c.requires.0 c.requires.1 in omega arith

pub loop-i-init : goal.loop-i-init
loop-i-init c = (
  omega arith,
  sym (zero-mul c.args.depth),
  no_place c.requires.0
      c.requires.1 c.args.out.now,
)

pub overflow_add-at : goal.overflow_add-at
overflow_add-at c = let l = c.loop-i in let r = row_small c.requires.0.stored c.loop-i-test.true l.invariant.1 in omega arith

pub offset_bounds-points-at : goal.offset_bounds-points-at
offset_bounds-points-at c = let l = c.loop-i in let r = row_small c.requires.0.stored c.loop-i-test.true l.invariant.1 in omega arith

pub place-requires : goal.place-requires
place-requires c = let l = c.loop-i in place-lent c.requires.0 c.requires.1 c.base_of-b.ensures
    c.form_of-form.ensures c.loop-i-test.true l.invariant.1

pub overflow_add-out : goal.overflow_add-out
overflow_add-out c = let m = begins-small c.requires.0
    c.requires.1 in let v = c.loop-i-test.true in let b = c.requires.0.stored.bound in omega arith

pub offset_bounds-out-first : goal.offset_bounds-out-first
offset_bounds-out-first c = let m = begins-small c.requires.0
    c.requires.1 in let v = c.loop-i-test.true in let b = c.requires.0.stored.bound in omega arith

pub bounds-out-first : goal.bounds-out-first
bounds-out-first c = let l = c.loop-i in in-room c.requires.0 c.requires.1
    c.base_of-b.ensures c.form_of-form.ensures
    c.loop-i-test.true l.invariant.1 c.args.out.now refl l.invariant.2

pub overflow_add-at-in-loop-i : goal.overflow_add-at-in-loop-i
overflow_add-at-in-loop-i c = let l = c.loop-i in let r = row_small c.requires.0.stored c.loop-i-test.true
    l.invariant.1 in omega arith

pub loop-i-preserved : goal.loop-i-preserved
loop-i-preserved c = let l = c.loop-i in let v = c.loop-i-test.true in (
  omega arith,
  ap (λ (j : ℕ). j + c.args.depth) l.invariant.1
      ∙ row_next c.args.depth l.i,
  one_place c.requires.0 c.requires.1 c.base_of-b.ensures
      c.form_of-form.ensures v l.invariant.1 c.args.out.now refl l.invariant.2 c.place.result
      c.place.ensures,
)

pub shape_of-out : goal.shape_of-out
shape_of-out c = let l = c.loop-i in same-room c.requires.0
    c.requires.1 l.i l.invariant.0 l.out c.args.out.now refl l.invariant.2

pub returns : goal.returns
returns c = let l = c.loop-i in let z : l.i ≡
    c.args.count = omega (arith, l.invariant.0, c.loop-i-test.false) in
    l.invariant.2 ∙ ap (λ (j : ℕ). put c.args.out.now (c.args.k * c.args.count)
    (places_of c.args.words.now c.args.accessed.now c.args.arrays.now c.args.depth
    (rows c.args.depth j c.args.points.now) c.args.k)) z
