use mathlib.Core.Path.{◌≡◌, refl, sym, ◌∙◌, ap}
use Prim.Native.Nat.{ℕ}
use native.Mathlib.Omega.{arith}
use Rattle.lists.specs.Parts.{rows}
use Rattle.lists.specs.Tests.{any}
use Rattle.nest_elements.specs.Search.{violates_at}
use Rattle.nest_elements.proofs.RowLaws.{row_small, violation-in, violation-found, violation-not}
use Rattle.nest_elements.proofs.violates.Goals as goal

pub subscript_form-form-requires : goal.subscript_form-form-requires
subscript_form-form-requires c = (c.requires.inside, c.requires.small)

pub loop-i-init : goal.loop-i-init
unfolding violates_at rows any
loop-i-init c = (omega arith, refl)

pub overflow_mul-at : goal.overflow_mul-at
overflow_mul-at c = let r = row_small c.requires.stored c.loop-i-test.true refl in record { fits = omega arith }

pub overflow_add-at : goal.overflow_add-at
overflow_add-at c = let r = row_small c.requires.stored c.loop-i-test.true refl in omega arith

pub offset_bounds-points-at : goal.offset_bounds-points-at
offset_bounds-points-at c = let r = row_small c.requires.stored c.loop-i-test.true refl in omega arith

pub leaves_extent-requires : goal.leaves_extent-requires
leaves_extent-requires c = violation-in c.requires c.loop-i-test.true refl c.subscript_form-form.ensures

pub returns-then-leaves_extent : goal.returns-then-leaves_extent
returns-then-leaves_extent c = violation-found c.requires c.loop-i-test.true refl
    c.subscript_form-form.ensures c.leaves_extent.ensures c.if-leaves_extent.true

pub loop-i-preserved : goal.loop-i-preserved
loop-i-preserved c = let v = c.loop-i-test.true in (
  omega arith,
  violation-not c.requires v refl c.subscript_form-form.ensures c.leaves_extent.ensures c.if-leaves_extent.false c.loop-i.invariant.1,
)

pub returns : goal.returns
returns c = let l = c.loop-i in let e : l.i ≡ c.args.count = omega
    (arith, l.invariant.0, c.loop-i-test.false) in
    sym l.invariant.1 ∙ ap (λ (k : ℕ). violates_at c.args.words.now c.args.depth c.args.j c.args.extent
    (rows c.args.depth k c.args.points.now)) e
