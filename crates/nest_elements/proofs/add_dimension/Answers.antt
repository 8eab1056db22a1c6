use mathlib.Core.Path.{◌≡◌, refl}
use mathlib.Core.List.{zip_with}
use native.Mathlib.Omega.{arith}
use lib.ListN.{length, length-set}
use borrow.Author.Rules.{rules}
use Rattle.nest_elements.specs.Forms.{folded}
use Rattle.nest_elements.proofs.FormLaws.{number_in, fold_more, fold-all}
use Rattle.nest_elements.proofs.add_dimension.Goals as goal

pub overflow_mul-at : goal.overflow_mul-at
overflow_mul-at c = let i = c.requires.inside in omega arith

pub loop-l-init : goal.loop-l-init
unfolding folded zip_with
loop-l-init c = (omega arith, search rules, refl)

pub bounds-x-items-l : goal.bounds-x-items-l
bounds-x-items-l c = c.loop-l-test.true

pub overflow_add-at : goal.overflow_add-at
overflow_add-at c = let i = c.requires.inside in let v = c.loop-l-test.true in omega arith

pub word-requires : goal.word-requires
word-requires c = let i = c.requires.inside in let v = c.loop-l-test.true in omega arith

pub number-requires : goal.number-requires
number-requires c = number_in c.requires c.loop-l.l c.word.ensures

pub offset_bounds-r-l : goal.offset_bounds-r-l
offset_bounds-r-l c = let v = c.loop-l-test.true in omega arith

pub bounds-r-l : goal.bounds-r-l
bounds-r-l c = c.loop-l-test.true

pub loop-l-preserved : goal.loop-l-preserved
loop-l-preserved c =
    let width : length c.args.form ≡ 8 = search rules in
    let l = c.loop-l in let v = c.loop-l-test.true in (
      omega arith,
      simp length-set l.invariant.1,
      fold_more c.requires l.l c.word.ensures l.r c.number.result v l.invariant.1
          width l.invariant.2 c.number.ensures,
    )

pub returns : goal.returns
returns c =
    let width : length c.args.form ≡ 8 = search rules in
    let l = c.loop-l in fold-all c.requires l.r l.l (omega (arith, l.invariant.0, c.loop-l-test.false))
    l.invariant.1 width l.invariant.2
