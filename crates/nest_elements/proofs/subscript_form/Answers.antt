use mathlib.Core.Path.{refl}
use native.Mathlib.Omega.{arith}
use lib.ListN.{length-set}
use borrow.Author.Rules.{rules}
use Rattle.nest_elements.proofs.FormLaws.{copy_more, copy-all}
use Rattle.nest_elements.proofs.subscript_form.Goals as goal

pub overflow_mul-at : goal.overflow_mul-at
overflow_mul-at c = let i = c.requires.0 in omega arith

pub loop-l-init : goal.loop-l-init
loop-l-init c = (omega arith, search rules, refl)

pub overflow_add-at : goal.overflow_add-at
overflow_add-at c = let i = c.requires.0 in omega arith

pub word-requires : goal.word-requires
word-requires c = let i = c.requires.0 in omega arith

pub bounds-r-l : goal.bounds-r-l
bounds-r-l c = c.loop-l-test.true

pub loop-l-preserved : goal.loop-l-preserved
loop-l-preserved c = let l = c.loop-l in let v = c.loop-l-test.true in (
  omega arith,
  simp length-set l.invariant.1,
  copy_more c.args.words.now c.args.j c.requires.0 l.l l.r c.word.result v
      l.invariant.1 c.requires.1 l.invariant.2 c.word.ensures,
)

pub returns : goal.returns
returns c = let l = c.loop-l in copy-all c.args.words.now c.args.j c.requires.0 l.r l.l
    (omega (arith, l.invariant.0, c.loop-l-test.false)) l.invariant.1 l.invariant.2
