use mathlib.Core.Path.{refl, sym, ◌∙◌}
use borrow.Author.Rules.{rules}
use native.Mathlib.Omega.{arith}
use lib.ListN.{length-set}
use Rattle.dependence_bounds.proofs.CopyLaws.{copy_more, copy_done}
use Rattle.dependence_bounds.proofs.copy_words.Goals as goal

pub loop-i-init : goal.loop-i-init
loop-i-init c = (omega arith, c.requires, refl)

pub bounds-out-i : goal.bounds-out-i
bounds-out-i c = let l = c.loop-i.invariant in omega (arith, l.1)

pub loop-i-preserved : goal.loop-i-preserved
loop-i-preserved c = let l = c.loop-i in (
  omega arith,
  length-set l.out l.i _ ∙ l.invariant.1,
  copy_more l.out c.args.from.now l.i l.invariant.1 l.invariant.2
      c.loop-i-test.true (record { sfits = search rules }),
)

pub shape_of-out : goal.shape_of-out
shape_of-out c = let l = c.loop-i in (l.invariant.1 ∙ sym c.requires)

pub returns : goal.returns
returns c = let l = c.loop-i in copy_done l.out c.args.from.now l.i l.invariant.1 l.invariant.2
    l.invariant.0 (omega (arith, c.loop-i-test.false))
