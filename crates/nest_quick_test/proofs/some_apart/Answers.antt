-- `some_apart`: the test is left by the first dimension that is apart.
use native.Mathlib.Omega.{arith}
use Rattle.nest_quick_test.proofs.SearchLaws.{all-forms-left, form-pair-in, apart-found, fewer-forms-left, no-form-left}
use Rattle.nest_quick_test.proofs.some_apart.Goals as goal

pub loop-i-init : goal.loop-i-init
loop-i-init c = all-forms-left _ _ _ _ _ _

pub overflow_add-u : goal.overflow_add-u
overflow_add-u c = let v = c.requires.first in let h = c.loop-i-test.true in omega arith

pub overflow_add-v : goal.overflow_add-v
overflow_add-v c = let v = c.requires.second in let h = c.loop-i-test.true in omega arith

pub never_zero-requires : goal.never_zero-requires
never_zero-requires c = form-pair-in _ _ _ _ _ _ c.requires _ c.loop-i-test.true

pub returns-then-never_zero : goal.returns-then-never_zero
returns-then-never_zero c = apart-found _ _ _ _ _ _ _ c.loop-i-test.true c.loop-i.invariant _ c.never_zero.ensures c.if-never_zero.true

pub loop-i-preserved : goal.loop-i-preserved
loop-i-preserved c = fewer-forms-left _ _ _ _ _ _ _ c.loop-i-test.true c.loop-i.invariant _ c.never_zero.ensures c.if-never_zero.false

pub returns : goal.returns
returns c = no-form-left _ _ _ _ _ _ _ (omega arith) c.loop-i.invariant
