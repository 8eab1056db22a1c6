-- `may_be`: the tests in the order of the definition.
use borrow.Author.Tests.{eq-eqb, ne_eqb}
use Rattle.step_preimages.specs.Sources.{may_be_digit}
use Rattle.step_preimages.proofs.may_be.Goals as goal

pub returns-then-t-eq1 : goal.returns-then-t-eq1
unfolding may_be_digit
returns-then-t-eq1 c = simp (eq-eqb _ _ c.if-t-eq1.true)

pub returns-then-s-eq1 : goal.returns-then-s-eq1
unfolding may_be_digit
returns-then-s-eq1 c = simp (ne_eqb _ _ c.if-t-eq1.false, eq-eqb _ _ c.if-s-eq1.true)

pub returns-then-s-t : goal.returns-then-s-t
unfolding may_be_digit
returns-then-s-t c = simp (ne_eqb _ _ c.if-t-eq1.false, ne_eqb _ _ c.if-s-eq1.false, eq-eqb _ _ c.if-s-t.true)

pub returns : goal.returns
unfolding may_be_digit
returns c = simp (ne_eqb _ _ c.if-t-eq1.false, ne_eqb _ _ c.if-s-eq1.false, ne_eqb _ _ c.if-s-t.false)
