-- `joined_digit`: the tests in the order of the definition.
use borrow.Author.Tests.{lt-ltb, le-ltb, eq-eqb, ne_eqb}
use Rattle.step_preimages.proofs.joined_digit.Goals as goal

pub returns-then-i-a : goal.returns-then-i-a
returns-then-i-a c = simp (lt-ltb _ _ c.if-i-a.true)

pub returns-then-a-i : goal.returns-then-a-i
returns-then-a-i c = simp (le-ltb _ _ c.if-i-a.false, lt-ltb _ _ c.if-a-i.true)

pub returns-then-d-a-eq1 : goal.returns-then-d-a-eq1
returns-then-d-a-eq1 c = simp (le-ltb _ _ c.if-i-a.false, le-ltb _ _ c.if-a-i.false, eq-eqb _ _ c.if-d-a-eq1.true)

pub returns : goal.returns
returns c = simp (le-ltb _ _ c.if-i-a.false, le-ltb _ _ c.if-a-i.false, ne_eqb _ _ c.if-d-a-eq1.false)
