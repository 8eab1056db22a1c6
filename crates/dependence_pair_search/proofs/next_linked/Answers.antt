use native.Mathlib.Omega.{arith}
use borrow.Author.Count.{below_more}
use Rattle.dependence_pair_search.proofs.next_linked.Goals as goal

pub loop-i-init : goal.loop-i-init
loop-i-init c = let p = c.requires.0 in (omega arith, omega arith, λ k h g. absurd (omega arith))

pub returns-then-start-i-ne0 : goal.returns-then-start-i-ne0
returns-then-start-i-ne0 c = let l = c.loop-i in let t = c.loop-i-test.true
    in record { after = l.invariant.0; inside = omega arith; passed = l.invariant.2; there = λ _. c.if-start-i-ne0.true }

pub loop-i-preserved : goal.loop-i-preserved
loop-i-preserved c = let l = c.loop-i in let t = c.loop-i-test.true
    in (omega arith, omega arith, below_more _ _ l.invariant.2 (λ _. c.if-start-i-ne0.false))

pub returns : goal.returns
returns c = let l = c.loop-i in let t = c.loop-i-test.false in record {
  after = l.invariant.0;
  inside = l.invariant.1;
  passed = l.invariant.2;
  there = λ h. absurd (omega arith);
}
