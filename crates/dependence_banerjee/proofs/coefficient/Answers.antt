-- `coefficient`: one word more.
use native.Mathlib.Omega.{arith}
use Rattle.dependence_banerjee.proofs.SumLaws.{coefficient-none, coefficient-fits, coefficient-next, coefficient-whole}
use Rattle.dependence_banerjee.proofs.coefficient.Goals as goal

pub loop-t-init : goal.loop-t-init
loop-t-init c = coefficient-none c.args.words.now c.args.i c.args.k

pub overflow_add-sum : goal.overflow_add-sum
overflow_add-sum c = let l = c.loop-t in coefficient-fits c.args.words.now c.args.i c.args.m c.args.k c.requires.0 l.t l.invariant (omega arith) c.word-sum.ensures

pub loop-t-preserved : goal.loop-t-preserved
loop-t-preserved c = let l = c.loop-t in coefficient-next c.args.words.now c.args.i c.args.m c.args.k c.requires.0 l.t l.invariant (omega arith) c.word-sum.ensures

pub returns : goal.returns
returns c = let l = c.loop-t in coefficient-whole c.args.words.now c.args.i c.args.m c.args.k c.requires.0 l.t l.invariant (omega arith) c.loop-t-test.false
