use mathlib.Core.Bool.{false≢true}
use native.Mathlib.Omega.{arith}
use Rattle.dependence_banerjee.proofs.CoverLaws.{dimension-in, dimension-excluded}
use Rattle.dependence_banerjee.proofs.some_gcd_excludes_zero.Goals as goal

pub overflow_add-i : goal.overflow_add-i
overflow_add-i c = let x = c.requires.sums.source.inside in let h = c.loop-t-test.true in omega arith

pub overflow_add-j : goal.overflow_add-j
overflow_add-j c = let x = c.requires.sums.sink.inside in let h = c.loop-t-test.true in omega arith

pub gcd_excludes_zero-requires : goal.gcd_excludes_zero-requires
gcd_excludes_zero-requires c = let a = c.args in dimension-in a.words.now a.i a.j a.d a.n
    a.ranges c.requires a.u c.loop-t.t c.loop-t-test.true

pub returns-then-gcd_excludes_zero : goal.returns-then-gcd_excludes_zero
returns-then-gcd_excludes_zero c = let a = c.args in λ _. dimension-excluded a.words.now a.i a.j a.d a.n
    a.ranges c.requires a.u c.loop-t.t c.loop-t-test.true
    (c.gcd_excludes_zero.ensures c.if-gcd_excludes_zero.true)

pub loop-t-preserved : goal.loop-t-preserved
loop-t-preserved c = let h = c.loop-t-test.true in omega arith

pub returns : goal.returns
returns c = λ e. absurd (false≢true e)
