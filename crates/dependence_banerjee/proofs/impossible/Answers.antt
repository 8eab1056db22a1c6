use native.Mathlib.Omega.{arith}
use Rattle.dependence_banerjee.proofs.CoverLaws.{empty-impossible, all-excluded, dimension-in, dimension-excluded}
use Rattle.dependence_banerjee.proofs.impossible.Goals as goal

pub has_no_iterations-requires : goal.has_no_iterations-requires
has_no_iterations-requires c = c.requires.ranges

pub returns-then-has_no_iterations : goal.returns-then-has_no_iterations
returns-then-has_no_iterations c = let a = c.args in λ _. empty-impossible a.words.now a.i a.j a.d a.n a.ranges c.requires
    a.u (c.has_no_iterations.ensures c.if-has_no_iterations.true)

pub overflow_add-i : goal.overflow_add-i
overflow_add-i c = let x = c.requires.sums.source.inside in let h = c.loop-t-test.true in omega
    arith

pub overflow_add-j : goal.overflow_add-j
overflow_add-j c = let x = c.requires.sums.sink.inside in let h = c.loop-t-test.true in omega
    arith

pub span_excludes_zero-requires : goal.span_excludes_zero-requires
span_excludes_zero-requires c = let a = c.args in dimension-in a.words.now a.i a.j a.d
    a.n a.ranges c.requires a.u c.loop-t.t c.loop-t-test.true

pub returns-then-span_excludes_zero : goal.returns-then-span_excludes_zero
returns-then-span_excludes_zero c = let a = c.args in λ _. dimension-excluded a.words.now a.i a.j
    a.d a.n a.ranges c.requires a.u c.loop-t.t c.loop-t-test.true
    (c.span_excludes_zero.ensures c.if-span_excludes_zero.true)

pub loop-t-preserved : goal.loop-t-preserved
loop-t-preserved c = let h = c.loop-t-test.true in omega arith

pub span_excludes_zero-requires-2 : goal.span_excludes_zero-requires-2
span_excludes_zero-requires-2 c = c.requires

pub returns-then-span_excludes_zero-2 : goal.returns-then-span_excludes_zero-2
returns-then-span_excludes_zero-2 c = let a = c.args in λ _. all-excluded a.words.now a.i a.j a.d
    a.n a.ranges c.requires a.u (c.span_excludes_zero-2.ensures c.if-span_excludes_zero-2.true)

pub some_gcd_excludes_zero-requires : goal.some_gcd_excludes_zero-requires
some_gcd_excludes_zero-requires c = c.requires

pub returns : goal.returns
returns c = c.some_gcd_excludes_zero.ensures
