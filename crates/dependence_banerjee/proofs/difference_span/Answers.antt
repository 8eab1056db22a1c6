-- `difference_span`: one loop's terms more.
use mathlib.Core.Path.{◌≡◌}
use Prim.Native.Nat.{◌+◌, ◌-◌}
use native.Mathlib.Omega.{arith}
use Rattle.dependence_banerjee.proofs.ExtentLaws.{inward-none, term_in, pair-in, inward-next, inward-all}
use Rattle.dependence_banerjee.proofs.difference_span.Goals as goal

pub constant-r-requires : goal.constant-r-requires
constant-r-requires c = c.requires.sums

pub loop-k-init : goal.loop-k-init
loop-k-init c = let a = c.args in inward-none a.words.now a.i a.j a.m a.n a.ranges c.requires a.u
    c.constant-r.result c.constant-r.ensures

pub term-requires : goal.term-requires
term-requires c = let a = c.args in let l = c.loop-k in let e : l.k - 1 + 1 ≡ l.k = omega arith in rw e (term_in a.words.now
    a.i a.j a.m a.n a.ranges c.requires a.u l.k l.v l.r l.invariant (omega arith))

pub sum-r-requires : goal.sum-r-requires
sum-r-requires c = let a = c.args in let l = c.loop-k in let e : l.k - 1 + 1 ≡ l.k = omega arith in pair-in
    a.words.now a.i a.j a.m a.n a.ranges c.requires a.u l.k l.v l.r l.invariant (omega arith)
    c.term.result (rw e at c.term.ensures)

pub loop-k-preserved : goal.loop-k-preserved
loop-k-preserved c = let a = c.args in let l = c.loop-k in let e : l.k - 1 + 1 ≡ l.k = omega arith in inward-next a.words.now a.i a.j a.m a.n a.ranges
    c.requires a.u l.k l.v l.r l.invariant (omega arith) c.term.result (rw e at c.term.ensures) c.sum-r.result c.sum-r.ensures

pub returns : goal.returns
returns c = let a = c.args in let l = c.loop-k in inward-all
    a.words.now a.i a.j a.m a.n a.ranges c.requires a.u l.k l.v l.r l.invariant (omega arith)
