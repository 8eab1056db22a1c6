-- `gcd_excludes_zero`: the divisor of the loops outside, then one loop's terms more.
use mathlib.Core.Path.{◌≡◌}
use Prim.Native.Nat.{◌+◌, ◌-◌}
use native.Mathlib.Omega.{arith}
use Rattle.dependence_banerjee.proofs.ExtentLaws.{inward-none, term_in, pair-in, inward-next}
use Rattle.dependence_banerjee.proofs.GcdExclusionLaws.{divisor-small, pair_of, gcd-excluded}
use Rattle.dependence_banerjee.proofs.gcd_excludes_zero.Goals as goal

pub constant-r-requires : goal.constant-r-requires
constant-r-requires c = c.requires.sums

pub loop-k-init : goal.loop-k-init
loop-k-init c = let a = c.args in inward-none a.words.now a.i a.j 1 a.n a.ranges c.requires a.u
    c.constant-r.result c.constant-r.ensures

pub common_divisor-requires : goal.common_divisor-requires
common_divisor-requires c = let a = c.args in let l = c.loop-k in let e : l.k - 1 + 1 ≡ l.k = omega arith in rw e (pair_of a.words.now a.i
    a.j a.n a.ranges c.requires l.k l.invariant.few)

pub has_no_multiple-requires : goal.has_no_multiple-requires
has_no_multiple-requires c =
    let a = c.args in let l = c.loop-k in let f = c.requires.ranges.few
    in let x = l.invariant.low in let y = l.invariant.high in
    let e : l.k - 1 + 1 ≡ l.k = omega arith in
    let g = rw e at c.common_divisor.ensures in
    let d = divisor-small a.words.now l.k a.i a.j (pair_of a.words.now a.i a.j a.n a.ranges c.requires l.k l.invariant.few) in
    (omega arith, omega arith, omega arith)

pub returns-then-has_no_multiple : goal.returns-then-has_no_multiple
returns-then-has_no_multiple c =
    let a = c.args in let l = c.loop-k in let g = c.common_divisor in let e : l.k - 1 + 1 ≡ l.k = omega arith in
    λ _. gcd-excluded a.words.now a.i a.j a.n a.ranges a.u l.k l.v l.r l.invariant
    (pair_of a.words.now a.i a.j a.n a.ranges c.requires l.k l.invariant.few) g.result (rw e at g.ensures)
    (c.has_no_multiple.ensures c.if-has_no_multiple.true)

pub term-requires : goal.term-requires
term-requires c = let a = c.args in let l = c.loop-k in let e : l.k - 1 + 1 ≡ l.k = omega arith in rw e (term_in a.words.now
    a.i a.j 1 a.n a.ranges c.requires a.u l.k l.v l.r l.invariant (omega arith))

pub sum-r-requires : goal.sum-r-requires
sum-r-requires c = let a = c.args in let l = c.loop-k in let e : l.k - 1 + 1 ≡ l.k = omega arith in pair-in
    a.words.now a.i a.j 1 a.n a.ranges c.requires a.u l.k l.v l.r l.invariant (omega arith)
    c.term.result (rw e at c.term.ensures)

pub loop-k-preserved : goal.loop-k-preserved
loop-k-preserved c = let a = c.args in let l = c.loop-k in let e : l.k - 1 + 1 ≡ l.k = omega arith in inward-next a.words.now a.i a.j 1 a.n a.ranges
    c.requires a.u l.k l.v l.r l.invariant (omega arith) c.term.result (rw e at c.term.ensures) c.sum-r.result c.sum-r.ensures
