-- `has_no_multiple`: the last multiple below the range's end is before its start.
use mathlib.Core.Path.{◌≡◌}
use mathlib.Core.Bool.{false≢true}
use native.Mathlib.Omega.{arith}
use lib.IntN.{pos}
use mir.Syntax.{w64}
use mir.Val.{to_z}
use Rattle.integers.proofs.RingLaws.{zarith}
use Rattle.integers.proofs.RangeLaws.{from-nat}
use Rattle.dependence_banerjee.proofs.GcdExclusionLaws.{no-multiple-between}
use Rattle.dependence_banerjee.proofs.has_no_multiple.Goals as goal

pub returns-then-g-eq0 : goal.returns-then-g-eq0
returns-then-g-eq0 c = λ e. absurd (false≢true e)

pub floor_div-requires : goal.floor_div-requires
floor_div-requires c =
    let divisor : to_z w64 c.args.g ≡ pos c.args.g = let h = c.requires.0 in from-nat (omega arith) in
    let z = c.if-g-eq0.false in rw divisor (omega zarith)

pub ceil_div-requires : goal.ceil_div-requires
ceil_div-requires c =
    let divisor : to_z w64 c.args.g ≡ pos c.args.g = let h = c.requires.0 in from-nat (omega arith) in
    let z = c.if-g-eq0.false in rw divisor (omega zarith)

pub returns : goal.returns
returns c =
    let divisor : to_z w64 c.args.g ≡ pos c.args.g = let h = c.requires.0 in from-nat (omega arith) in
    let z = c.if-g-eq0.false in
    λ t x i. no-multiple-between c.args.r.least c.args.r.greatest c.args.g c.requires.1 c.requires.2 (omega arith) divisor
    c.floor_div.ensures c.ceil_div.ensures t x i.low i.high
