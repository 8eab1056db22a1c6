-- `floor_div`: the machine's quotient, one less where the remainder is negative; by 1 nothing is divided.
use mathlib.Core.Path.{◌≡◌, sym, ◌∙◌, ap, subst}
use native.Mathlib.Omega.{arith}
use lib.IntN.{pos, ◌-ℤ◌}
use lib.Signed.{quot_z, rem_z}
use mir.Syntax.{w64}
use mir.Val.{SFits}
use borrow.Author.Rules.{rules}
use Rattle.integers.specs.Division.{floor_div}
use Rattle.integers.proofs.RangeLaws.{zneeds, back, sfits, bits-inj, bits_pos, quot_fits, rem-fits, floor-fits}
use Rattle.integers.proofs.DivisionLaws.{floor-down, floor-same, floor-one}
use Rattle.integers.proofs.floor_div.Goals as goal

module _ (c : goal.Else-b-eq1) where
  fit-q : SFits w64 (quot_z c.args.a c.args.b)
  fit-q = quot_fits c.ranges.a c.ranges.b c.requires

  fit-r : SFits w64 (rem_z c.args.a c.args.b)
  fit-r = rem-fits c.ranges.a c.ranges.b c.requires

module _ (c : goal.Then-r-lt0) where
  down-one : quot_z c.args.a c.args.b -ℤ pos 1 ≡ floor_div c.args.a
      c.args.b
  down-one = let s = c in floor-down s.args.a s.args.b s.requires
      (omega (zneeds, simp (back, s.ranges.a, s.ranges.b, fit-r c.before) at c.if-r-lt0.true))

  fit : SFits w64 (quot_z c.args.a c.args.b -ℤ pos 1)
  fit = let s = c in subst (SFits w64) (sym down-one) (floor-fits s.ranges.a s.ranges.b s.requires)

pub returns-then-b-eq1 : goal.returns-then-b-eq1
returns-then-b-eq1 c = let e : c.args.b ≡ pos 1 = bits-inj c.ranges.b (sfits {z = pos 1} (omega arith)) c.if-b-eq1.true in back
    c.ranges.a ∙ floor-one c.args.a ∙ ap (floor_div c.args.a) (sym e)

pub nonzero_div-q : goal.nonzero_div-q
nonzero_div-q c = let q = fit-q c in let p = bits_pos w64 c.requires in search rules

pub nonzero_rem-r : goal.nonzero_rem-r
nonzero_rem-r c = let q = fit-q c in let p = bits_pos w64 c.requires in search rules

pub overflow_sub-result : goal.overflow_sub-result
overflow_sub-result c = let q = fit-q c.before in let f = fit c in search rules

pub returns-then-r-lt0 : goal.returns-then-r-lt0
returns-then-r-lt0 c = let q = fit-q c.before in let f = fit c in let e = down-one c in search rules

pub returns-else-r-lt0 : goal.returns-else-r-lt0
returns-else-r-lt0 c = let q = fit-q c.before in
    let e = floor-same c.args.a c.args.b c.requires (omega (zneeds, simp (back, c.ranges.a, c.ranges.b, fit-r c.before) at c.if-r-lt0.false))
    in search rules
