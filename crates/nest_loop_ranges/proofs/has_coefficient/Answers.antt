use mathlib.Core.Path.{ap}
use mathlib.Core.Bool.{false≢true, true≢false}
use native.Mathlib.Omega.{arith}
use lib.IntN.{pos}
use mir.Syntax.{w16}
use mir.Val.{of_z}
use Rattle.integers.proofs.RangeLaws.{sfits, bits-inj}
use Rattle.nest_loop_ranges.proofs.FreeLaws.{free_more}
use Rattle.nest_loop_ranges.proofs.has_coefficient.Goals as goal

pub loop-l-init : goal.loop-l-init
loop-l-init c = (omega arith, λ l h. absurd (omega arith))

pub returns-then-nest-j-ne0 : goal.returns-then-nest-j-ne0
returns-then-nest-j-ne0 c = (
  λ e. absurd (true≢false e),
  λ _ f. c.if-nest-j-ne0.true (ap (of_z w16) (f c.loop-l.l
      c.loop-l-test.true)),
)

pub loop-l-preserved : goal.loop-l-preserved
loop-l-preserved c = let s = c.args in let l = c.loop-l in let t = c.loop-l-test.true in (
  omega arith,
  free_more s.nest.now s.j l.l s.i l.invariant.1 (bits-inj {w = w16} (record { sfits = c.t13-1.given })
      (sfits {z = pos 0} (omega arith)) c.if-nest-j-ne0.false),
)

pub returns : goal.returns
returns c = (λ _ l h. c.loop-l.invariant.1 l (let t = c.loop-l-test.false in omega arith), λ e. absurd (false≢true e))
