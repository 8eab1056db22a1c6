use mathlib.Core.Path.{◌≡◌, refl, sym, ◌∙◌, ap}
use Prim.Native.Nat.{◌<◌}
use native.Mathlib.Omega.{arith}
use native.Mathlib.Nat.{mod-lt}
use Rattle.integers.specs.Gcd as G
use Rattle.integers.proofs.GcdLaws.{gcd-turn, gcd-end}
use Rattle.integers.proofs.gcd.Goals as goal

pub loop-b-init : goal.loop-b-init
loop-b-init c = refl

pub nonzero_rem-t : goal.nonzero_rem-t
nonzero_rem-t c = let h = c.loop-b-test.true in omega arith

pub loop-b-smaller : goal.loop-b-smaller
loop-b-smaller c = let h = c.loop-b-test.true in let p : 0 < c.loop-b.b = omega arith in mod-lt c.loop-b.a p

pub loop-b-preserved : goal.loop-b-preserved
loop-b-preserved c = sym (gcd-turn c.loop-b.a c.loop-b.b) ∙ c.loop-b.invariant

pub returns : goal.returns
returns c = let t = c.loop-b-test.false in let z : 0 ≡ c.loop-b.b = omega arith in
    sym (gcd-end c.loop-b.a) ∙ ap (G.gcd c.loop-b.a) z ∙ c.loop-b.invariant
