-- `gcd`: each turn keeps the greatest common divisor, and b falls.
use mathlib.Core.Path.{◌≡◌}
use Rattle.integers.specs.Gcd as G
use Rattle.integers.proofs.gcd.Given as goal

abbrev pub invariant-loop-b : goal.invariant-loop-b
invariant-loop-b l = G.gcd l.a l.b ≡ G.gcd l.x l.y

abbrev pub decreases-loop-b : goal.decreases-loop-b
decreases-loop-b l = l.b
