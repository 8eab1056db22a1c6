-- `gcd_of_words`: r is the divisor of g and the words from i on.
use mathlib.Core.Path.{◌≡◌}
use Prim.Native.Nat.{◌+◌, ◌-◌}
use lib.ListN.{take, drop}
use Rattle.nest_quick_test.specs.Differences.{gcd_onto}
use Rattle.nest_quick_test.proofs.gcd_of_words.Given as goal

abbrev pub invariant-loop-i : goal.invariant-loop-i
invariant-loop-i l = l.r ≡ gcd_onto (take (l.n - l.i) (drop (l.at + l.i) l.words)) l.g
