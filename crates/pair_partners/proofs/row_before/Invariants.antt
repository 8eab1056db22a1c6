-- `row_before`. The loop's invariant: the numbers before k are equal.
use mathlib.Core.Path.{◌≡◌}
use Prim.Native.Nat.{◌*◌, ◌+◌, ◌-◌, ◌≤◌}
use lib.ListN.{take, drop}
use Rattle.model.specs.Directions.{earlier}
use Rattle.pair_partners.specs.Partners.{row_before}
use Rattle.pair_partners.proofs.row_before.Given as goal

abbrev pub invariant-loop-k : goal.invariant-loop-k
invariant-loop-k l = (l.k ≤ l.rows.depth)
    × (row_before l.rows.depth l.rows.numbers.now l.y l.x ≡ earlier (take (l.rows.depth - l.k) (drop (l.y * l.rows.depth + l.k) l.rows.numbers.now)) (take (l.rows.depth - l.k) (drop (l.x * l.rows.depth + l.k) l.rows.numbers.now)))
