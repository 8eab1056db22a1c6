-- `advance_chains`. The loop's invariant: the chains of the accesses before k have passed y, the others are as they were.
use mathlib.Core.Path.{◌≡◌}
use Prim.Native.Nat.{◌≤◌}
use lib.ListN.{length}
use Rattle.pair_partners.proofs.ChainLaws.{Advancing}
use Rattle.pair_partners.proofs.advance_chains.Given as goal

abbrev pub invariant-loop-k : goal.invariant-loop-k
invariant-loop-k l = (l.k ≤ l.tables.accesses) × (length l.chains ≡ length l.initial.chains)
    × Advancing l.tables.numbers.now l.tables.writes.now l.tables.count l.tables.accesses l.x l.y l.chains l.k
