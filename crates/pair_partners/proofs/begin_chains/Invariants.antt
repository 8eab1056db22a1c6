-- `begin_chains`. The loop's invariant: the chains of the accesses before k are begun.
use mathlib.Core.Path.{◌≡◌}
use Prim.Native.Nat.{ℕ, suc, ◌≤◌, ◌<◌}
use lib.ListN.{length, get_or}
use Rattle.pair_partners.specs.Chains.{First}
use Rattle.pair_partners.specs.Partners.{meets_access}
use Rattle.pair_partners.proofs.begin_chains.Given as goal

abbrev pub invariant-loop-k : goal.invariant-loop-k
invariant-loop-k l = (l.k ≤ l.tables.accesses) × (length l.chains ≡ length l.initial.chains)
    × ((j : ℕ) → j < l.k → First (meets_access l.tables.numbers.now l.tables.writes.now l.tables.count l.tables.accesses l.x j) (suc l.x) l.tables.count (get_or l.chains j 0))
