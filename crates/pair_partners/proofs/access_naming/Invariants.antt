-- `access_naming`. The loop's invariant: no access before k names the element.
use mathlib.Core.Path.{◌≡◌}
use Prim.Native.Nat.{ℕ, ◌≤◌, ◌<◌}
use Rattle.pair_partners.specs.Chains.{number_at}
use Rattle.pair_partners.proofs.access_naming.Given as goal

abbrev pub invariant-loop-k : goal.invariant-loop-k
invariant-loop-k l = (l.k ≤ l.tables.accesses) × ((j : ℕ) → j < l.k → number_at l.tables.numbers.now l.tables.count j l.y ≡ l.e → ⊥)
