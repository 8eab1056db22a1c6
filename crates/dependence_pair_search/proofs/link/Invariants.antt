-- `link` meets its contract. The loop's invariant: the heads are those of the places before y, and the links before y are there; `any`
-- tells whether one is.
use mathlib.Core.Path.{◌≡◌}
use mathlib.Core.Bool.{false}
use Prim.Native.Nat.{ℕ, ◌-◌, ◌≤◌, ◌<◌}
use lib.ListN.{length, get_or}
use Rattle.dependence_pair_search.specs.Search.{latest, up_to, Unlinked}
use Rattle.dependence_pair_search.proofs.ChainLaws.{Heads}
use Rattle.dependence_pair_search.proofs.link.Given as goal

abbrev pub invariant-loop-y : goal.invariant-loop-y
invariant-loop-y l = (l.y ≤ length l.from) × (length l.head ≡ length l.initial.head) × (length l.out ≡ length l.initial.out)
    × Heads l.from l.head l.y × ((k : ℕ) → k < l.y → get_or l.out k 0 ≡ latest l.from (get_or l.to k 0) (up_to l.own k)) × (l.any ≡ false → Unlinked l.y l.out)
