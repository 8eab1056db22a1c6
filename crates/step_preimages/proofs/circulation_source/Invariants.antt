-- `circulation_source`: exchange by exchange along the way back.
use Prim.Native.Nat.{◌+◌, ◌-◌, ◌≤◌}
use lib.ListN.{length, take}
use Rattle.lists.specs.Place.{swap_all}
use Rattle.model.specs.Steps.{chain}
use Rattle.step_preimages.specs.Sources.{Source}
use Rattle.step_preimages.proofs.circulation_source.Given as goal

abbrev pub invariant-loop-j : goal.invariant-loop-j
invariant-loop-j l = (l.j ≤ length (chain l.b l.a)) × Source (swap_all (take l.j (chain l.b l.a))) (l.a + (l.b - l.a) + 1) l.n l.m
