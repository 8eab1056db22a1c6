-- `gather_partners`. The loop's invariant: the chains have come to y, which conflicts with x, and the partners before y are written.
use Prim.Native.Nat.{◌-◌}
use Rattle.pair_partners.proofs.PartnerLaws.{Finding}
use Rattle.pair_partners.proofs.gather_partners.Given as goal

abbrev pub invariant-loop-y : goal.invariant-loop-y
invariant-loop-y l =
    Finding l.tables.numbers.now l.tables.writes.now l.tables.count l.tables.accesses l.x l.rows.depth l.rows.numbers.now l.initial.out l.out l.initial.chains l.chains l.found l.y

abbrev pub decreases-loop-y : goal.decreases-loop-y
decreases-loop-y l = l.tables.count - l.y
