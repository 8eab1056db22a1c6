-- `stays_compact`: the box of all loops.
use Rattle.nest_flat.specs.FlatNests.{flat}
use Rattle.nest_bounding_box.proofs.BoxLaws.{flat-nest-compact}
use Rattle.nest_bounding_box.proofs.stays_compact.Goals as goal

pub returns : goal.returns
returns c = λ e. let r = c.ranges_in_turn-ranges in flat-nest-compact
    (flat c.args.nest.now) c.requires r.result r.ensures (c.is_compact.ensures e)
