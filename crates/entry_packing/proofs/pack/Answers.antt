-- `pack`: the three fields, each in its place.
use Rattle.entry_packing.proofs.PackLaws.{fields-is}
use Rattle.entry_packing.proofs.pack.Goals as goal

pub returns : goal.returns
returns c = fields-is _ _ _
