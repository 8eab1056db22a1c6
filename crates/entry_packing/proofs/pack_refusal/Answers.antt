-- `pack_refusal`: number and place, no count.
use Rattle.entry_packing.proofs.PackLaws.{refusal-fields}
use Rattle.entry_packing.proofs.pack_refusal.Goals as goal

pub returns : goal.returns
returns c = refusal-fields _ _ _ _ _ c.pack.ensures c.number.ensures c.place.ensures
