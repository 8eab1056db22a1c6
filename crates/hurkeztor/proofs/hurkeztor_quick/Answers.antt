-- `hurkeztor_quick`: the entry's answer, packed.
use Rattle.entry_packing.proofs.PackLaws.{same_test}
use Rattle.hurkeztor.proofs.hurkeztor_quick.Goals as goal

pub returns : goal.returns
returns c = same_test _ _ _ c.pack_test.ensures c.quick.ensures
