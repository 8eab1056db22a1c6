-- `hurkeztor_judge`: the entry's answer, packed.
use Rattle.entry_packing.proofs.PackLaws.{same-packed}
use Rattle.hurkeztor.proofs.hurkeztor_judge.Goals as goal

pub returns : goal.returns
returns c = same-packed _ _ _ c.pack_answer.ensures c.judge.ensures.0
