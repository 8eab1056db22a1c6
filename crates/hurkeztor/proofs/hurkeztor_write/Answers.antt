-- `hurkeztor_write`: the entry's answer, packed.
use Rattle.entry_packing.proofs.PackLaws.{same-packed}
use Rattle.hurkeztor.proofs.hurkeztor_write.Goals as goal

pub returns : goal.returns
returns c = let h = c.write.ensures.0 in (same-packed _ _ _ c.pack_answer.ensures h.answer, h.memory)
