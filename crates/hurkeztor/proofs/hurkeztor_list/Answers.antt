-- `hurkeztor_list`: the entry's answer, packed.
use Rattle.entry_packing.proofs.PackLaws.{same-packed}
use Rattle.hurkeztor.proofs.hurkeztor_list.Goals as goal

pub returns : goal.returns
returns c = let h = c.list.ensures in (same-packed _ _ _ c.pack_answer.ensures h.answer, h.memory)
