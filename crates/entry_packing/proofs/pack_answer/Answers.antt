-- `pack_answer`: a count, or a refusal.
use Rattle.entry_packing.proofs.PackLaws.{accepted-packed, refused-packed}
use Rattle.entry_packing.proofs.pack_answer.Goals as goal

pub returns-in-Ok : goal.returns-in-Ok
returns-in-Ok c = accepted-packed _ _ _ c.pack.ensures c.in-Ok.is

pub returns-in-Err : goal.returns-in-Err
returns-in-Err c = refused-packed _ _ _ c.pack_refusal.ensures c.in-Err.is
