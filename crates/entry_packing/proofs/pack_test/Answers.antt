-- `pack_test`: 1 for apart, 0 for perhaps, or a refusal.
use Rattle.entry_packing.proofs.PackLaws.{apart-packed, perhaps-packed, refused-test}
use Rattle.entry_packing.proofs.pack_test.Goals as goal

pub returns-in-Err : goal.returns-in-Err
returns-in-Err c = refused-test _ _ _ c.pack_refusal.ensures c.in-Err.is

pub returns-in-Ok-Apart : goal.returns-in-Ok-Apart
returns-in-Ok-Apart c = apart-packed _ _ _ c.pack.ensures c.in-Ok-Apart.is (rw c.in-Ok-Apart.is at c.in-Ok-Apart.field-0-is)

pub returns-in-Ok-Perhaps : goal.returns-in-Ok-Perhaps
returns-in-Ok-Perhaps c = perhaps-packed _ _ _ c.pack-in-Ok-Perhaps.ensures c.in-Ok-Perhaps.is (rw c.in-Ok-Perhaps.is at c.in-Ok-Perhaps.field-0-is)
