-- `number_word`: a small number is read as it was written.
use native.Mathlib.Omega.{arith}
use mir.Syntax.{w16}
use mir.Facts.{to_z_pos}
use Rattle.pair_records.proofs.number_word.Goals as goal

pub returns : goal.returns
returns c = let h = c.requires in to_z_pos w16 (omega arith)
