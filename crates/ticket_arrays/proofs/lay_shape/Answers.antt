use native.Mathlib.Omega.{arith}
use Rattle.ticket_arrays.proofs.ShapeWrites.{shape-laid}
use Rattle.ticket_arrays.proofs.lay_shape.Goals as goal

pub returns : goal.returns
returns c = shape-laid _ _ _ _ _ c.requires (omega arith) c.copy_from_slice.ensures.after
