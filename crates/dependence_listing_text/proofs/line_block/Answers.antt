-- `line_block`: the quotient.
use mathlib.Core.Path.{ap}
use Prim.Native.Nat.{◌/◌}
use Rattle.dependence_listing_text.proofs.IndexLaws.{power-is}
use Rattle.dependence_listing_text.proofs.line_block.Goals as goal

pub nonzero_div-result : goal.nonzero_div-result
nonzero_div-result c = (power-is c.args.depth c.stride.result c.requires c.stride.ensures.0).1

pub returns : goal.returns
returns c = ap (c.args.i /◌) (power-is c.args.depth c.stride.result c.requires c.stride.ensures.0).0
