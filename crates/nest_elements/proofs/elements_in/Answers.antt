use native.Mathlib.Omega.{arith}
use Rattle.nest_flat.proofs.FlatNestLaws.{extents-count}
use Rattle.nest_elements.proofs.NestArrayLaws.{arrays-in, total-is}
use Rattle.nest_elements.proofs.TotalLaws.{all-before, after-all}
use Rattle.nest_elements.proofs.elements_in.Goals as goal

pub slice_bounds-base_of-end : goal.slice_bounds-base_of-end
slice_bounds-base_of-end c = let e = extents-count _ c.requires in omega arith

pub base_of-requires : goal.base_of-requires
base_of-requires c = all-before _ _ (arrays-in _ c.requires)

pub returns : goal.returns
returns c = total-is _ c.requires _ (after-all _ _ (arrays-in _ c.requires) _ c.base_of.ensures)
