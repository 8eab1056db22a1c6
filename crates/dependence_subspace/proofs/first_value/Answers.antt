-- `first_value`: the least value, or half of a sum.
use native.Mathlib.Omega.{arith}
use Rattle.dependence_subspace.proofs.PlaceLaws.{kept-size, ends-fit, rest-fits, half-size}
use Rattle.dependence_subspace.proofs.first_value.Goals as goal

pub overflow_add-r : goal.overflow_add-r
overflow_add-r c = ends-fit c.args.r c.args.places c.requires

pub overflow_sub-r : goal.overflow_sub-r
overflow_sub-r c = rest-fits c.args.r c.args.places c.requires

pub returns-in-Corner : goal.returns-in-Corner
returns-in-Corner c = omega (arith, kept-size c.args.r.least c.requires.0.low (omega arith))

pub returns-in-Centre : goal.returns-in-Centre
returns-in-Centre c = half-size c.args.r c.args.places c.requires _ c.floor_div.result
    c.floor_div.ensures
