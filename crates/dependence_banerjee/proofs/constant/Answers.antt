-- `constant`: both sums are small.
use native.Mathlib.Omega.{arith}
use Rattle.dependence_banerjee.proofs.MachineLaws.{difference-is}
use Rattle.dependence_banerjee.proofs.ExtentLaws.{constant-is}
use Rattle.dependence_banerjee.proofs.constant.Goals as goal

pub single_value-requires : goal.single_value-requires
single_value-requires c = let x = c.coefficient-c in let y = c.coefficient-d in
    let h = (difference-is x.result.value y.result.value x.ensures.1 y.ensures.1 (omega arith)).1 in omega arith

pub returns : goal.returns
returns c = let x = c.coefficient-c in let y = c.coefficient-d in constant-is x.result.value y.result.value x.ensures y.ensures
    (c.single_value.ensures.1, c.single_value.ensures.2)
