-- `sum`: both ends are small.
use native.Mathlib.Omega.{arith}
use Rattle.dependence_banerjee.proofs.MachineLaws.{sum_fits, sum_is}
use Rattle.dependence_banerjee.proofs.sum.Goals as goal

pub overflow_add-result : goal.overflow_add-result
overflow_add-result c = sum_fits c.args.r.least c.args.t.least c.requires.first-low c.requires.second-low
    (omega arith)

pub overflow_add-result-2 : goal.overflow_add-result-2
overflow_add-result-2 c = sum_fits c.args.r.greatest c.args.t.greatest
    c.requires.first-high c.requires.second-high (omega arith)

pub returns : goal.returns
returns c = (
  (sum_is c.args.r.least c.args.t.least c.requires.first-low c.requires.second-low (omega arith)).0,
  (sum_is c.args.r.greatest
      c.args.t.greatest c.requires.first-high c.requires.second-high (omega arith)).0,
)
