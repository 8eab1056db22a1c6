-- `dependence_subspace`: two products and their difference.
use Rattle.dependence_banerjee.proofs.MachineLaws.{product-fits, term-difference-fits, term-difference-is}
use Rattle.dependence_banerjee.proofs.term_difference.Goals as goal

pub overflow_mul-result : goal.overflow_mul-result
overflow_mul-result c = product-fits c.args.c.value c.args.x c.requires.source c.requires.first

pub overflow_mul-result-2 : goal.overflow_mul-result-2
overflow_mul-result-2 c = product-fits c.args.d.value c.args.y c.requires.sink c.requires.second

pub overflow_sub-result : goal.overflow_sub-result
overflow_sub-result c = term-difference-fits c.args.c.value c.args.d.value c.args.x c.args.y
    c.requires

pub returns : goal.returns
returns c = term-difference-is c.args.c.value c.args.d.value c.args.x c.args.y c.requires
