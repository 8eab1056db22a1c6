-- `constant_difference`: both constants are small.
use Rattle.nest_quick_test.proofs.DifferenceLaws.{constant-fits, constant-is}
use Rattle.nest_quick_test.proofs.constant_difference.Goals as goal

pub overflow_sub-result : goal.overflow_sub-result
overflow_sub-result c = constant-fits c.args.words.now c.args.u c.args.v c.args.n c.requires
    c.word-one.ensures c.word-other.ensures

pub returns : goal.returns
returns c = constant-is c.args.words.now c.args.u c.args.v c.args.n c.requires
    c.word-one.ensures c.word-other.ensures
