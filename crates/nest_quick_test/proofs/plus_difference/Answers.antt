-- `plus_difference`: a difference and a sum that fit.
use Rattle.nest_quick_test.proofs.DifferenceLaws.{parts-fit, all_fit, all-is}
use Rattle.nest_quick_test.proofs.plus_difference.Goals as goal

pub overflow_sub-result : goal.overflow_sub-result
overflow_sub-result c = parts-fit c.args.c.value c.args.e.value c.args.f.value c.requires.0
    c.requires.1 c.requires.2

pub overflow_add-result : goal.overflow_add-result
overflow_add-result c = all_fit c.args.c.value c.args.e.value c.args.f.value
    c.requires.0 c.requires.1 c.requires.2

pub returns : goal.returns
returns c = all-is c.args.c.value c.args.e.value c.args.f.value
    c.requires.0 c.requires.1 c.requires.2
