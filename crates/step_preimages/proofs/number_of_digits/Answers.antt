-- `number_of_digits`: Horner's rule is base three.
use native.Mathlib.Omega.{arith}
use Rattle.step_preimages.proofs.SourceLaws.{six-small, six-value}
use Rattle.step_preimages.proofs.number_of_digits.Goals as goal

pub overflow_mul-result : goal.overflow_mul-result
overflow_mul-result c = let s = six-small c.args.d c.requires in omega arith

pub overflow_add-result : goal.overflow_add-result
overflow_add-result c = let s = six-small c.args.d c.requires in omega arith

pub overflow_mul-result-2 : goal.overflow_mul-result-2
overflow_mul-result-2 c = let s = six-small c.args.d c.requires in omega arith

pub overflow_add-result-2 : goal.overflow_add-result-2
overflow_add-result-2 c = let s = six-small c.args.d c.requires in omega arith

pub overflow_mul-result-3 : goal.overflow_mul-result-3
overflow_mul-result-3 c = let s = six-small c.args.d c.requires in omega arith

pub overflow_add-result-3 : goal.overflow_add-result-3
overflow_add-result-3 c = let s = six-small c.args.d c.requires in omega arith

pub overflow_mul-result-4 : goal.overflow_mul-result-4
overflow_mul-result-4 c = let s = six-small c.args.d c.requires in omega arith

pub overflow_add-result-4 : goal.overflow_add-result-4
overflow_add-result-4 c = let s = six-small c.args.d c.requires in omega arith

pub overflow_mul-result-5 : goal.overflow_mul-result-5
overflow_mul-result-5 c = let s = six-small c.args.d c.requires in omega arith

pub overflow_add-result-5 : goal.overflow_add-result-5
overflow_add-result-5 c = let s = six-small c.args.d c.requires in omega arith

pub returns : goal.returns
returns c = six-value c.args.d c.requires.six
