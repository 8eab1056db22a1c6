-- `mark_few`: numbers for few accesses, for more, or for the most.
use native.Mathlib.Omega.{arith}
use Rattle.dependence_marks.proofs.MarkLaws.{few-numbers}
use Rattle.dependence_marks.proofs.mark_few.Goals as goal

pub overflow_mul-needed : goal.overflow_mul-needed
overflow_mul-needed c = let f = few-numbers _ _ _ _ c.requires.0 in omega arith
