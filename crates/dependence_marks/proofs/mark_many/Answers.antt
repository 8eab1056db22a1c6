-- `mark_many`: the points; then numbers for few accesses, for more, or for the most.
use native.Mathlib.Omega.{arith}
use Rattle.dependence_marks.proofs.MarkLaws.{lines-in, few-numbers}
use Rattle.dependence_marks.proofs.mark_many.Goals as goal

pub list_points-count-requires : goal.list_points-count-requires
list_points-count-requires c = c.requires.1

pub overflow_mul-needed : goal.overflow_mul-needed
overflow_mul-needed c = let f = few-numbers _ _ _ _ (lines-in _ _ c.requires.0 _ _
    c.list_points-count.ensures.0) in omega arith
