-- `subscript_fits`: the constant and the least sum, then the constant and the greatest.
use mathlib.Core.Bool.{false}
use Rattle.lists.proofs.TestLaws.{true-T}
use Rattle.nest_bounding_box.proofs.SubscriptLaws.{sum_fits, constant-small, subscript-enclosed}
use Rattle.nest_bounding_box.proofs.subscript_fits.Goals as goal

pub overflow_add-constant : goal.overflow_add-constant
overflow_add-constant c = let z = c.word-constant in let x = c.least_sum-least in sum_fits z.result x.result.value
    (constant-small c.requires z.ensures) x.ensures.1

pub returns-then-constant-least-lt0 : goal.returns-then-constant-least-lt0
returns-then-constant-least-lt0 c = λ e. absurd (true-T false e)

pub overflow_add-result : goal.overflow_add-result
overflow_add-result c = let z = c.word-constant in let y = c.greatest_sum-greatest in sum_fits
    z.result y.result.value (constant-small c.requires z.ensures)
    y.ensures.1

pub returns : goal.returns
returns c = let z = c.word-constant in let x = c.least_sum-least in let y = c.greatest_sum-greatest in subscript-enclosed
    c.requires z.ensures x.result.value y.result.value x.ensures
    y.ensures c.if-constant-least-lt0.false
