-- `plus_term`: by the coefficient's sign. Whichever index is taken, the product and the sum fit.
use Rattle.nest_loop_ranges.proofs.TermLaws.{sum_fits, term-up, term-down}
use Rattle.nest_loop_ranges.proofs.plus_term.Goals as goal
use Rattle.nest_loop_ranges.proofs.plus_term.Goals.{then-c-gt0, else-c-gt0}

pub overflow_add-result : goal.overflow_add-result
overflow_add-result c = let a = c.args in let r = c.requires in
    let up = sum_fits a.sum.value a.c a.rising r.sum r.coefficient r.up in
    let down = sum_fits a.sum.value a.c a.falling r.sum r.coefficient r.down in
    elim c.if-c-gt0.branch [
      | then-c-gt0 w ↦ rw w.index-is (assumption (up, down))
      | else-c-gt0 w ↦ rw w.index-is (assumption (up, down))
    ]

pub returns : goal.returns
returns c = let a = c.args in elim c.if-c-gt0.branch [
  | then-c-gt0 w ↦ rw w.index-is (term-up a.sum.value a.c a.rising a.falling c.requires w.if-c-gt0.true)
  | else-c-gt0 w ↦ rw w.index-is (term-down a.sum.value a.c a.rising a.falling c.requires w.if-c-gt0.false)
]
