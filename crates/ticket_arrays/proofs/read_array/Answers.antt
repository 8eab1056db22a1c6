-- `read_array`: the extents, then the test of their elements and those before.
use native.Mathlib.Omega.{arith}
use Rattle.model.specs.Grammar.{array}
use Rattle.std.proofs.lemmas.Result.{err_from_is_err_and}
use Rattle.ticket_words.proofs.ReaderLaws.{refused-first}
use Rattle.ticket_arrays.proofs.ArrayLaws.{array-fits, array-full}
use Rattle.ticket_arrays.proofs.ReadLaws.{elements-of, shape-read}
use Rattle.ticket_arrays.proofs.read_array.Goals as goal

pub returns-in_err-shape-clause-reads : goal.returns-in_err-shape-clause-reads
unfolding array
returns-in_err-shape-clause-reads c =
    let p = err_from_is_err_and c.from_residual.result c.from_residual.ensures.1 in
    rw (p.1, p.2) (refused-first _ c.in_err-shape.ensures)

pub returns-then-total-shape-gt-ELEMENTS-clause-reads : goal.returns-then-total-shape-gt-ELEMENTS-clause-reads
returns-then-total-shape-gt-ELEMENTS-clause-reads c =
    let z = elements-of c.in_ok-shape.shape in
    array-full _ c.in_ok-shape.ensures (omega (arith, c.if-total-shape-gt-ELEMENTS.true))

pub returns-clause-reads : goal.returns-clause-reads
returns-clause-reads c =
    let z = elements-of c.in_ok-shape.shape in
    array-fits _ c.in_ok-shape.ensures (omega (arith, c.if-total-shape-gt-ELEMENTS.false))

pub returns-clause-ranges : goal.returns-clause-ranges
returns-clause-ranges c = shape-read c.in_ok-shape.ensures
