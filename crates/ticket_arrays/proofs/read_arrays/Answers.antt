use native.Mathlib.Omega.{arith}
use Rattle.std.proofs.lemmas.Result.{err_from_is_err_and}
use Rattle.ticket_arrays.proofs.ReadLaws.{filling-starts, filling-more, filling-no, filling-done, nothing_read}
use Rattle.ticket_arrays.proofs.read_arrays.Goals as goal

pub returns-in_err-count : goal.returns-in_err-count
returns-in_err-count c =
    let p = err_from_is_err_and c.from_residual.result c.from_residual.ensures.1 in
    rw (p.1, p.2) (nothing_read c.requires c.in_err-count.ensures.reads)

pub loop-k-init : goal.loop-k-init
loop-k-init c = filling-starts _ _ _

pub loop-k-preserved : goal.loop-k-preserved
loop-k-preserved c = let h = c.in_ok-shape.ensures in
    filling-more c.loop-k.invariant _ c.loop-k-test.true h.reads h.ranges h.room c.lay_shape.ensures

pub returns-in_err-shape : goal.returns-in_err-shape
returns-in_err-shape c =
    let r = c.from_residual-in_err-shape in
    let p = err_from_is_err_and r.result r.ensures.1 in
    let n = c.in_ok-count.ensures.within.1 in
    rw (p.1, p.2)
    (filling-no c.loop-k.invariant c.requires (omega arith) c.in_ok-count.ensures.reads c.loop-k-test.true c.in_err-shape.ensures.reads)

pub returns : goal.returns
returns c =
    let n = c.in_ok-count.ensures.within.1 in
    filling-done c.loop-k.invariant c.requires (omega arith) c.in_ok-count.ensures.reads c.loop-k-test.false (omega arith)
