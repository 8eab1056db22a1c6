-- `try_write`: the part lent has the length asked for, and the bytes written are within it.
use mathlib.Core.Path.{sym}
use native.Mathlib.Omega.{arith}
use lib.Seq.{length-take-le}
use Rattle.test_entries.proofs.FitLaws.{write-fits, in-front}
use Rattle.test_entries.proofs.try_write.Goals as goal

pub slice_bounds-print_bytes-end : goal.slice_bounds-print_bytes-end
slice_bounds-print_bytes-end c =
    let l = c.write in
    let k = l.auto.out in
    let e = c.print_answer-n.ensures in in-front _ l.new.out _ (omega (arith, write-fits _ _ _ l.result l.ensures.0))

pub slice_bounds-print_bytes-end-then-n-gt0 : goal.slice_bounds-print_bytes-end-then-n-gt0
slice_bounds-print_bytes-end-then-n-gt0 c =
    let l = c.write in
    let k = l.auto.out in
    let e = c.print_answer-n.ensures in
    let w = in-front c.print_answer-n.result l.new.out _ (omega (arith, write-fits _ _ _ l.result l.ensures.0)) in sym (length-take-le _ _ w)
