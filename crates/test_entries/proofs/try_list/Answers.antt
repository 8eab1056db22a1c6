-- `try_list`: the part lent has the length asked for, and the bytes written are within it.
use mathlib.Core.Path.{sym}
use native.Mathlib.Omega.{arith}
use lib.Seq.{length-take-le}
use Rattle.test_entries.proofs.FitLaws.{list-fits, in-front}
use Rattle.test_entries.proofs.try_list.Goals as goal

pub slice_bounds-write_all-end : goal.slice_bounds-write_all-end
slice_bounds-write_all-end c =
    let l = c.list in
    let k = l.auto.out in
    let e = c.print_answer-n.ensures in in-front _ l.new.out _ (omega (arith, list-fits _ _ _ l.result l.ensures))

pub slice_bounds-write_all-end-2 : goal.slice_bounds-write_all-end-2
slice_bounds-write_all-end-2 c =
    let l = c.list in
    let k = l.auto.out in
    let e = c.print_answer-n.ensures in
    let w = in-front c.print_answer-n.result l.new.out _ (omega (arith, list-fits _ _ _ l.result l.ensures)) in sym (length-take-le _ _ w)
