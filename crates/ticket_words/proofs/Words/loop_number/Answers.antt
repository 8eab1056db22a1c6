-- `loop_number`: the word, then its range.
use mathlib.Core.Path.{sym}
use native.Mathlib.Omega.{arith}
use Rattle.std.proofs.lemmas.Result.{err_from_is_err_and}
use Rattle.ticket_words.proofs.WordLaws.{number_fits, number-bad, loop-value, loop-no, loop-bad, loop-refused, ranged-read}
use Rattle.ticket_words.proofs.Words.loop_number.Goals as goal

pub returns-in_err-w-clause-reads : goal.returns-in_err-w-clause-reads
returns-in_err-w-clause-reads c =
    let p = err_from_is_err_and c.from_residual.result c.from_residual.ensures.1 in
    let h = c.in_err-w.ensures in
    rw (p.1, p.2) (record { same = sym (loop-refused _ _ _ _ (sym h.same) _ _); bytes = h.bytes })

pub returns-clause-reads : goal.returns-clause-reads
returns-clause-reads c =
    let h = c.in_ok-w.ensures in
    let n = h.next in
    let f = number_fits _ (omega arith) c.if-w.false in
    record {
      same = rw n (ranged-read _ _ _ _ (λ n p. loop-value _ _ _ (sym h.same) _ _ n p f) (loop-no _ _ _ (sym h.same) _ _ f) _ c.in_range.ensures);
      bytes = h.bytes;
    }

pub returns-then-w-clause-reads : goal.returns-then-w-clause-reads
returns-then-w-clause-reads c =
    let h = c.in_ok-w.ensures in
    record { same = sym (loop-bad _ _ _ (sym h.same) _ _ (number-bad _ c.if-w.true)); bytes = h.bytes }
