-- `count`: the word, then its range.
use mathlib.Core.Path.{sym}
use Rattle.std.proofs.lemmas.Result.{err_from_is_err_and}
use Rattle.ticket_words.proofs.WordLaws.{count-value, count_no, count-refused, ranged-read}
use Rattle.ticket_words.proofs.Words.count.Goals as goal

pub returns-in_err-v-clause-reads : goal.returns-in_err-v-clause-reads
returns-in_err-v-clause-reads c =
    let p = err_from_is_err_and c.from_residual.result c.from_residual.ensures.1 in
    let h = c.in_err-v.ensures in
    rw (p.1, p.2) (record { same = sym (count-refused _ _ _ _ (sym h.same) _ _); bytes = h.bytes })

pub returns-clause-reads : goal.returns-clause-reads
returns-clause-reads c =
    let h = c.in_ok-v.ensures in
    let n = h.next in
    record {
      same = rw n (ranged-read _ _ _ _ (count-value _ _ _ (sym h.same) _ _) (count_no _ _ _ (sym h.same) _ _) _ c.in_range.ensures);
      bytes = h.bytes;
    }
