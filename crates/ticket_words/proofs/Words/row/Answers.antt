use borrow.Author.Rules.{rules}
use mathlib.Core.Path.{◌≡◌, refl, sym, ap}
use native.Mathlib.Omega.{arith}
use lib.ListN.{length-set, take}
use Rattle.model.specs.Grammar.{number}
use Rattle.std.proofs.lemmas.Result.{err_from_is_err_and}
use Rattle.ticket_words.proofs.ReaderLaws.{times-begin, times-next, times-stop, times-end, taken_more}
use Rattle.ticket_words.proofs.Words.row.Goals as goal

pub loop-k-init : goal.loop-k-init
loop-k-init c = record { low = omega arith; six = refl; underway = times-begin number _ _ }

pub loop-k-preserved : goal.loop-k-preserved
loop-k-preserved c =
    let i = c.loop-k.invariant in
    record {
      low = omega arith;
      six = simp length-set i.six;
      underway = times-next number _ _ i.underway c.loop-k-test.true c.in_ok-row.ensures (taken_more _ _ _ _ (omega arith) (sym (search rules)));
    }

pub returns-in_err-row-clause-reads : goal.returns-in_err-row-clause-reads
returns-in_err-row-clause-reads c =
    let p = err_from_is_err_and c.from_residual.result c.from_residual.ensures.1 in
    rw (p.1, p.2) (times-stop number _ _ c.loop-k.invariant.underway c.loop-k-test.true c.in_err-row.ensures)

pub returns : goal.returns
returns c =
    let i = c.loop-k.invariant in
    let z : c.loop-k.k ≡ c.args.n = omega arith in
    record { reads = times-end number _ _ i.underway c.loop-k-test.false (ap (λ m. take m c.loop-k.row) z); wide = i.six }
