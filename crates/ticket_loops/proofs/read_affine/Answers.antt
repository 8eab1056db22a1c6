-- `read_affine`: the constant, then the coefficients.
use mathlib.Core.Path.{ap}
use lib.ListN.{take}
use Rattle.std.proofs.lemmas.Result.{err_from_is_err_and}
use Rattle.model.specs.Grammar.{subscript}
use Rattle.ticket_words.proofs.ReaderLaws.{refused-first, read-then, read-done}
use Rattle.ticket_loops.specs.LoopReads.{affine_of}
use borrow.Author.Rules.{rules}
use Rattle.ticket_loops.proofs.AffineLaws.{affine}
use Rattle.ticket_loops.proofs.read_affine.Goals as goal

pub returns-in_err-constant-clause-reads : goal.returns-in_err-constant-clause-reads
unfolding subscript
returns-in_err-constant-clause-reads c =
    let p = err_from_is_err_and c.from_residual.result c.from_residual.ensures.1 in
    rw (p.1, p.2) (refused-first _ c.in_err-constant.ensures)

pub returns-in_err-coefficients-clause-reads : goal.returns-in_err-coefficients-clause-reads
unfolding subscript
returns-in_err-coefficients-clause-reads c =
    let p = err_from_is_err_and c.from_residual-in_err-coefficients.result c.from_residual-in_err-coefficients.ensures.1 in
    rw (p.1, p.2) (read-then _ c.in_ok-constant.ensures (refused-first _ c.in_err-coefficients.ensures.reads))

pub returns-clause-reads : goal.returns-clause-reads
unfolding subscript affine_of
returns-clause-reads c = read-then _ c.in_ok-constant.ensures (read-then _ c.in_ok-coefficients.ensures.reads
    (read-done _ (ap (λ z. affine z (take c.args.n c.in_ok-coefficients.coefficients)) (search rules))))
