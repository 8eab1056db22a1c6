-- `read_limit`: the multiplier, then the constant and the coefficients.
use mathlib.Core.Path.{◌≡◌, ap}
use mir.Syntax.{w32}
use mir.Val.{to_z, of_z}
use lib.ListN.{take}
use Rattle.std.proofs.lemmas.Result.{err_from_is_err_and}
use Rattle.model.specs.Grammar.{limit}
use Rattle.ticket_words.proofs.ReaderLaws.{refused-first, read-then, read-done}
use Rattle.ticket_loops.specs.LoopReads.{affine_of, limit_of}
use Rattle.ticket_loops.proofs.AffineLaws.{affine, times-affine, then-affine}
use borrow.Author.Rules.{rules}
use Rattle.ticket_loops.proofs.read_limit.Goals as goal

pub returns-in_err-multiplier-clause-reads : goal.returns-in_err-multiplier-clause-reads
unfolding limit
returns-in_err-multiplier-clause-reads c =
    let p = err_from_is_err_and c.from_residual.result c.from_residual.ensures.1 in
    rw (p.1, p.2) (refused-first _ c.in_err-multiplier.ensures.reads)

pub returns-in_err-affine-clause-reads : goal.returns-in_err-affine-clause-reads
returns-in_err-affine-clause-reads c =
    let p = err_from_is_err_and c.from_residual-in_err-affine.result c.from_residual-in_err-affine.ensures.1 in
    rw (p.1, p.2) (then-affine _ c.in_ok-multiplier.ensures.reads (refused-first _ c.in_err-affine.ensures.reads))

pub returns-clause-reads : goal.returns-clause-reads
unfolding affine_of limit_of
returns-clause-reads c =
    let f = c.in_ok-affine.affine in
    let e : to_z w32 (of_z w32 f.constant) ≡ f.constant = search rules in
    then-affine _ c.in_ok-multiplier.ensures.reads (read-then _ c.in_ok-affine.ensures.reads
    (read-done _ (ap (λ z. times-affine c.in_ok-multiplier.multiplier (affine z (take c.args.outer f.coefficients))) e)))
