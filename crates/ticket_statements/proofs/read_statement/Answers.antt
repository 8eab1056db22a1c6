-- `read_statement`: rule, constant, the write and the reads, one after another.
use mathlib.Core.Path.{refl}
use mathlib.Core.List.{[], ◌∷◌}
use native.Mathlib.Omega.{arith}
use Rattle.std.proofs.lemmas.Result.{err_from_is_err_and}
use Rattle.model.specs.Ticket as Model
use Rattle.model.specs.Bounds.{accesses_of}
use Rattle.model.specs.Grammar.{statement}
use Rattle.ticket_words.proofs.ReaderLaws.{refused-first, read-then, read-done}
use Rattle.ticket_statements.proofs.StatementLaws.{then-reads, statement_lays}
use Rattle.ticket_statements.proofs.read_statement.Goals as goal

abbrev nothing : Model.Statement
nothing = record { rule = 0; constant = 0; writes = []; reads = [] }

pub returns-in_err-rule : goal.returns-in_err-rule
unfolding statement
returns-in_err-rule c =
    let p = err_from_is_err_and c.from_residual.result c.from_residual.ensures.1 in
    rw (p.1, p.2) (record { statement = nothing; reads = refused-first _ c.in_err-rule.ensures.reads; laid = tt })

pub returns-in_err-constant : goal.returns-in_err-constant
unfolding statement
returns-in_err-constant c =
    let h = c.most_constant.ensures.0 in
    let p = err_from_is_err_and c.from_residual-in_err-constant.result c.from_residual-in_err-constant.ensures.1 in
    rw (p.1, p.2) (record {
      statement = nothing;
      reads = read-then _ c.in_ok-rule.ensures.reads (refused-first _ (rw h at c.in_err-constant.ensures.reads));
      laid = tt;
    })

pub returns-in_err-read_access : goal.returns-in_err-read_access
unfolding statement
returns-in_err-read_access c =
    let h = c.most_constant.ensures.0 in
    let p = err_from_is_err_and c.from_residual-in_err-read_access.result c.from_residual-in_err-read_access.ensures.1 in
    rw (p.1, p.2) (record {
      statement = nothing;
      reads = read-then _ c.in_ok-rule.ensures.reads
          (read-then _ (rw h at c.in_ok-constant.ensures.reads) (refused-first _ c.in_err-read_access.ensures.reads));
      laid = tt;
    })

pub returns-in_err-reads : goal.returns-in_err-reads
unfolding statement
returns-in_err-reads c =
    let h = c.most_constant.ensures.0 in
    let g = c.least_reads.ensures in
    let p = err_from_is_err_and c.from_residual-in_err-reads.result c.from_residual-in_err-reads.ensures.1 in
    rw (p.1, p.2) (record {
      statement = nothing;
      reads = read-then _ c.in_ok-rule.ensures.reads
          (read-then _ (rw h at c.in_ok-constant.ensures.reads)
          (read-then _ c.in_ok-read_access.ensures.reads (then-reads _ _ _ _ (refused-first _ (rw g at c.in_err-reads.ensures.reads)))));
      laid = tt;
    })

pub returns : goal.returns
unfolding statement accesses_of
returns c =
    let h = c.most_constant.ensures.0 in
    let g = c.least_reads.ensures in
    let w = c.in_ok-read_access.ensures in
    let r = c.in_ok-reads.ensures in
    record {
      statement = record { rule = c.in_ok-rule.rule; constant = c.in_ok-constant.constant; writes = w.access ∷ []; reads = r.list };
      reads = read-then _ c.in_ok-rule.ensures.reads
          (read-then _ (rw h at c.in_ok-constant.ensures.reads)
          (read-then _ w.reads (then-reads _ _ _ _ (read-then _ (rw g at r.reads) (read-done _ refl)))));
      laid = record {
        laid = statement_lays c.in_ok-rule.rule c.in_ok-constant.constant w.laid r.laid;
        few = omega (arith, r.few);
        size = omega (arith, r.count);
        rule = refl;
        constant = refl;
      };
    }
