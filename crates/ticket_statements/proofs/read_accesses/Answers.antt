-- `read_accesses`: the count, then an access a turn.
use mathlib.Core.Path.{refl}
use mathlib.Core.List.{[]}
use native.Mathlib.Omega.{arith}
use Rattle.std.proofs.lemmas.Result.{err_from_is_err_and}
use Rattle.model.specs.Grammar.{access}
use Rattle.nest_flat.specs.Layout.{arrays_of}
use Rattle.ticket_words.proofs.ReaderLaws.{refused-first, read-then, times-stop, times-end}
use Rattle.ticket_statements.specs.Statements.{accesses}
use Rattle.ticket_statements.proofs.AccessLaws.{passing-starts, passing-more}
use Rattle.ticket_statements.proofs.read_accesses.Goals as goal

pub returns-in_err-count : goal.returns-in_err-count
unfolding accesses
returns-in_err-count c =
    let p = err_from_is_err_and c.from_residual.result c.from_residual.ensures.1 in
    rw (p.1, p.2) (record { list = []; reads = refused-first _ c.in_err-count.ensures.reads; few = tt; count = tt; laid = tt })

pub loop-i-init : goal.loop-i-init
loop-i-init c = passing-starts _ _ _ _ _

pub loop-i-preserved : goal.loop-i-preserved
loop-i-preserved c = passing-more _ _ _ _ _ _ _ _ _ c.loop-i.invariant c.loop-i-test.true c.in_ok-read_access.ensures

pub returns-in_err-read_access : goal.returns-in_err-read_access
unfolding accesses
returns-in_err-read_access c =
    let n = c.args.nest in
    let u = c.loop-i.invariant.underway in
    let p = err_from_is_err_and c.from_residual-in_err-read_access.result c.from_residual-in_err-read_access.ensures.1 in
    rw (p.1, p.2) (record {
      list = [];
      reads = read-then _ c.in_ok-count.ensures.reads
          (times-stop (access n.depth (arrays_of n.extents.now)) _ _ u c.loop-i-test.true c.in_err-read_access.ensures.reads);
      few = tt;
      count = tt;
      laid = tt;
    })

pub returns : goal.returns
unfolding accesses
returns c =
    let n = c.args.nest in
    let i = c.loop-i.invariant in
    let h = c.in_ok-count.ensures in
    record {
      list = i.list;
      reads = read-then _ h.reads (times-end (access n.depth (arrays_of n.extents.now)) _ _ i.underway c.loop-i-test.false refl);
      few = h.within.1;
      count = omega (arith, i.number, i.low);
      laid = i.lays;
    }
