-- `read_loops`: the count, then a loop a turn.
use native.Mathlib.Omega.{arith}
use Rattle.std.proofs.lemmas.Result.{err_from_is_err_and}
use Rattle.model.specs.Grammar.{loop, loops, ticket_limits}
use Rattle.ticket_words.proofs.ReaderLaws.{refused-first, repeat-no, repeat-end}
use Rattle.ticket_loops.proofs.ReadLaws.{next_loop, counted-loops, passing-starts, passing-room, passing-more, all_passed, passing_ok}
use Rattle.ticket_loops.proofs.read_loops.Goals as goal

pub returns-in_err-depth-clause-reads : goal.returns-in_err-depth-clause-reads
unfolding loops
returns-in_err-depth-clause-reads c =
    let p = err_from_is_err_and c.from_residual.result c.from_residual.ensures.1 in
    rw (p.1, p.2) (refused-first _ c.in_err-depth.ensures.reads)

pub loop-k-init : goal.loop-k-init
loop-k-init c = passing-starts _ _ _ _

pub read_loop-requires : goal.read_loop-requires
read_loop-requires c =
    let few = c.in_ok-depth.ensures.within.1 in
    (omega arith, passing-room _ _ _ _ few c.requires _ _ _ _ c.loop-k.invariant)

pub loop-k-preserved : goal.loop-k-preserved
loop-k-preserved c = passing-more _ _ _ _ c.in_ok-depth.ensures.within.1 c.requires _ _ _ _ c.loop-k.invariant c.loop-k-test.true
    c.in_ok-read_loop.ensures

pub returns-in_err-read_loop-clause-reads : goal.returns-in_err-read_loop-clause-reads
returns-in_err-read_loop-clause-reads c =
    let p = err_from_is_err_and c.from_residual-in_err-read_loop.result c.from_residual-in_err-read_loop.ensures.1 in
    rw (p.1, p.2) (counted-loops c.in_ok-depth.ensures.reads
    (repeat-no (loop ticket_limits) next_loop _ _ _ c.loop-k.invariant.underway c.loop-k-test.true c.in_err-read_loop.ensures.reads))

pub returns-clause-reads : goal.returns-clause-reads
returns-clause-reads c =
    let h = c.in_ok-depth.ensures in
    let i = c.loop-k.invariant in
    counted-loops h.reads (repeat-end (loop ticket_limits) next_loop _ _ _ i.underway c.loop-k-test.false
    (all_passed _ _ _ _ h.within.1 c.requires _ _ _ _ i c.loop-k-test.false))

pub returns-clause-ok : goal.returns-clause-ok
returns-clause-ok c = passing_ok _ _ _ _ c.in_ok-depth.ensures.within.1 c.requires _ _ _ _ c.loop-k.invariant c.loop-k-test.false

pub returns-clause-room : goal.returns-clause-room
returns-clause-room c = passing-room _ _ _ _ c.in_ok-depth.ensures.within.1 c.requires _ _ _ _ c.loop-k.invariant
