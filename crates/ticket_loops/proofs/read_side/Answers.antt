-- `read_side`: the count, then a limit and its place a turn.
use mathlib.Core.Path.{refl}
use mathlib.Core.List.{[]}
use native.Mathlib.Omega.{arith}
use Rattle.std.proofs.lemmas.Result.{err_from_is_err_and}
use Rattle.lists.proofs.MembershipLaws.{all_nil}
use Rattle.model.specs.Grammar.{side, limit}
use Rattle.model.specs.Ranges.{LimitRanges}
use Rattle.ticket_words.proofs.ReaderLaws.{refused-first, read-then, times-stop, times-end}
use Rattle.ticket_loops.specs.Laid.{lay_limits}
use Rattle.ticket_loops.proofs.SideLaws.{filling-starts, next-in, filling-more}
use Rattle.ticket_loops.proofs.read_side.Goals as goal

pub returns-in_err-count : goal.returns-in_err-count
unfolding side lay_limits
returns-in_err-count c =
    let p = err_from_is_err_and c.from_residual.result c.from_residual.ensures.1 in
    rw (p.1, p.2) (record {
      limits = [];
      reads = refused-first _ c.in_err-count.ensures.reads;
      laid = refl;
      count = tt;
      few = omega arith;
      sized = all_nil _;
      ranges = all_nil LimitRanges;
    })

pub loop-k-init : goal.loop-k-init
loop-k-init c = filling-starts _ _ _ _ _

pub lay_limit-requires : goal.lay_limit-requires
lay_limit-requires c =
    let r = c.in_ok-limit.ensures in
    next-in _ _ _ _ _ c.requires c.in_ok-count.ensures.within.1 _ _ _ c.loop-k.invariant c.loop-k-test.true r.reads r.within

pub loop-k-preserved : goal.loop-k-preserved
loop-k-preserved c =
    filling-more _ _ _ _ _ c.requires c.in_ok-count.ensures.within.1 _ _ _ c.loop-k.invariant c.loop-k-test.true c.in_ok-limit.ensures.reads _
    c.lay_limit.ensures

pub returns-in_err-limit : goal.returns-in_err-limit
unfolding side
returns-in_err-limit c =
    let i = c.loop-k.invariant in
    let n = i.number in
    let h = c.in_ok-count.ensures in
    let p = err_from_is_err_and c.from_residual-in_err-limit.result c.from_residual-in_err-limit.ensures.1 in
    rw (p.1, p.2) (record {
      limits = i.limits;
      reads = read-then _ h.reads (times-stop (limit c.args.outer) _ _ i.underway c.loop-k-test.true c.in_err-limit.ensures.reads);
      laid = i.laid;
      count = tt;
      few = omega (arith, h.within.1);
      sized = i.sized;
      ranges = i.ranges;
    })

pub returns : goal.returns
unfolding side
returns c =
    let i = c.loop-k.invariant in
    let n = i.number in
    let h = c.in_ok-count.ensures in
    record {
      limits = i.limits;
      reads = read-then _ h.reads (times-end (limit c.args.outer) _ _ i.underway c.loop-k-test.false refl);
      laid = i.laid;
      count = omega (arith, i.low);
      few = omega (arith, h.within.1);
      sized = i.sized;
      ranges = i.ranges;
    }
