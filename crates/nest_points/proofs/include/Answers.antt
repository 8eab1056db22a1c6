-- `include`: nothing for an empty range, else its ends and its length.
use Rattle.nest_flat.specs.Flat.{loop_at}
use lib.ListN.{length}
use Rattle.nest_points.proofs.TallyLaws.{empty-loop, one-loop}
use Rattle.nest_points.proofs.include.Goals as goal

pub returns-then-n-eq0 : goal.returns-then-n-eq0
returns-then-n-eq0 c = let e = c.range-e in let n = c.index_count-n in
    empty-loop c.args.bound c.args.most c.args.a (loop_at c.args.nest.now c.args.counts.now (length c.args.outer.now))
    c.args.outer.now e.result.lo e.result.hi n.result e.ensures n.ensures.0 c.requires.counted c.if-n-eq0.true

pub returns : goal.returns
returns c = let e = c.range-e in let n = c.index_count-n in
    one-loop c.args.bound c.args.most c.args.a (loop_at c.args.nest.now c.args.counts.now (length c.args.outer.now))
    c.args.outer.now e.result.lo e.result.hi n.result e.ensures n.ensures.0 c.outside-far.result
    c.capped.result c.if-n-eq0.false c.outside-far.ensures c.capped.ensures
