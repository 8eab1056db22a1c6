-- `limit_extreme`: the extreme e, divided and rounded.
use Rattle.nest_loop_ranges.proofs.ValueLaws.{divisor-positive, value-fits, quotient_is}
use Rattle.nest_loop_ranges.proofs.limit_extreme.Goals as goal

pub overflow_add-constant : goal.overflow_add-constant
overflow_add-constant c = let e = c.extreme_sum-e in value-fits c.args.nest.now
    c.args.j c.args.k c.args.outer c.requires e.result.value e.ensures.1 c.word-constant.ensures

pub divide-requires : goal.divide-requires
divide-requires c = divisor-positive c.args.nest.now c.args.j c.args.k
    c.args.outer c.requires c.word.ensures

pub returns : goal.returns
returns c = let e = c.extreme_sum-e in
    quotient_is c.args.nest.now c.args.j c.args.k c.args.outer c.requires e.result.value e.ensures.1
    c.word-constant.ensures c.args.side c.word.ensures c.divide.result e.ensures.0
    c.divide.ensures
