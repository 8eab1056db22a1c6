-- `less_span`: the three corners of the triangle.
use Rattle.dependence_banerjee.proofs.SpanLaws.{next_fits, last_fits, rising-first, rising-middle, rising-last, rising-spans}
use Rattle.dependence_banerjee.proofs.less_span.Goals as goal

pub overflow_add-r : goal.overflow_add-r
overflow_add-r c = next_fits c.args.c.value c.args.d.value c.args.r c.requires

pub term_difference-requires : goal.term_difference-requires
term_difference-requires c = rising-first c.args.c.value c.args.d.value c.args.r c.requires

pub term_difference-requires-2 : goal.term_difference-requires-2
term_difference-requires-2 c = rising-middle c.args.c.value
    c.args.d.value c.args.r c.requires

pub overflow_sub-r : goal.overflow_sub-r
overflow_sub-r c = last_fits
    c.args.c.value c.args.d.value c.args.r c.requires

pub term_difference-requires-3 : goal.term_difference-requires-3
term_difference-requires-3 c = rising-last c.args.c.value c.args.d.value c.args.r c.requires

pub returns : goal.returns
returns c = rising-spans c.args.c.value c.args.d.value c.args.r c.requires
    c.single_value-t.result
    c.term_difference.ensures.0 (
      c.single_value-t.ensures.1,
      c.single_value-t.ensures.2,
    )
    c.term_difference-2.ensures.0
    c.include_value-s.ensures c.term_difference-3.ensures.0 c.include_value.ensures
