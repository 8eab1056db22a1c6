-- `equal_span`: the corners are the two ends.
use Rattle.dependence_banerjee.proofs.SpanLaws.{level-first, level-last, level-spans}
use Rattle.dependence_banerjee.proofs.equal_span.Goals as goal

pub term_difference-requires : goal.term_difference-requires
term_difference-requires c = level-first c.args.c.value c.args.d.value c.args.r c.requires

pub term_difference-requires-2 : goal.term_difference-requires-2
term_difference-requires-2 c = level-last c.args.c.value c.args.d.value
    c.args.r c.requires

pub returns : goal.returns
returns c = level-spans c.args.c.value c.args.d.value
    c.args.r c.requires c.single_value-t.result
    c.term_difference.ensures.0 (
      c.single_value-t.ensures.1,
      c.single_value-t.ensures.2,
    ) c.term_difference-2.ensures.0 c.include_value.ensures
