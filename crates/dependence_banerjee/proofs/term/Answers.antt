-- `term`: the span of the two coefficients.
use Rattle.dependence_banerjee.proofs.SpanLaws.{span_between}
use Rattle.dependence_banerjee.proofs.term.Goals as goal

pub returns : goal.returns
returns c = span_between c.coefficient-c.ensures.0 c.coefficient-d.ensures.0 c.span.ensures
