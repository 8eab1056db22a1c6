-- `span`: a law for each digit.
use Rattle.dependence_banerjee.proofs.SpanLaws.{span_of, last-digit}
use Rattle.dependence_banerjee.proofs.span.Goals as goal

pub returns-in-0 : goal.returns-in-0
returns-in-0 c = span_of 0 c.in-0.is c.less_span.ensures

pub returns-in-1 : goal.returns-in-1
returns-in-1 c = span_of 1 c.in-1.is c.equal_span.ensures

pub returns-in_default : goal.returns-in_default
returns-in_default c = span_of 2 (last-digit c.args.s c.requires.1 c.in_default.in_default-own.rest.0.1
    c.in_default.in_default-own.rest.1) c.greater_span.ensures
