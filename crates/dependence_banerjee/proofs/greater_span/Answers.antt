-- `greater_span`: by `less_span` of the two terms negated and exchanged.
use Rattle.dependence_banerjee.proofs.SpanLaws.{falling-in, falling-spans}
use Rattle.dependence_banerjee.proofs.greater_span.Goals as goal

pub less_span-requires : goal.less_span-requires
less_span-requires c = falling-in c.args.c.value c.args.d.value c.args.r c.requires
    c.negated.ensures c.negated-2.ensures

pub returns : goal.returns
returns c = falling-spans c.args.c.value c.args.d.value c.args.r c.requires
    c.negated.ensures c.negated-2.ensures c.less_span.ensures
