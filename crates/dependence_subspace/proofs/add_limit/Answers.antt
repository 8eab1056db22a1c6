-- `add_limit`: the limit is counted, or nothing changed.
use mathlib.Core.Path.{sym, ◌∙◌}
use Rattle.std.specs.Prelude.{is_ok}
use Rattle.dependence_subspace.proofs.ShortenLaws.{limit-counted, limit-refused}
use Rattle.dependence_subspace.proofs.add_limit.Goals as goal

pub returns-then-is_ok : goal.returns-then-is_ok
returns-then-is_ok c = let f = c.if-n-lt-LIMITS.true in let l = c.constant_limit-limit in let y = c.put_limit in limit-counted c.args.limits.now c.args.counts.now c.args.k c.args.side c.requires
    l.result l.ensures.within f (is_ok y.result) _ y.ensures (sym c.is_ok.ensures.value ∙ c.if-is_ok.true)

pub returns-else-is_ok : goal.returns-else-is_ok
returns-else-is_ok c = let f = c.if-n-lt-LIMITS.true in let l = c.constant_limit-limit in let y = c.put_limit in limit-refused c.args.limits.now c.args.counts.now c.args.k c.args.side c.requires
    l.result l.ensures.within f (is_ok y.result) _ y.ensures (sym c.is_ok.ensures.value ∙ c.if-is_ok.false)
