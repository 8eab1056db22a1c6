-- `side_extreme`: the last limit, then each before it.
use mathlib.Core.Path.{◌∙◌}
use native.Mathlib.Omega.{arith}
use Rattle.nest_index_range.proofs.LimitLaws.{copied}
use Rattle.nest_index_range.proofs.SideLaws.{tighter-copied, side-last, side_before, side-all}
use Rattle.nest_loop_ranges.specs.Ranges.{ranges_of}
use Rattle.nest_loop_ranges.specs.Values.{extreme_of, extreme_from}
use Rattle.nest_loop_ranges.proofs.side_extreme.Goals as goal

pub loop-i-init : goal.loop-i-init
unfolding extreme_from
loop-i-init c = let a = c.args in let v = c.limit_extreme-extreme.ensures in let e = copied c.limit_extreme-extreme.result v.1 in (
  e ∙ v.0 ∙ side-last a.side (extreme_of a.side (ranges_of a.k a.outer)) a.nest.now a.k a.j a.n c.requires.some,
  rw e v.1,
)

pub loop-i-preserved : goal.loop-i-preserved
unfolding extreme_from
loop-i-preserved c = let a = c.args in let l = c.loop-i in let v = c.limit_extreme.ensures in let t = tighter-copied a.side _ _ v.1 l.invariant.1 c.tighter-extreme.ensures in (
  t.0 ∙ side_before a.side (extreme_of a.side (ranges_of a.k a.outer)) a.nest.now a.k a.j a.n l.i (omega arith) (omega arith) _ _ l.invariant.0 v.0,
  t.1,
)

pub returns : goal.returns
unfolding extreme_from
returns c = let a = c.args in let l = c.loop-i in (
  side-all a.side (extreme_of a.side (ranges_of a.k a.outer)) a.nest.now a.k a.j a.n l.i (omega arith) _ l.invariant.0,
  l.invariant.1,
)
