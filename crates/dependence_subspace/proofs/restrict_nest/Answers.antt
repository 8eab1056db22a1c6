use mathlib.Core.Path.{sym, ◌∙◌}
use native.Mathlib.Omega.{arith}
use Rattle.nest_loop_ranges.proofs.SumLaws.{range-near}
use Rattle.dependence_subspace.proofs.PlaceLaws.{kept-size}
use Rattle.dependence_subspace.proofs.ShortenLaws.{narrower-itself, narrower-more}
use Rattle.dependence_subspace.proofs.restrict_nest.Goals as goal

pub loop-k-init : goal.loop-k-init
loop-k-init c = (omega arith, narrower-itself _ _ _ c.requires.0)

pub offset_bounds-ranges-k : goal.offset_bounds-ranges-k
offset_bounds-ranges-k c = let f = c.requires.1.few in omega arith

pub bounds-ranges-k : goal.bounds-ranges-k
bounds-ranges-k c = let p = c.requires.1 in let f = p.few in let l = p.six in omega arith

pub value_count-requires : goal.value_count-requires
value_count-requires c = tt

pub restrict_loop-requires : goal.restrict_loop-requires
restrict_loop-requires c = let l = c.loop-k in let t = c.loop-k-test.true
    in let o = l.invariant.1.nest in let f = o.shallow in (
      record { words = o.words; counts = o.counts; deep = omega (arith, t) },
      range-near
          c.args.depth c.args.ranges c.requires.1 l.k t,
      kept-size c.value_count.result c.value_count.ensures (omega arith),
    )

pub loop-k-preserved : goal.loop-k-preserved
loop-k-preserved c = let l = c.loop-k in let t = c.loop-k-test.true
    in (omega arith, narrower-more _ _ _ _ _ _ _ l.invariant.1 (c.restrict_loop.ensures c.args.depth t l.invariant.1.nest))

pub shape_of-limits : goal.shape_of-limits
shape_of-limits c = let o = c.loop-k.invariant.1.nest in let p = c.requires.0 in (o.words ∙ sym p.words)

pub shape_of-counts : goal.shape_of-counts
shape_of-counts c = let o = c.loop-k.invariant.1.nest in let p = c.requires.0 in (o.counts ∙ sym p.counts)

pub returns : goal.returns
returns c = c.loop-k.invariant.1
