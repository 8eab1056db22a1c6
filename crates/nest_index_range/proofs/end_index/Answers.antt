-- `end_index`: the last limit, then each before it.
use mathlib.Core.Path.{◌∙◌}
use native.Mathlib.Omega.{arith}
use lib.ListN.{length}
use Rattle.nest_index_range.specs.Ranges.{allowed}
use Rattle.nest_index_range.proofs.LimitLaws.{copied}
use Rattle.nest_index_range.proofs.SideLaws.{tighter-copied, side-of, side-last, side_before, side-all, end-of}
use Rattle.nest_index_range.proofs.end_index.Goals as goal

pub loop-i-init : goal.loop-i-init
loop-i-init c = let q = side-of c.requires c.place-place.ensures in let v = c.limit_index-end.ensures in let e = copied c.limit_index-end.result v.1 in (
  e ∙ v.0 ∙ side-last c.args.side (allowed c.args.side c.args.outer.now) c.args.nest.now (length c.args.outer.now) _ _ q.some,
  rw e v.1,
)

pub loop-i-preserved : goal.loop-i-preserved
loop-i-preserved c =
    let l = c.loop-i in let v = c.limit_index.ensures in let t = tighter-copied c.args.side _ _ v.1 l.invariant.1 c.tighter-end.ensures in (
      t.0 ∙ side_before c.args.side (allowed c.args.side c.args.outer.now) c.args.nest.now (length c.args.outer.now) _ _ l.i
          (omega arith) (omega arith) _ _ l.invariant.0 v.0,
      t.1,
    )

pub returns : goal.returns
returns c = let l = c.loop-i in (
  end-of c.args.side c.args.nest.now c.args.counts.now c.args.outer.now c.place-place.ensures
      (side-all c.args.side (allowed c.args.side c.args.outer.now) c.args.nest.now (length c.args.outer.now) _ _ l.i (omega arith) _ l.invariant.0),
  l.invariant.1,
)
