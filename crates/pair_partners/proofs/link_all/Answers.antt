-- `link_all`: the links to all, then those to writes.
use mathlib.Core.Path.{sym, subst}
use native.Mathlib.Omega.{arith}
use Rattle.pair_partners.specs.Chains.{Numbered}
use Rattle.pair_partners.proofs.link_all.Goals as goal

pub link_points-requires-2 : goal.link_points-requires-2
link_points-requires-2 c = let n = c.args.nest.now in (
  subst (Numbered n.numbers.now n.count n.accesses) (sym c.link_points.auto.heads) c.requires.0,
  c.requires.2,
)

pub returns : goal.returns
returns c = let n = c.args.nest.now in let a = c.link_points.auto.links in let b = c.link_points-2.auto.links in
    let f = c.requires.1 in let g = c.requires.2 in record {
      few-points = n.table.few-points;
      few-accesses = n.table.few-accesses;
      numbers = n.table.numbers;
      writes = n.table.writes;
      named-room = omega arith;
      written-room = omega arith;
      to_named = c.link_points.ensures;
      to-written = c.link_points-2.ensures;
    }
