-- `search`: the links of the sinks, then the walks, if there is a link.
use native.Mathlib.Omega.{arith}
use Rattle.dependence_pair_search.proofs.SearchLaws.{search-none}
use Rattle.dependence_pair_search.proofs.search.Goals as goal

pub mark_chains-requires : goal.mark_chains-requires
mark_chains-requires c = let p = c.requires in let l = c.link in let k = l.auto.out
    in let r = p.1.room in (p.0, record { nexts = p.1.nexts; starts = l.ensures.0; table = p.1.table; room = omega arith })

pub returns-else-link : goal.returns-else-link
returns-else-link c = let a = c.args in let l = c.link in (
  search-none a.points.now a.depth a.from.now a.to.now a.own a.base a.next.now l.new.out a.marks.now
      c.requires.1.table c.requires.1.nexts l.ensures.0 (l.ensures.2 c.if-link.false),
  l.ensures.1,
)
