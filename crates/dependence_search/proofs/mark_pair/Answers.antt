-- `mark_pair`: the search, where one of the two accesses writes.
use Rattle.dependence_search.specs.Nests.{flat_of}
use Rattle.dependence_search.proofs.FlatLaws.{ready, searchable, numbers-below, pair-sets, reads-set-none}
use Rattle.dependence_search.proofs.mark_pair.Goals as goal

pub returns-in_default : goal.returns-in_default
returns-in_default c = let n = c.args.nest.now in let F = flat_of n in let m = c.args.marks.now in
    (reads-set-none F m (ready F m n.flat_in n.rising c.requires.0) c.args.a c.args.b c.in_default.ensures, c.requires.3.clear)

pub search-requires : goal.search-requires
search-requires c = let n = c.args.nest.now in let F = flat_of n in let m = c.args.marks.now in
    let ok = ready F m n.flat_in n.rising c.requires.0 in
    rw (c.numbers_of.ensures, c.numbers_of-in-Some.ensures) (
      searchable F m ok c.args.a c.args.b c.block.result c.requires.1 c.requires.2 c.block.ensures.1,
      c.requires.3,
      numbers-below F m ok _ c.args.b c.requires.4 c.requires.2,
    )

pub returns-in-Some : goal.returns-in-Some
returns-in-Some c = let n = c.args.nest.now in let F = flat_of n in let m = c.args.marks.now in
    let ok = ready F m n.flat_in n.rising c.requires.0 in let k = c.in-Some.ensures in
    let e = rw (c.numbers_of.ensures, c.numbers_of-in-Some.ensures) at c.search.ensures.0 in (
      pair-sets F m ok c.search.new.marks c.args.a c.args.b c.in-Some.k c.block.result c.requires.1 k.0 k.1 c.block.ensures.0 e,
      c.search.ensures.1,
    )
