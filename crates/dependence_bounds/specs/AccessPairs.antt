-- The pairs of accesses that are lent.
use Rattle.dependence_bounds.specs.Covered.{Pairs, pairs}
use Rattle.dependence_bounds.specs.declared.AccessPairs.{AccessPairs}

abbrev pub pairs_in : AccessPairs → Pairs
pairs_in p = pairs p.words.now p.accessed.now p.arrays.now p.depth p.ranges p.statements.now p.writes.now p.body
