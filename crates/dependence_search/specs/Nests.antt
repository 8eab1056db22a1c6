-- The flat data of a numbered nest.
use Rattle.dependence_search.specs.Flat.{Flat, flat}
use Rattle.dependence_search.specs.declared.nests.NumberedNest.{NumberedNest}

abbrev pub flat_of : NumberedNest → Flat
flat_of n = flat n.points.now n.depth n.count n.numbers.now n.statements.now n.writes.now n.body
