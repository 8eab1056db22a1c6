-- `read_arrays`: k arrays are read and laid, with `total` elements.
use Rattle.ticket_arrays.proofs.ReadLaws.{Filling}
use Rattle.ticket_arrays.proofs.read_arrays.Given as goal

abbrev pub invariant-loop-k : goal.invariant-loop-k
invariant-loop-k l = Filling l.initial.words l.words l.count l.fn.extents l.extents l.total l.k
