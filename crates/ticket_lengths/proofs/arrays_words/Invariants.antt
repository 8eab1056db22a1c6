-- `arrays_words`: i arrays are counted.
use Rattle.model.specs.Grammar.{array_room}
use Rattle.ticket_lengths.specs.Lengths.{array_length}
use Rattle.ticket_lengths.proofs.SumLaws.{Summing}
use Rattle.ticket_lengths.proofs.arrays_words.Given as goal

abbrev pub invariant-loop-i : goal.invariant-loop-i
invariant-loop-i l = Summing (array_length l.extents) array_room l.count l.total l.i
