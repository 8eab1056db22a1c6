-- `accesses_words`: as many accesses are counted as were gone through.
use lib.ListN.{length}
use Rattle.ticket_lengths.specs.Lengths.{access_length}
use Rattle.ticket_lengths.proofs.SumLaws.{Summing}
use Rattle.ticket_lengths.proofs.accesses_words.Given as goal

abbrev pub invariant-loop-array : goal.invariant-loop-array
invariant-loop-array l = Summing (access_length l.accessed l.extents l.n) 22 (length l.accessed) l.total l.array-index
