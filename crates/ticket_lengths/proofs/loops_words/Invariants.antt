-- `loops_words`: k loops are counted.
use Rattle.ticket_lengths.specs.Lengths.{loop_length}
use Rattle.ticket_lengths.proofs.SumLaws.{Summing}
use Rattle.ticket_lengths.proofs.loops_words.Given as goal

abbrev pub invariant-loop-k : goal.invariant-loop-k
invariant-loop-k l = Summing (loop_length l.counts) 258 l.depth l.total l.k
