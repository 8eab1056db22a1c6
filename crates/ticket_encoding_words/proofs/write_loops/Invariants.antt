-- `write_loops`: k loops are written behind their count.
use Rattle.model.specs.Encode.{loop_words}
use Rattle.nest_flat.specs.Flat.{loop_at}
use Rattle.ticket_encoding_words.proofs.WritingLaws.{Filling}
use Rattle.ticket_encoding_words.proofs.write_loops.Given as goal

abbrev pub invariant-loop-k : goal.invariant-loop-k
invariant-loop-k l = Filling (λ i. loop_words (loop_at l.limits l.counts i)) l.initial.out l.initial.next 0 l.depth l.out l.next l.k
