-- `write_side`: k limits are written behind their count.
use Rattle.model.specs.Encode.{limit_words}
use Rattle.nest_flat.specs.Flat.{limit_at}
use Rattle.ticket_encoding_words.proofs.WritingLaws.{Filling}
use Rattle.ticket_encoding_words.proofs.write_side.Given as goal

abbrev pub invariant-loop-k : goal.invariant-loop-k
invariant-loop-k l = Filling (λ i. limit_words (limit_at l.limits l.outer i)) l.initial.out l.initial.next l.j l.n l.out l.next l.k
