-- `write_accesses`: i accesses are written behind their count.
use Rattle.model.specs.Encode.{access_words}
use Rattle.ticket_encoding.specs.Nests.{access_on}
use Rattle.ticket_encoding_words.proofs.WritingLaws.{Filling}
use Rattle.ticket_encoding.proofs.NestSlices.write_accesses.Given as goal

abbrev pub invariant-loop-i : goal.invariant-loop-i
invariant-loop-i l = Filling (λ j. access_words (access_on l.self j)) l.initial.out l.initial.next l.k l.m l.out l.next l.i
