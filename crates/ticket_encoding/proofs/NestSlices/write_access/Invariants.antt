-- `write_access`: d subscripts are written behind the array's number.
use Prim.Native.Nat.{◌+◌, ◌*◌}
use lib.ListN.{take, drop}
use Rattle.ticket_encoding_words.proofs.WritingLaws.{Filling}
use Rattle.ticket_encoding.proofs.NestSlices.write_access.Given as goal

abbrev pub invariant-loop-d : goal.invariant-loop-d
invariant-loop-d l = Filling (λ i. take (l.self.depth + 1) (drop (i * 8) l.self.words.now)) l.initial.out l.initial.next
    (l.k * 3) l.dimensions l.out l.next l.d
