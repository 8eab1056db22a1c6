-- `write_arrays`: i arrays are written behind their count.
use mathlib.Core.List.{map}
use Prim.Native.Nat.{◌+◌, ◌*◌}
use lib.IntN.{pos}
use lib.ListN.{get_or, take, drop}
use Rattle.ticket_encoding_words.proofs.WritingLaws.{Filling}
use Rattle.ticket_encoding.proofs.write_arrays.Given as goal

abbrev pub invariant-loop-i : goal.invariant-loop-i
invariant-loop-i l = Filling (λ j. map pos (take (get_or l.arrays (j * 4) 0 + 1) (drop (j * 4) l.arrays))) l.initial.out l.initial.next 0
    l.count l.out l.next l.i
