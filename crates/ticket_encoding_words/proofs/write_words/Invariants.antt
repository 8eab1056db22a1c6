-- `write_words`: as many words are written as were gone through.
use mathlib.Core.List.{[], ◌∷◌, map}
use lib.IntN.{pos}
use lib.ListN.{length, get_or}
use Rattle.ticket_encoding_words.proofs.WritingLaws.{Filling}
use Rattle.ticket_encoding_words.proofs.write_words.Given as goal

abbrev pub invariant-loop-word : goal.invariant-loop-word
invariant-loop-word g l = Filling (λ j. get_or (map g.W.Word.number l.words) j (pos 0) ∷ []) l.initial.out l.initial.next 0
    (length l.words) l.out l.next l.word-index
