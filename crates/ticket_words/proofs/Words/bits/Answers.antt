-- `bits`: the word is there exactly if its second byte is.
use mathlib.Core.Path.{refl, sym}
use Rattle.ticket_words.proofs.WordLaws.{word-there, word-truncated}
use Rattle.ticket_words.proofs.Words.bits.Goals as goal

pub returns-then-self-low : goal.returns-then-self-low
returns-then-self-low c = record { same = sym (word-truncated _ _ c.if-self-low.true); next = tt; bytes = refl }

pub returns : goal.returns
returns c = record { same = sym (word-there _ _ c.if-self-low.false); next = refl; bytes = refl }
