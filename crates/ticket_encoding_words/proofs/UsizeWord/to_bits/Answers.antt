-- `to_bits` of a natural number: one from 0 to 32767 is its own bits.
use mathlib.Core.Path.{refl}
use Rattle.model.specs.Words.{bits}
use Rattle.ticket_encoding_words.proofs.UsizeWord.to_bits.Goals as goal

pub returns : goal.returns
unfolding bits
returns c = refl
