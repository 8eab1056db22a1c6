-- `write_word`: a number as its two bytes.
use mathlib.Core.Path.{refl}
use mathlib.Core.List.Memᴰ
use native.Mathlib.Omega.{arith}
use Rattle.ticket_encoding_words.proofs.WritingLaws.{word-written}
use Rattle.ticket_encoding_words.proofs.write_word.Goals as goal

pub to_bits-requires : goal.to_bits-requires
to_bits-requires g c = c.requires.small _ (Memᴰ.head refl)

pub returns : goal.returns
returns g c = word-written _ _ _ _ _ _ (cc) (omega arith) c.to_le_bytes.ensures c.copy_from_slice.ensures.after
