-- `to_bits` of a word.
use mir.Facts.{to_z-of_z}
use Rattle.ticket_encoding_words.proofs.WritingLaws.{bits-same}
use Rattle.ticket_encoding_words.proofs.I16Word.to_bits.Goals as goal

pub returns : goal.returns
returns c = let z = to_z-of_z c.ranges.self in let e = bits-same c.args.self in cc
