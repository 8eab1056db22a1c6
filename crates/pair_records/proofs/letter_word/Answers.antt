-- `letter_word`: a letter is a small number.
use mathlib.Core.Path.{ap, ◌∙◌}
use native.Mathlib.Omega.{arith}
use lib.IntN.{pos}
use lib.ListN.{get_or}
use Rattle.model.specs.Directions.{kinds, flow}
use Rattle.model.specs.Listing.{letter}
use Rattle.pair_records.proofs.RecordLaws.{letter-small, word_back}
use Rattle.pair_records.proofs.letter_word.Goals as goal

pub overflow_cast-letter : goal.overflow_cast-letter
overflow_cast-letter c = let e = c.letter.ensures in let s = letter-small (get_or kinds c.args.kind flow) in omega arith

pub number_word-requires : goal.number_word-requires
number_word-requires c = let e = c.letter.ensures in let s = letter-small (get_or kinds c.args.kind flow) in omega arith

pub returns : goal.returns
returns c = let k = get_or kinds c.args.kind flow in let s = letter-small k in
    word_back (pos (letter k)) c.number_word.result (omega arith) (c.number_word.ensures ∙ ap pos c.letter.ensures)
