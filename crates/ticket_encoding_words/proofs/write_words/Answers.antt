use Rattle.ticket_encoding_words.proofs.WritingLaws.{mapped-spans, written-length, front-next, front-more, bare-start, bare-done, word_in, word_out}
use Rattle.ticket_encoding_words.proofs.write_words.Goals as goal

pub loop-word-init : goal.loop-word-init
loop-word-init g c = bare-start (mapped-spans g.W.Word.number c.args.words.now) c.requires

pub write_word-next-requires : goal.write_word-next-requires
write_word-next-requires g c = let t = c.loop-word-test.true in word_in _ _ t c.word-item.is (front-next c.loop-word.invariant t)

pub loop-word-preserved : goal.loop-word-preserved
loop-word-preserved g c = let t = c.loop-word-test.true in front-more c.loop-word.invariant t
    (word_out _ _ t c.word-item.is c.write_word-next.ensures)

pub returns : goal.returns
returns g c = bare-done (mapped-spans g.W.Word.number c.args.words.now) c.loop-word.invariant c.loop-word-test.false

pub shape_of-out : goal.shape_of-out
shape_of-out g c = written-length c.requires (returns g c)
