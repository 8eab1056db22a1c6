use Rattle.ticket_encoding_words.proofs.WritingLaws.{written-length, front-next, front-more, head-room, head-start, head_done}
use Rattle.ticket_lengths.proofs.SliceLaws.{arrays-spans}
use Rattle.ticket_encoding.proofs.SectionLaws.{array-room, array-writable, array-written}
use Rattle.ticket_encoding.proofs.write_arrays.Goals as goal

pub write_word-next-requires : goal.write_word-next-requires
write_word-next-requires c = head-room (arrays-spans c.args.arrays.now c.requires.1.dimensions) c.requires.0

pub loop-i-init : goal.loop-i-init
loop-i-init c = head-start (arrays-spans c.args.arrays.now c.requires.1.dimensions)
    c.requires.0 c.write_word-next.ensures

pub slice_bounds-write_words-end : goal.slice_bounds-write_words-end
slice_bounds-write_words-end c = array-room c.args.arrays.now c.loop-i.i c.requires.1 c.loop-i-test.true

pub write_words-next-requires : goal.write_words-next-requires
write_words-next-requires c = array-writable c.args.arrays.now c.loop-i.i (front-next c.loop-i.invariant c.loop-i-test.true)

pub loop-i-preserved : goal.loop-i-preserved
loop-i-preserved c = front-more c.loop-i.invariant
    c.loop-i-test.true (array-written c.args.arrays.now c.loop-i.i c.write_words-next.ensures)

pub returns : goal.returns
returns c = head_done
    (arrays-spans c.args.arrays.now c.requires.1.dimensions) c.requires.0 c.write_word-next.ensures
    c.loop-i.invariant c.loop-i-test.false

pub shape_of-out : goal.shape_of-out
shape_of-out c = written-length c.requires.0 (returns c)
