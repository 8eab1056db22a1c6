use Rattle.ticket_encoding_words.proofs.WritingLaws.{written-length, fill-next, fill_more, head-room, head-start, head_done}
use Rattle.ticket_encoding.proofs.SectionLaws.{access-parts}
use Rattle.ticket_encoding.proofs.SectionLaws.{form-room, form-writable, form-written}
use Rattle.ticket_encoding.proofs.NestSlices.write_access.Goals as goal

pub write_word-next-requires : goal.write_word-next-requires
write_word-next-requires c = head-room (access-parts c.args.self.now c.args.k c.requires.1) c.requires.0

pub loop-d-init : goal.loop-d-init
loop-d-init c = head-start (access-parts c.args.self.now c.args.k c.requires.1) c.requires.0 c.write_word-next.ensures

pub slice_bounds-write_words-end : goal.slice_bounds-write_words-end
slice_bounds-write_words-end c = form-room c.args.self.now c.args.k c.requires.1 c.loop-d.d c.loop-d-test.true

pub write_words-next-requires : goal.write_words-next-requires
write_words-next-requires c = form-writable c.args.self.now _ (fill-next c.loop-d.invariant c.loop-d-test.true)

pub loop-d-preserved : goal.loop-d-preserved
loop-d-preserved c = fill_more c.loop-d.invariant c.loop-d-test.true (form-written c.args.self.now _ c.write_words-next.ensures)

pub returns : goal.returns
returns c = head_done (access-parts c.args.self.now c.args.k c.requires.1) c.requires.0
    c.write_word-next.ensures c.loop-d.invariant c.loop-d-test.false

pub shape_of-out : goal.shape_of-out
shape_of-out c = written-length c.requires.0 (returns c)
