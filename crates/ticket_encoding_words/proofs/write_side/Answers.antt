use Rattle.ticket_encoding_words.proofs.WritingLaws.{written-length, fill-next, fill_more, head-room, head-start, head_done}
use Rattle.ticket_encoding_words.proofs.SectionLaws.{side-spans, limit-writable, limit-written}
use Rattle.ticket_encoding_words.proofs.write_side.Goals as goal

pub write_word-next-requires : goal.write_word-next-requires
write_word-next-requires c = head-room (side-spans c.args.limits.now c.args.outer c.args.j c.args.n)
    c.requires.0

pub loop-k-init : goal.loop-k-init
loop-k-init c = head-start (side-spans c.args.limits.now c.args.outer c.args.j
    c.args.n) c.requires.0 c.write_word-next.ensures

pub write_words-next-requires : goal.write_words-next-requires
write_words-next-requires c = let l = c.loop-k in let t = c.loop-k-test.true in
    limit-writable c.args.limits.now c.args.outer c.args.j c.args.n l.k c.requires.1 t (fill-next l.invariant t)

pub loop-k-preserved : goal.loop-k-preserved
loop-k-preserved c = let l = c.loop-k in let t = c.loop-k-test.true in fill_more l.invariant
    t (limit-written c.args.limits.now c.args.outer c.args.j c.args.n l.k c.requires.1 t c.write_words-next.ensures)

pub returns : goal.returns
returns c = head_done
    (side-spans c.args.limits.now c.args.outer c.args.j c.args.n) c.requires.0
    c.write_word-next.ensures c.loop-k.invariant c.loop-k-test.false

pub shape_of-out : goal.shape_of-out
shape_of-out c = written-length c.requires.0 (returns c)
