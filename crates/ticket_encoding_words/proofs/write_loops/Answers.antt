use Rattle.ticket_encoding_words.proofs.WritingLaws.{written-length, front-next, front-more, head-room, head-start, head_done}
use Rattle.ticket_encoding_words.proofs.SectionLaws.{loops-spans}
use Rattle.ticket_encoding_words.proofs.write_loops.Goals as goal

pub write_word-next-requires : goal.write_word-next-requires
write_word-next-requires c = head-room (loops-spans c.args.limits.now c.args.counts.now
    c.args.depth) c.requires.0

pub loop-k-init : goal.loop-k-init
loop-k-init c = head-start
    (loops-spans c.args.limits.now c.args.counts.now c.args.depth) c.requires.0 c.write_word-next.ensures

pub write_loop-next-requires : goal.write_loop-next-requires
write_loop-next-requires c = let t = c.loop-k-test.true
    in (front-next c.loop-k.invariant t, record { depth = c.args.depth; nest = c.requires.1; there = t })

pub loop-k-preserved : goal.loop-k-preserved
loop-k-preserved c = front-more c.loop-k.invariant c.loop-k-test.true
    c.write_loop-next.ensures

pub returns : goal.returns
returns c = head_done
    (loops-spans c.args.limits.now c.args.counts.now c.args.depth) c.requires.0
    c.write_word-next.ensures c.loop-k.invariant c.loop-k-test.false

pub shape_of-out : goal.shape_of-out
shape_of-out c = written-length c.requires.0 (returns c)
