use borrow.Author.Rules.{rules}
use native.Mathlib.Omega.{arith}
use Rattle.ticket_encoding_words.proofs.WritingLaws.{written-length, fill-next, fill_more, head-room, head-start, head_done}
use Rattle.ticket_encoding.proofs.SectionLaws.{accesses-parts}
use Rattle.ticket_encoding.proofs.NestSlices.write_accesses.Goals as goal

pub write_word-next-requires : goal.write_word-next-requires
write_word-next-requires c = head-room (accesses-parts c.args.self.now c.args.k c.args.m) c.requires.0

pub loop-i-init : goal.loop-i-init
loop-i-init c = head-start (accesses-parts c.args.self.now c.args.k c.args.m) c.requires.0 c.write_word-next.ensures

pub overflow_add-k : goal.overflow_add-k
overflow_add-k c = let h = c.requires.1 in let m = c.args.self.now.held.accesses.many in let t = c.loop-i-test.true in search rules

pub write_access-next-requires : goal.write_access-next-requires
write_access-next-requires c = let h = c.requires.1 in let t = c.loop-i-test.true in (fill-next c.loop-i.invariant t, omega arith)

pub loop-i-preserved : goal.loop-i-preserved
loop-i-preserved c = fill_more c.loop-i.invariant c.loop-i-test.true c.write_access-next.ensures

pub returns : goal.returns
returns c = head_done (accesses-parts c.args.self.now c.args.k c.args.m) c.requires.0
    c.write_word-next.ensures c.loop-i.invariant c.loop-i-test.false

pub shape_of-out : goal.shape_of-out
shape_of-out c = written-length c.requires.0 (returns c)
