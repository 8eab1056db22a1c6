use borrow.Author.Rules.{rules}
use Rattle.ticket_encoding_words.proofs.WritingLaws.{written-length, head-room, head-start, head_done}
use Rattle.ticket_encoding.proofs.StatementLaws.{statements-parts, reach-start, reach-room, reach-there, reach-small, reach-more}
use Rattle.ticket_encoding.proofs.NestSlices.write_statements.Goals as goal

pub write_word-next-requires : goal.write_word-next-requires
write_word-next-requires c = head-room (statements-parts c.args.self.now) c.requires

pub loop-i-init : goal.loop-i-init
loop-i-init c = reach-start (head-start (statements-parts c.args.self.now) c.requires c.write_word-next.ensures)

pub write_statement-next-requires : goal.write_statement-next-requires
write_statement-next-requires c = let i = c.loop-i.invariant in let t = c.loop-i-test.true in (reach-room i t, t, reach-there i t)

pub overflow_add-k : goal.overflow_add-k
overflow_add-k c = let m = reach-small c.loop-i.invariant c.loop-i-test.true in search rules

pub loop-i-preserved : goal.loop-i-preserved
loop-i-preserved c = reach-more c.loop-i.invariant c.loop-i-test.true c.write_statement-next.ensures

pub returns : goal.returns
returns c = head_done (statements-parts c.args.self.now) c.requires c.write_word-next.ensures
    c.loop-i.invariant.filling c.loop-i-test.false

pub shape_of-out : goal.shape_of-out
shape_of-out c = written-length c.requires (returns c)
