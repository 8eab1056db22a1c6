use borrow.Author.Rules.{rules}
use Rattle.ticket_lengths.proofs.SumLaws.{sum-start, sum_more, sum_done, sum-small, counts-less}
use Rattle.ticket_lengths.proofs.loops_words.Goals as goal

pub loop-k-init : goal.loop-k-init
loop-k-init c = sum-start _ _ _

pub loop_words-total-requires : goal.loop_words-total-requires
loop_words-total-requires c = counts-less c.args.counts.now c.args.depth c.loop-k.k c.requires
    c.loop-k-test.true

pub overflow_add-total : goal.overflow_add-total
overflow_add-total c = let i = sum-small c.loop-k.invariant 6 c.requires.shallow
    in let e = c.loop_words-total.ensures.1 in search rules

pub loop-k-preserved : goal.loop-k-preserved
loop-k-preserved c = sum_more c.loop-k.invariant c.loop-k-test.true c.loop_words-total.ensures.0 c.loop_words-total.ensures.1

pub returns : goal.returns
returns c = let i = c.loop-k.invariant in (sum_done i c.loop-k-test.false, sum-small i 6 c.requires.shallow)
