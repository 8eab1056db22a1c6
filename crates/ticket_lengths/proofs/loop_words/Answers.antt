-- `loop_words`: at most 32 limits of 7 words.
use native.Mathlib.Omega.{arith}
use mathlib.Core.Path.{refl}
use Rattle.ticket_lengths.specs.Lengths.{loop_length}
use Rattle.ticket_lengths.proofs.SumLaws.{loop-most}
use borrow.Author.Rules.{rules}
use Rattle.ticket_lengths.proofs.loop_words.Goals as goal

pub overflow_add-result-2 : goal.overflow_add-result-2
overflow_add-result-2 c = let l = c.requires.lower c.args.k (omega arith) in let u = c.requires.upper c.args.k (omega arith)
    in search rules

pub overflow_mul-result-3 : goal.overflow_mul-result-3
overflow_mul-result-3 c = let m = loop-most c.args.counts.now c.args.k c.requires in search rules

pub overflow_add-result-4 : goal.overflow_add-result-4
overflow_add-result-4 c = let m = loop-most c.args.counts.now c.args.k c.requires in search rules

pub returns : goal.returns
unfolding loop_length
returns c = let m = loop-most c.args.counts.now c.args.k c.requires in (refl, omega arith)
