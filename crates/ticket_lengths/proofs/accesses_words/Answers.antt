-- `accesses_words`: at most 3 subscripts of 7 words each.
use borrow.Author.Rules.{rules}
use mathlib.Core.Path.{refl}
use native.Mathlib.Omega.{arith}
use Rattle.model.specs.Grammar.{most_accesses}
use Rattle.ticket_lengths.specs.Lengths.{access_length}
use Rattle.ticket_lengths.proofs.SumLaws.{sum-start, sum_more, sum_done, sum-small, its-array-ends, access-most}
use Rattle.ticket_lengths.proofs.accesses_words.Goals as goal

pub loop-array-init : goal.loop-array-init
loop-array-init c = sum-start _ _ _

pub overflow_mul-total : goal.overflow_mul-total
overflow_mul-total c = let e = its-array-ends _ _ _ _ c.requires c.loop-array-test.true
    in let f = c.requires.arrays.few in search rules

pub offset_bounds-extents-array : goal.offset_bounds-extents-array
offset_bounds-extents-array c = let e = its-array-ends _ _ _ _ c.requires c.loop-array-test.true
    in let f = c.requires.arrays.few in search rules

pub bounds-extents-array : goal.bounds-extents-array
bounds-extents-array c = let e = its-array-ends _ _ _ _ c.requires c.loop-array-test.true in omega arith

pub overflow_mul-total-in-loop-array : goal.overflow_mul-total-in-loop-array
overflow_mul-total-in-loop-array c = let m = access-most _ _ _ _ c.requires c.loop-array-test.true in search rules

pub loop-array-preserved : goal.loop-array-preserved
unfolding access_length
loop-array-preserved c = let m = access-most _ _ _ _ c.requires c.loop-array-test.true
    in sum_more c.loop-array.invariant c.loop-array-test.true refl (omega arith)

pub returns : goal.returns
returns c = let i = c.loop-array.invariant in (sum_done i c.loop-array-test.false, sum-small i most_accesses c.requires.many)
