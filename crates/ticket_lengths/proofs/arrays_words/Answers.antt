use borrow.Author.Rules.{rules}
use mathlib.Core.Path.{refl}
use native.Mathlib.Omega.{arith}
use Rattle.model.specs.Grammar.{most_arrays}
use Rattle.ticket_lengths.specs.Lengths.{array_length}
use Rattle.ticket_lengths.proofs.SumLaws.{sum-start, sum_more, sum_done, sum-small, array-ends, few-arrays}
use Rattle.ticket_lengths.proofs.arrays_words.Goals as goal

pub loop-i-init : goal.loop-i-init
loop-i-init c = sum-start _ _ _

pub overflow_mul-total : goal.overflow_mul-total
overflow_mul-total c = let e = array-ends c.args.extents.now c.loop-i.i c.loop-i-test.true
    in let f = c.requires.few in search rules

pub offset_bounds-extents-i : goal.offset_bounds-extents-i
offset_bounds-extents-i c = let e = array-ends c.args.extents.now c.loop-i.i c.loop-i-test.true
    in let f = c.requires.few in search rules

pub bounds-extents-i : goal.bounds-extents-i
bounds-extents-i c = let e = array-ends c.args.extents.now c.loop-i.i
    c.loop-i-test.true in omega arith

pub overflow_add-total : goal.overflow_add-total
overflow_add-total c = let d = c.requires.dimensions c.loop-i.i c.loop-i-test.true in search rules

pub overflow_add-total-in-loop-i : goal.overflow_add-total-in-loop-i
overflow_add-total-in-loop-i c = let d = c.requires.dimensions c.loop-i.i c.loop-i-test.true
    in let i = sum-small c.loop-i.invariant most_arrays (few-arrays c.args.extents.now c.requires) in search rules

pub loop-i-preserved : goal.loop-i-preserved
unfolding array_length
loop-i-preserved c = let d = c.requires.dimensions c.loop-i.i c.loop-i-test.true in sum_more
    c.loop-i.invariant c.loop-i-test.true refl (omega arith)

pub returns : goal.returns
returns c = let i = c.loop-i.invariant in (
  sum_done i c.loop-i-test.false,
  sum-small i most_arrays
      (few-arrays c.args.extents.now c.requires),
)
