use mathlib.Core.Path.{refl, sym}
use native.Mathlib.Omega.{arith}
use Rattle.nest_flat.proofs.FlatNestLaws.{words_count, accessed-count, extents-count}
use Rattle.nest_elements.proofs.NestLaws.{number_in, number-out}
use Rattle.nest_elements.proofs.NumberLaws.{numbered, same_out, next-in, next-out, all-out}
use Rattle.nest_elements.proofs.number_accesses.Goals as goal

pub slice_bounds-words-end : goal.slice_bounds-words-end
slice_bounds-words-end c = sym (words_count _ c.requires.flat-nest)

pub slice_bounds-accessed-end : goal.slice_bounds-accessed-end
slice_bounds-accessed-end c = sym (accessed-count _ c.requires.flat-nest)

pub slice_bounds-extents-end : goal.slice_bounds-extents-end
slice_bounds-extents-end c = sym (extents-count _ c.requires.flat-nest)

pub loop-k-init : goal.loop-k-init
unfolding numbered
loop-k-init c = (omega arith, refl)

pub number_access-requires : goal.number_access-requires
number_access-requires c = let l = c.loop-k in next-in _ _ _ _ _ _ c.args.numbers.now
    (number_in _ _ _ _ c.requires) l.k c.loop-k-test.true l.numbers l.invariant.1

pub loop-k-preserved : goal.loop-k-preserved
loop-k-preserved c = let l = c.loop-k in let v = c.loop-k-test.true
    in let r = c.number_access in (
      omega arith,
      next-out _ _ _ _ _ _ c.args.numbers.now (number_in _ _ _ _ c.requires) l.k l.numbers
          r.new.out l.invariant.1 r.ensures,
    )

pub shape_of-numbers : goal.shape_of-numbers
shape_of-numbers c = let l = c.loop-k in same_out _ _ _ _ _ _ c.args.numbers.now (number_in _ _ _ _ c.requires) l.k
    l.invariant.0 l.numbers l.invariant.1

pub returns : goal.returns
returns c = let l = c.loop-k in let o = c.args.numbers.now in number-out _ _ _ _ c.requires o l.numbers refl
    (all-out _ _ _ _ _ _ o (number_in _ _ _ _ c.requires) l.k l.invariant.0 c.loop-k-test.false l.numbers l.invariant.1)
