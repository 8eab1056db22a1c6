-- `is_apart`: by the arrays, by an empty range, or by a dimension.
use mathlib.Core.Path.{sym}
use native.Mathlib.Omega.{arith}
use Rattle.nest_flat.proofs.FlatNestLaws.{words_count}
use Rattle.nest_quick_test.proofs.NestLaws.{array-there, apart-arrays, forms-in, apart-empty, apart-forms}
use Rattle.nest_quick_test.proofs.is_apart.Goals as goal

pub returns-then-array-accessed : goal.returns-then-array-accessed
returns-then-array-accessed c = apart-arrays _ _ _ c.requires c.if-array-accessed.true

pub returns-then-some_empty : goal.returns-then-some_empty
returns-then-some_empty c = let p = c.requires in let r = c.ranges-r
    in let t = c.some_empty in
    apart-empty _ _ _ p c.if-array-accessed.false r.result r.ensures t.result t.ensures c.if-some_empty.true

pub overflow_mul-d : goal.overflow_mul-d
overflow_mul-d c = let h = array-there _ _ _ c.requires in omega arith

pub offset_bounds-extents-array : goal.offset_bounds-extents-array
offset_bounds-extents-array c = let h = array-there _ _ _ c.requires in omega arith

pub bounds-extents-array : goal.bounds-extents-array
bounds-extents-array c = let h = array-there _ _ _ c.requires in omega arith

pub slice_bounds-some_apart-end : goal.slice_bounds-some_apart-end
slice_bounds-some_apart-end c = let p = c.requires in
    sym (words_count _ p.flat-nest)

pub some_apart-requires : goal.some_apart-requires
some_apart-requires c = let r = c.ranges-r in
    forms-in _ _ _ c.requires r.result r.ensures.held

pub returns : goal.returns
returns c = let p = c.requires
    in let r = c.ranges-r in let t = c.some_empty in
    apart-forms _ _ _ p c.if-array-accessed.false r.result r.ensures
    t.result t.ensures c.if-some_empty.false c.some_apart.result c.some_apart.ensures
