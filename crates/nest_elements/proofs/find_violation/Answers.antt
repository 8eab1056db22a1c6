use mathlib.Core.Path.{refl, sym, subst}
use native.Mathlib.Omega.{arith}
use Prim.Native.Nat.{◌+◌}
use Rattle.std.specs.Prelude.{Some, None}
use Rattle.nest_flat.proofs.FlatNestLaws.{words_count, accessed-count, extents-count, sizes-count}
use Rattle.nest_elements.specs.Nests.{NestSearched}
use Rattle.nest_elements.proofs.ViolationLaws.{no-access}
use Rattle.nest_elements.proofs.FindLaws.{none_yet, kept, violation-in, next-dimension, leaves}
use Rattle.nest_elements.proofs.FindLaws.{start, finished, accesses-end, next-statement, access-in, bounds-in, next-access, found}
use Rattle.nest_elements.proofs.NestLaws.{search-in, search-out}
use Rattle.nest_elements.proofs.find_violation.Goals as goal

pub slice_bounds-words-end : goal.slice_bounds-words-end
slice_bounds-words-end c = sym (words_count _ c.requires.flat-nest)

pub slice_bounds-accessed-end : goal.slice_bounds-accessed-end
slice_bounds-accessed-end c = sym (accessed-count _ c.requires.flat-nest)

pub slice_bounds-extents-end : goal.slice_bounds-extents-end
slice_bounds-extents-end c = sym (extents-count _ c.requires.flat-nest)

pub slice_bounds-sizes-end : goal.slice_bounds-sizes-end
slice_bounds-sizes-end c = sym (sizes-count _ c.requires.flat-nest)

pub search-init : goal.search-init
search-init c = (refl, start (search-in _ _ _ c.requires))

pub loop-i-init : goal.loop-i-init
loop-i-init c = let s = search-in _ _ _ c.requires in (c.search.invariant.0, omega arith, no-access _ _ _ _ _ s.accesses _)

pub overflow_add-k : goal.overflow_add-k
overflow_add-k c = let b = bounds-in (search-in _ _ _ c.requires) c.search.invariant.1 c.search-test.true c.loop-i-test.true in omega arith

pub offset_bounds-accessed-k : goal.offset_bounds-accessed-k
offset_bounds-accessed-k c =
    let b = bounds-in (search-in _ _ _ c.requires) c.search.invariant.1 c.search-test.true c.loop-i-test.true in omega arith

pub bounds-accessed-k : goal.bounds-accessed-k
bounds-accessed-k c =
    let b = bounds-in (search-in _ _ _ c.requires) c.search.invariant.1 c.search-test.true c.loop-i-test.true in omega arith

pub overflow_mul-at : goal.overflow_mul-at
overflow_mul-at c = let b = bounds-in (search-in _ _ _ c.requires) c.search.invariant.1 c.search-test.true c.loop-i-test.true in omega arith

pub offset_bounds-extents-at : goal.offset_bounds-extents-at
offset_bounds-extents-at c =
    let b = bounds-in (search-in _ _ _ c.requires) c.search.invariant.1 c.search-test.true c.loop-i-test.true in omega arith

pub bounds-extents-at : goal.bounds-extents-at
bounds-extents-at c =
    let b = bounds-in (search-in _ _ _ c.requires) c.search.invariant.1 c.search-test.true c.loop-i-test.true in omega arith

pub loop-d-init : goal.loop-d-init
loop-d-init c = (
  c.loop-i.invariant.0,
  omega arith,
  none_yet (access-in (search-in _ _ _ c.requires) c.search.invariant.1 c.search-test.true c.loop-i-test.true),
)

pub overflow_mul-k : goal.overflow_mul-k
overflow_mul-k c = let b = bounds-in (search-in _ _ _ c.requires) c.search.invariant.1 c.search-test.true c.loop-i-test.true in omega arith

pub overflow_add-k-in-loop-d : goal.overflow_add-k-in-loop-d
overflow_add-k-in-loop-d c =
    let b = bounds-in (search-in _ _ _ c.requires) c.search.invariant.1 c.search-test.true c.loop-i-test.true in
    let z = c.loop-d-test.true in omega arith

pub overflow_add-extent : goal.overflow_add-extent
overflow_add-extent c =
    let b = bounds-in (search-in _ _ _ c.requires) c.search.invariant.1 c.search-test.true c.loop-i-test.true in
    let z = c.loop-d-test.true in omega arith

pub overflow_add-extent-in-loop-d : goal.overflow_add-extent-in-loop-d
overflow_add-extent-in-loop-d c =
    let b = bounds-in (search-in _ _ _ c.requires) c.search.invariant.1 c.search-test.true c.loop-i-test.true in
    let z = c.loop-d-test.true in omega arith

pub offset_bounds-extents-at-in-loop-d : goal.offset_bounds-extents-at-in-loop-d
offset_bounds-extents-at-in-loop-d c =
    let b = bounds-in (search-in _ _ _ c.requires) c.search.invariant.1 c.search-test.true c.loop-i-test.true in
    let z = c.loop-d-test.true in omega arith

pub bounds-extents-at-in-loop-d : goal.bounds-extents-at-in-loop-d
bounds-extents-at-in-loop-d c =
    let b = bounds-in (search-in _ _ _ c.requires) c.search.invariant.1 c.search-test.true c.loop-i-test.true in
    let z = c.loop-d-test.true in omega arith

pub violates-requires : goal.violates-requires
violates-requires c =
    violation-in (access-in (search-in _ _ _ c.requires) c.search.invariant.1 c.search-test.true c.loop-i-test.true) c.loop-d-test.true

pub overflow_add-found : goal.overflow_add-found
overflow_add-found c = let s = search-in _ _ _ c.requires in let m = s.statements in let v = c.search-test.true in omega arith

pub loop-d-preserved : goal.loop-d-preserved
loop-d-preserved c = let z = c.loop-d-test.true in (
  c.loop-d.invariant.0,
  omega arith,
  next-dimension (access-in (search-in _ _ _ c.requires) c.search.invariant.1 c.search-test.true c.loop-i-test.true) z
      c.violates.ensures c.loop-d.invariant.2 c.if-violates.false,
)

pub loop-i-preserved : goal.loop-i-preserved
loop-i-preserved c = let v = c.loop-i-test.true in let l = c.loop-d in (
  l.invariant.0,
  omega arith,
  next-access (search-in _ _ _ c.requires) c.search.invariant.1 c.search-test.true v c.loop-i.invariant.2
      (kept (access-in (search-in _ _ _ c.requires) c.search.invariant.1 c.search-test.true v) l.d l.invariant.1
      c.loop-d-test.false l.invariant.2),
)

pub overflow_add-first : goal.overflow_add-first
overflow_add-first c = let s = search-in _ _ _ c.requires in let h = accesses-end s c.search.invariant.1 c.search-test.true in
    let m = s.accesses.many in omega arith

pub search-preserved : goal.search-preserved
search-preserved c = let l = c.loop-i in (
  l.invariant.0,
  next-statement (search-in _ _ _ c.requires) c.search.invariant.1 c.search-test.true l.i l.invariant.1 c.loop-i-test.false l.invariant.2,
)

pub returns-after-search : goal.returns-after-search
returns-after-search c = subst (NestSearched _) (sym c.search.invariant.0)
    (search-out _ _ _ None c.requires (finished (search-in _ _ _ c.requires) c.search.invariant.1 c.search-test.false))

pub returns-then-violates : goal.returns-then-violates
returns-then-violates c =
    let s = search-in _ _ _ c.requires in
    search-out _ _ _ (Some (c.search.statement + 1)) c.requires
    (found s c.search.invariant.1 c.search-test.true c.loop-i-test.true c.loop-i.invariant.2
    (leaves (access-in s c.search.invariant.1 c.search-test.true c.loop-i-test.true) c.loop-d-test.true c.violates.ensures
    c.loop-d.invariant.2 c.if-violates.true))
