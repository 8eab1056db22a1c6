use mathlib.Core.Path.{refl, sym, ◌∙◌}
use Prim.Native.Nat.{◌+◌, ◌-◌}
use native.Mathlib.Omega.{arith}
use Rattle.dependence_search.specs.Flat.{Flat}
use Rattle.pair_records.specs.Nests.{flat_of}
use Rattle.pair_records.proofs.WalkLaws.{walk_begins, come-so-far, walk-turns, walk-full, walk_ends}
use Rattle.pair_records.proofs.walk.Goals as goal

pub loop-x-init : goal.loop-x-init
loop-x-init c =
    let nest : Flat = let a = c.args in flat_of a.nest.now in
    let a = c.args in
    (walk_begins nest a.nest.now.moved_depth a.nest.now.moved.now a.from a.skip a.found.now c.requires.0 c.requires.2, refl)

pub shape_of-partners-then-w-ge-BATCH : goal.shape_of-partners-then-w-ge-BATCH
shape_of-partners-then-w-ge-BATCH c = c.loop-x.invariant.1

pub shape_of-found-then-w-ge-BATCH : goal.shape_of-found-then-w-ge-BATCH
shape_of-found-then-w-ge-BATCH c = c.loop-x.invariant.0.window.room
    ∙ sym c.requires.2

pub returns-then-w-ge-BATCH : goal.returns-then-w-ge-BATCH
returns-then-w-ge-BATCH c =
    let nest : Flat = let a = c.args in flat_of a.nest.now in
    let a = c.args in
    let l = c.loop-x in let i = l.invariant.0 in record {
      window = walk-full nest a.nest.now.moved_depth a.nest.now.moved.now a.from a.skip l.x l.w l.source l.before l.found i
          c.if-w-ge-BATCH.true;
      first = i.first;
      inside = i.source-inside;
      before = i.before-is;
      near = i.near;
    }

pub overflow_sub-before : goal.overflow_sub-before
overflow_sub-before c =
    let nest : Flat = let a = c.args in flat_of a.nest.now in
    let a = c.args in
    let l = c.loop-x in
    (come-so-far nest a.nest.now.moved_depth a.nest.now.moved.now a.from a.skip l.x l.w l.source l.before l.found l.invariant.0
    c.args.nest.now.walkable.ready c.if-w-ge-BATCH.false).0

pub overflow_add-before : goal.overflow_add-before
overflow_add-before c =
    let nest : Flat = let a = c.args in flat_of a.nest.now in
    let a = c.args in
    let l = c.loop-x in
    let h = (come-so-far nest a.nest.now.moved_depth a.nest.now.moved.now a.from a.skip l.x l.w l.source l.before l.found l.invariant.0
    c.args.nest.now.walkable.ready c.if-w-ge-BATCH.false).2 in omega arith

pub pass_source-w-requires : goal.pass_source-w-requires
pass_source-w-requires c = let l = c.loop-x in let e = l.invariant.1 in let h = c.requires.1 in
    (c.loop-x-test.true, omega arith, l.invariant.0.window.room)

pub loop-x-preserved : goal.loop-x-preserved
loop-x-preserved c =
    let nest : Flat = let a = c.args in flat_of a.nest.now in
    let a = c.args in let l = c.loop-x in
    let p = c.pass_source-w in (
      walk-turns nest a.nest.now.moved_depth a.nest.now.moved.now a.from a.skip l.x l.w l.source l.before l.found l.invariant.0
          p.result p.new.found (a.skip - l.w.skip + l.w.got)
          c.loop-x-test.true
          (come-so-far nest a.nest.now.moved_depth a.nest.now.moved.now a.from a.skip l.x l.w l.source l.before l.found l.invariant.0
          c.args.nest.now.walkable.ready c.if-w-ge-BATCH.false).1
          (let g = c.if-w-ge-BATCH.false in omega arith) p.ensures,
      p.auto.partners ∙ l.invariant.1,
    )

pub returns-after-loop-x : goal.returns-after-loop-x
returns-after-loop-x c =
    let nest : Flat = let a = c.args in flat_of a.nest.now in
    let a = c.args in let l = c.loop-x in
    let i = l.invariant.0 in record {
      window = walk_ends nest a.nest.now.moved_depth a.nest.now.moved.now a.from a.skip l.x l.w l.source l.before l.found i
          c.loop-x-test.false;
      first = i.first;
      inside = i.source-inside;
      before = i.before-is;
      near = i.near;
    }
