use mathlib.Core.Path.{refl, sym, ◌∙◌}
use Prim.Native.Nat.{◌+◌}
use native.Mathlib.Omega.{arith}
use lib.ListN.{get_or}
use lib.ListN.{length}
use Rattle.model.specs.Store.{sum}
use Rattle.dependence_search.specs.Flat.{Flat}
use Rattle.pair_records.specs.Nests.{flat_of}
use Rattle.pair_records.proofs.StatementLaws.{statement-at, statement-ends, next-first}
use Rattle.pair_records.proofs.BlockLaws.{pass-no-statement, pass-statement, pass-all-statements}
use Rattle.pair_records.proofs.pass_pair.Goals as goal

pub loop-s-init : goal.loop-s-init
unfolding sum
loop-s-init c =
    let nest : Flat = let a = c.args in flat_of a.nest.now in
    let a = c.args in
    (omega arith, c.requires.2, refl, pass-no-statement nest a.x a.y a.window a.found.now)

pub offset_bounds-nest-s : goal.offset_bounds-nest-s
offset_bounds-nest-s c = let f = c.args.nest.now.walkable.ready.accesses.few-statements in let t = c.loop-s-test.true in omega arith

pub bounds-nest-s : goal.bounds-nest-s
bounds-nest-s c = let l = c.args.nest.now.walkable.ready.accesses.statements in
    let t = c.loop-s-test.true in omega arith

pub overflow_add-end : goal.overflow_add-end
overflow_add-end c = let l = c.loop-s in
    let h = statement-at c.args.nest.now.sizes.now c.args.nest.now.count c.args.nest.now.numbers.now (length c.args.nest.now.sizes.now) c.args.nest.now.walkable.ready.accesses l.s l.a c.loop-s-test.true l.invariant.2 in
    let e = statement-ends c.args.nest.now.sizes.now l.s l.a (l.a + get_or c.args.nest.now.sizes.now l.s 0) h in
    let f = c.args.nest.now.walkable.ready.accesses.few-accesses in omega arith

pub pass_sinks-w-requires : goal.pass_sinks-w-requires
pass_sinks-w-requires c = let n = c.args.nest.now in let l = c.loop-s in (
  record {
    point = c.requires.0;
    statement = statement-at n.sizes.now n.count n.numbers.now (length n.sizes.now) n.walkable.ready.accesses l.s l.a
        c.loop-s-test.true l.invariant.2;
  },
  c.requires.1,
  l.invariant.1,
)

pub loop-s-preserved : goal.loop-s-preserved
loop-s-preserved c =
    let nest : Flat = let a = c.args in flat_of a.nest.now in
    let a = c.args in
    let l = c.loop-s in let t = c.loop-s-test.true in
    let p = c.pass_sinks-w in
    let z = a.nest.now.sizes.now in (
      omega arith,
      p.auto.found ∙ l.invariant.1,
      next-first z l.s l.a (l.a + get_or z l.s 0) (statement-at c.args.nest.now.sizes.now c.args.nest.now.count c.args.nest.now.numbers.now (length c.args.nest.now.sizes.now) c.args.nest.now.walkable.ready.accesses l.s l.a t l.invariant.2),
      pass-statement nest a.x a.y a.window a.found.now l.s l.w p.result l.found
          p.new.found l.invariant.3
          p.ensures,
    )

pub shape_of-found : goal.shape_of-found
shape_of-found c = c.loop-s.invariant.1 ∙ sym c.requires.2

pub returns : goal.returns
returns c =
    let nest : Flat = let a = c.args in flat_of a.nest.now in
    let a = c.args in let l = c.loop-s in let t = c.loop-s-test.false in
    let i = l.invariant.0 in
    pass-all-statements nest a.x a.y a.window a.found.now l.s l.w l.found (omega arith) l.invariant.3
