use mathlib.Core.Path.{◌≡◌, refl, sym, subst, ◌∙◌}
use Prim.Native.Nat.{◌+◌, ◌*◌}
use native.Mathlib.Omega.{arith}
use lib.ListN.{get_or}
use lib.ListN.{length}
use Rattle.model.specs.Directions.{kind_count}
use Rattle.model.specs.Store.{sum}
use Rattle.dependence_search.specs.Flat.{Flat}
use Rattle.pair_records.specs.Nests.{flat_of}
use Rattle.pair_records.specs.Statements.{statement_records, block_records}
use Rattle.pair_records.specs.Windows.{Passes}
use Rattle.pair_records.proofs.StatementLaws.{statement-at, statement-ends, next-first}
use Rattle.pair_records.proofs.BlockLaws.{statement-records, pass-no-sink, pass-sink}
use Rattle.pair_records.proofs.pass_sinks.Goals as goal

pub loop-t-init : goal.loop-t-init
unfolding sum
loop-t-init c =
    let nest : Flat = let a = c.args in flat_of a.nest.now in
    let a = c.args in
    (omega arith, c.requires.2, refl, pass-no-sink nest a.source.point a.y a.window a.found.now a.source.statement)

pub offset_bounds-nest-t : goal.offset_bounds-nest-t
offset_bounds-nest-t c = let f = c.args.nest.now.walkable.ready.accesses.few-statements in let t = c.loop-t-test.true in omega arith

pub bounds-nest-t : goal.bounds-nest-t
bounds-nest-t c = let l = c.args.nest.now.walkable.ready.accesses.statements in
    let t = c.loop-t-test.true in omega arith

pub overflow_add-end : goal.overflow_add-end
overflow_add-end c = let l = c.loop-t in
    let h = statement-at c.args.nest.now.sizes.now c.args.nest.now.count c.args.nest.now.numbers.now (length c.args.nest.now.sizes.now) c.args.nest.now.walkable.ready.accesses l.t l.b c.loop-t-test.true l.invariant.2 in
    let e = statement-ends c.args.nest.now.sizes.now l.t l.b (l.b + get_or c.args.nest.now.sizes.now l.t 0) h in
    let f = c.args.nest.now.walkable.ready.accesses.few-accesses in omega arith

pub pass_statements-w-requires : goal.pass_statements-w-requires
pass_statements-w-requires c = let n = c.args.nest.now in let l = c.loop-t in (
  c.requires.0,
  record {
    point = c.requires.1;
    statement = statement-at n.sizes.now n.count n.numbers.now (length n.sizes.now) n.walkable.ready.accesses l.t l.b
        c.loop-t-test.true l.invariant.2;
  },
  l.invariant.1,
)

pub loop-t-preserved : goal.loop-t-preserved
loop-t-preserved c =
    let nest : Flat = let a = c.args in flat_of a.nest.now in
    let a = c.args in
    let l = c.loop-t in let t = c.loop-t-test.true in
    let p = c.pass_statements-w in
    let z = a.nest.now.sizes.now in let h = statement-at c.args.nest.now.sizes.now c.args.nest.now.count c.args.nest.now.numbers.now (length c.args.nest.now.sizes.now) c.args.nest.now.walkable.ready.accesses l.t l.b t l.invariant.2 in let e = l.b + get_or z l.t 0 in (
      omega arith,
      p.auto.found ∙ l.invariant.1,
      next-first z l.t l.b e h,
      pass-sink nest a.source.point a.y a.window a.found.now a.source.statement l.t l.w p.result l.found
          p.new.found
          (statement_records a.nest.now.points.now a.nest.now.depth a.nest.now.count a.nest.now.numbers.now (length a.nest.now.sizes.now) a.source.point a.y a.source.statement l.t a.source.first a.source.end
          l.b e)
          (statement-records a.nest.now.points.now a.nest.now.depth a.nest.now.count a.nest.now.numbers.now z (length a.nest.now.sizes.now) c.args.nest.now.walkable.ready.accesses a.source.point a.y a.source.statement
          a.source.first a.source.end l.t l.b e c.requires.0.statement h) l.invariant.3 p.ensures,
    )

pub shape_of-found : goal.shape_of-found
shape_of-found c = c.loop-t.invariant.1 ∙ sym c.requires.2

pub returns : goal.returns
returns c =
    let nest : Flat = let a = c.args in flat_of a.nest.now in
    let a = c.args in let l = c.loop-t in let t = c.loop-t-test.false in
    let i = l.invariant.0 in
    let e : l.t ≡ (length a.nest.now.sizes.now) = omega arith in
    subst (λ k. Passes a.window a.found.now l.w l.found (block_records nest a.source.point a.y (a.source.statement * (length a.nest.now.sizes.now) * kind_count)
    (k * kind_count))) e l.invariant.3
