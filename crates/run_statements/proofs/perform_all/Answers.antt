use Rattle.std.proofs.Common.{length, arith}
use Rattle.run_statements.proofs.BodyLaws.{still, none_done, all_done, one-done, accesses-end}
use Rattle.run_statements.proofs.perform_all.Goals as goal

pub loop-i-init : goal.loop-i-init
loop-i-init c = none_done c.requires.1 c.args.places.numbers.now c.args.places.count
    c.args.x c.args.store.now

pub offset_bounds-body-i : goal.offset_bounds-body-i
offset_bounds-body-i c = let f = c.requires.1.few
    in let t = c.loop-i-test.true in omega arith

pub bounds-body-i : goal.bounds-body-i
bounds-body-i c = let f = c.requires.1.some-rules in let t = c.loop-i-test.true in omega arith

pub offset_bounds-body-i-in-loop-i : goal.offset_bounds-body-i-in-loop-i
offset_bounds-body-i-in-loop-i c = let f = c.requires.1.few
    in let t = c.loop-i-test.true in omega arith

pub bounds-body-i-in-loop-i : goal.bounds-body-i-in-loop-i
bounds-body-i-in-loop-i c = let f = c.requires.1.some-constants in let t = c.loop-i-test.true in omega arith

pub overflow_cast-body : goal.overflow_cast-body
overflow_cast-body c = let f = c.requires.1.words c.loop-i.i c.loop-i-test.true in omega arith

pub overflow_sub-size : goal.overflow_sub-size
overflow_sub-size c = let e = accesses-end
    c.requires.1 c.args.places.numbers.now c.args.places.count c.args.x c.args.store.now c.loop-i.invariant
    c.loop-i-test.true in omega arith

pub perform-requires : goal.perform-requires
perform-requires c = let l = c.loop-i in (
  still c.requires.0 (length l.store) l.invariant.same,
  (accesses-end c.requires.1 c.args.places.numbers.now c.args.places.count c.args.x
      c.args.store.now l.invariant c.loop-i-test.true).0,
)

pub overflow_add-k : goal.overflow_add-k
overflow_add-k c = let l = c.loop-i in let f = c.requires.0.few in let e = accesses-end c.requires.1
    c.args.places.numbers.now c.args.places.count c.args.x c.args.store.now l.invariant
    c.loop-i-test.true in omega arith

pub loop-i-preserved : goal.loop-i-preserved
loop-i-preserved c = let l = c.loop-i in one-done c.requires.1 c.args.places.numbers.now
    c.args.places.count c.args.x c.args.store.now l.invariant c.loop-i-test.true _
    c.perform.ensures

pub shape_of-store : goal.shape_of-store
shape_of-store c = c.loop-i.invariant.same

pub returns : goal.returns
returns c = let l = c.loop-i in all_done c.requires.1
    c.args.places.numbers.now c.args.places.count c.args.x c.args.store.now l.invariant c.loop-i-test.false
