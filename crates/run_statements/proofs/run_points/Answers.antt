use Rattle.std.proofs.Common.{length}
use Rattle.run_statements.proofs.BodyLaws.{still, none_passed, all-passed, one-passed}
use Rattle.run_statements.proofs.run_points.Goals as goal

pub loop-x-init : goal.loop-x-init
loop-x-init c = none_passed c.args.body.now.rules.now c.args.body.now.constants.now
    c.args.body.now.sizes.now c.args.places.numbers.now c.args.places.count c.args.store.now

pub perform_all-requires : goal.perform_all-requires
perform_all-requires c = let l = c.loop-x in (still (c.requires.1 l.x c.loop-x-test.true) (length l.store) l.invariant.same, c.requires.2)

pub loop-x-preserved : goal.loop-x-preserved
loop-x-preserved c = let l = c.loop-x in one-passed c.args.body.now.rules.now c.args.body.now.constants.now c.args.body.now.sizes.now
    c.args.places.numbers.now c.args.places.count c.args.store.now l.invariant c.loop-x-test.true _
    c.perform_all.ensures

pub shape_of-store : goal.shape_of-store
shape_of-store c = c.loop-x.invariant.same

pub returns : goal.returns
returns c = let l = c.loop-x in all-passed
    c.args.body.now.rules.now c.args.body.now.constants.now c.args.body.now.sizes.now c.args.places.numbers.now c.args.places.count c.args.store.now l.invariant
    c.loop-x-test.false
