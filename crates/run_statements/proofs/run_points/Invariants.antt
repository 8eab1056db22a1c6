-- `run_points`: the points before x are passed.
use Rattle.run_statements.proofs.BodyLaws.{Passed}
use Rattle.run_statements.proofs.run_points.Given as goal

abbrev pub invariant-loop-x : goal.invariant-loop-x
invariant-loop-x l = Passed l.body.rules.now l.body.constants.now l.body.sizes.now l.places.numbers.now l.places.count l.initial.store l.store l.x
