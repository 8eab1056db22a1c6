-- `perform_all`: the statements before i are done, and the next access is k.
use Rattle.run_statements.proofs.BodyLaws.{Done}
use Rattle.run_statements.proofs.perform_all.Given as goal

abbrev pub invariant-loop-i : goal.invariant-loop-i
invariant-loop-i l = Done l.body.accessed.now l.body.sizes.now l.body.rules.now l.body.constants.now l.places.numbers.now l.places.count l.x l.initial.store
    l.store l.k l.i
