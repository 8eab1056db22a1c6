-- `first_signs`: the number of the first k signs.
use Rattle.dependence_vectors.specs.Numbers.{Left}
use Rattle.dependence_vectors.proofs.first_signs.Given as goal

abbrev pub invariant-loop-k : goal.invariant-loop-k
invariant-loop-k l = Left l.p l.q l.k l.v
