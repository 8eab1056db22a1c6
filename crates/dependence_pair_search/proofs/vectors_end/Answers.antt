-- `vectors_end`: the vectors before that of = alone, and that one too if `own`.
use mathlib.Core.Path.{refl}
use native.Mathlib.Omega.{arith}
use Rattle.dependence_pair_search.specs.Search.{up_to}
use Rattle.dependence_pair_search.proofs.vectors_end.Goals as goal

pub returns-then-own : goal.returns-then-own
unfolding up_to
returns-then-own c = let e = c.if-own.true in (rw e refl, omega arith)

pub returns : goal.returns
unfolding up_to
returns c = let e = c.if-own.false in (rw e refl, omega arith)
