-- `is_candidate`: a sign other than = refuses v; else the next sign is left.
use native.Mathlib.Omega.{arith}
use Rattle.dependence_vectors.proofs.CandidateLaws.{outer-next, no-candidate}
use Rattle.dependence_vectors.proofs.is_candidate.Goals as goal

pub returns-then-w-ne1 : goal.returns-then-w-ne1
returns-then-w-ne1 c = let l = c.loop-k in no-candidate _ _ _ (omega arith) (omega arith) l.invariant _ c.if-not-varying-k.true c.if-w-ne1.true

pub loop-k-preserved : goal.loop-k-preserved
loop-k-preserved c = outer-next _ _ _ (omega arith) (omega arith) c.loop-k.invariant
