-- `mark_chain`. The loop's invariant: what is marked, with what is left of the chain, is what was marked, with the whole chain. The measure is
-- the place on the chain.
use Rattle.dependence_pair_search.proofs.WalkLaws.{Walking}
use Rattle.dependence_pair_search.proofs.mark_chain.Given as goal

abbrev pub invariant-loop-l : goal.invariant-loop-l
invariant-loop-l l = Walking l.depth l.points l.next l.base l.y l.first l.initial.marks l.marks l.l l.steps

abbrev pub decreases-loop-l : goal.decreases-loop-l
decreases-loop-l l = l.l
