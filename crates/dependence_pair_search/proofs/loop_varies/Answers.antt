-- `loop_varies`: one table of links, then the other.
use mathlib.Core.Bool.{true≢false}
use Rattle.dependence_pair_search.proofs.loop_varies.Goals as goal

pub returns-then-index_changes : goal.returns-then-index_changes
returns-then-index_changes c = λ e. absurd (true≢false e)

pub returns : goal.returns
returns c = λ e. (c.index_changes.ensures c.if-index_changes.false, c.index_changes-2.ensures e)
