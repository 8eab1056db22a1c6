-- `sectioned_most`: none of a nest of six.
use native.Mathlib.Omega.{arith}
use borrow.Author.Tests.{lt-ltb, le-ltb}
use Rattle.ticket_steps.proofs.sectioned_most.Goals as goal

pub returns-then-depth-lt-LOOPS : goal.returns-then-depth-lt-LOOPS
returns-then-depth-lt-LOOPS c = (simp (lt-ltb _ _ c.if-depth-lt-LOOPS.true), omega arith)

pub returns-else-depth-lt-LOOPS : goal.returns-else-depth-lt-LOOPS
returns-else-depth-lt-LOOPS c = (simp (le-ltb _ _ c.if-depth-lt-LOOPS.false), omega arith)
