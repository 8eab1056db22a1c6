-- `divides`: the machine has no remainder by 0.
use Rattle.nest_quick_test.proofs.DivisorLaws.{divides-none, divides-some}
use Rattle.nest_quick_test.proofs.divides.Goals as goal

pub returns-then-g-eq0 : goal.returns-then-g-eq0
returns-then-g-eq0 c = let m = c.unsigned_abs-m in divides-none c.args.g m.result c.args.c c.requires m.ensures.value c.if-g-eq0.true

pub returns-else-g-eq0 : goal.returns-else-g-eq0
returns-else-g-eq0 c = let m = c.unsigned_abs-m in divides-some c.args.g m.result c.args.c c.requires m.ensures.value
