-- `first`: no read, or the first one.
use Rattle.std.proofs.Common.{◌∙◌}
use Rattle.run_statements.proofs.RuleLaws.{first_read, first-none, first_some}
use Rattle.run_statements.proofs.Places.first.Goals as goal

pub returns-then-n-eq0 : goal.returns-then-n-eq0
returns-then-n-eq0 c = first-none c.args.self.numbers.now c.args.self.count c.args.x c.args.store.now c.args.k
    c.args.n c.if-n-eq0.true

pub read_word-requires : goal.read_word-requires
read_word-requires c = first_read c.requires c.if-n-eq0.false

pub returns-else-n-eq0 : goal.returns-else-n-eq0
returns-else-n-eq0 c = c.read_word.ensures
    ∙ first_some c.args.self.numbers.now c.args.self.count c.args.x c.args.store.now c.args.k c.args.n c.if-n-eq0.false
