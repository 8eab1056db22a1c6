-- `largest`: r is the largest of the constant and the first i reads.
use Rattle.std.proofs.Common.{◌≡◌, ◌≤◌}
use Rattle.model.specs.Store.{most}
use Rattle.run_statements.specs.Flat.{fetched}
use Rattle.run_statements.proofs.Places.largest.Given as goal

abbrev pub invariant-loop-i : goal.invariant-loop-i
invariant-loop-i l = (l.i ≤ l.n) × (l.r ≡ most l.constant (fetched l.self.numbers.now l.self.count l.x l.store l.k l.i))
