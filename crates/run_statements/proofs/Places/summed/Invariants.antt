-- `summed`: r is the sum modulo 2^32 of the constant and the first i reads.
use Rattle.std.proofs.Common.{◌≡◌, ◌+◌, ◌%◌, ◌^◌, ◌≤◌}
use Rattle.model.specs.Store.{sum}
use Rattle.run_statements.specs.Flat.{fetched}
use Rattle.run_statements.proofs.Places.summed.Given as goal

abbrev pub invariant-loop-i : goal.invariant-loop-i
invariant-loop-i l = (l.i ≤ l.n) × (l.r ≡ (l.constant + sum (fetched l.self.numbers.now l.self.count l.x l.store l.k l.i)) % 2 ^ 32)
