-- `bases_of`: the bases before i are found.
use Rattle.std.proofs.Common.{◌≡◌, ◌≤◌, length}
use Rattle.model.specs.Grammar.{most_arrays}
use Rattle.run_statements.specs.Flat.{BasesAre}
use Rattle.run_statements.proofs.bases_of.Given as goal

abbrev pub invariant-loop-i : goal.invariant-loop-i
invariant-loop-i l = (length l.r ≡ most_arrays) × (l.i ≤ l.n) × BasesAre l.arrays l.i l.r
