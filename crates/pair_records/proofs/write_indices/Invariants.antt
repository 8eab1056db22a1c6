-- `write_indices`. The loop's invariant: the first l indices are written.
use mathlib.Core.Path.{◌≡◌}
use Prim.Native.Nat.{◌-◌, ◌≤◌}
use lib.ListN.{take}
use Rattle.lists.specs.Parts.{put}
use Rattle.model.specs.Grammar.{ticket_loops}
use Rattle.model.specs.Pairs.{indices_in}
use Rattle.dependence_vectors.specs.Candidates.{row}
use Rattle.pair_records.proofs.write_indices.Given as goal

abbrev pub invariant-loop-l : goal.invariant-loop-l
invariant-loop-l l = (l.l ≤ ticket_loops) × (l.found ≡ put l.initial.found l.at (take l.l (indices_in (row l.nest.depth l.nest.points.now l.x))))
