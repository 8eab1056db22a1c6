-- `store_point`: the row, then the index.
use mathlib.Core.Path.{◌∙◌}
use Prim.Native.Nat.{◌+◌}
use lib.IntN.{pos, ◌+ℤ◌}
use lib.ListN.{length}
use Rattle.nest_points.proofs.StepLaws.{index-fits, index-set}
use Rattle.nest_points.proofs.StoreLaws.{copy-one-more}
use Rattle.nest_points.proofs.store_point.Goals as goal

pub overflow_add-out : goal.overflow_add-out
overflow_add-out c = index-fits c.args.e.lo c.args.t c.requires.1 c.requires.2

pub returns : goal.returns
returns c = let w = c.store in
    index-set c.args.e.lo c.args.t c.requires.1 c.requires.2 w.new.out (c.args.at + length c.args.outer.now)
    ∙ copy-one-more c.args.out.now c.args.outer.now c.args.at w.new.out (c.args.e.lo +ℤ pos c.args.t) c.requires.0 w.ensures
