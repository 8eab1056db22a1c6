-- `list_points`: `collect` from no index on; the place after the points is their number times the depth.
use native.Mathlib.Omega.{arith}
use Rattle.nest_points.proofs.NestLaws.{list-in, list-out}
use Rattle.nest_points.proofs.list_points.Goals as goal

pub collect-end-requires : goal.collect-end-requires
collect-end-requires c = let d = c.requires.flat-nest.nest.shallow in
    (list-in _ c.args.points.now c.requires, omega arith)

pub returns : goal.returns
returns c = let g = c.collect-end in
    list-out _ c.args.points.now c.requires _ g.result g.ensures.0
