-- `run_listed`: the points, then all in one part.
use native.Mathlib.Omega.{arith}
use Rattle.run_nest.proofs.PartLaws.{whole_in, whole_run}
use Rattle.run_nest.proofs.ExecutionLaws.{list-in, listed}
use Rattle.run_nest.proofs.run_listed.Goals as goal

pub list_points-requires : goal.list_points-requires
list_points-requires c =
    list-in _ c.args.count _ c.requires.0 c.args.count (omega arith) _ c.requires.1

pub run_part-requires : goal.run_part-requires
run_part-requires c =
    let p = c.list_points in (
      whole_in _ _ c.args.count c.args.store.now c.requires.0 (listed _ c.args.count _ c.requires.0 _ p.result p.ensures.0),
      c.requires.2,
    )

pub returns : goal.returns
returns c =
    let p = c.list_points in
    whole_run _ _ c.args.count c.args.store.now c.requires.0 (listed _ c.args.count _ c.requires.0 _ p.result p.ensures.0)
    _ c.run_part.ensures
