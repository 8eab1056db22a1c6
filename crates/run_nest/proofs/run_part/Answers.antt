-- `run_part`: the places, the run.
use Rattle.run_nest.proofs.ExecutionLaws.{number_in, run_in}
use Rattle.run_nest.proofs.run_part.Goals as goal

pub number_accesses-requires : goal.number_accesses-requires
number_accesses-requires c = number_in _ c.args.points.now c.args.count _ c.requires.0 _ c.requires.1

pub run_at_points-requires : goal.run_at_points-requires
run_at_points-requires c = run_in _ c.args.points.now
    c.args.count _ c.requires.0 _ c.number_accesses.ensures
