-- `run_many`: the points, then their parts.
use native.Mathlib.Omega.{arith}
use Rattle.model.specs.Grammar.{most_points}
use Rattle.run_nest.proofs.ExecutionLaws.{few-points, list-in, listed}
use Rattle.run_nest.proofs.run_many.Goals as goal

pub list_points-requires : goal.list_points-requires
list_points-requires c = list-in _ c.args.count _ c.requires.0 most_points
    (few-points _ c.args.count _ c.requires.0) _ (omega arith)

pub run_parts-requires : goal.run_parts-requires
run_parts-requires c = let p = c.list_points in (
  c.requires.0,
  listed _ c.args.count _ c.requires.0 _ p.result p.ensures.0,
  c.requires.1,
)
