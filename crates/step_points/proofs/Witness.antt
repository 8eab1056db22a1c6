-- A real ticket's step meets what the functions ask: of two loops the inner skewed by the outer, and the one point (1, 2).
use mathlib.Core.Path.{refl}
use mathlib.Core.List.{List, [], ◌∷◌}
use native.Mathlib.Omega.{arith}
use lib.IntN.{ℤ, pos}
use lib.ListN.{replicate, length-replicate}
use Rattle.lists.specs.Parts.{rows}
use Rattle.lists.proofs.MembershipLaws.{all_nil, all_cons}
use Rattle.integers.specs.Affine.{Within}
use Rattle.model.specs.Grammar.{depth_after}
use Rattle.step_kinds.specs.Kinds.{step_of}
use Rattle.step_kinds.specs.declared.Step.TheVariants.{Skew}
use Rattle.ticket_steps.specs.Steps.{steps_of}
use Rattle.ticket_steps.specs.declared.Numbered.{Numbered}
use Rattle.ticket_steps.specs.declared.Steps.{Steps}
use Rattle.step_points.specs.Points.{PointIn, StepsTaken, PointsIn}

abbrev skew-once : Numbered
skew-once = record { number = 1; step = Skew (record { outer = 0; distance = 0; factor = pos 1 }) }

abbrev pub skewing : Steps
skewing = record { count = 1; steps = replicate 8 skew-once }

abbrev pub point : List ℤ
point = pos 1 ∷ pos 2 ∷ pos 0 ∷ pos 0 ∷ pos 0 ∷ pos 0 ∷ []

pub skewing-taken : StepsTaken skewing 2 1
unfolding steps_of depth_after
skewing-taken = record {
  steps = record { few = omega arith; room = length-replicate 8 skew-once; numbered = (refl, tt) };
  few = omega arith;
  shallow = omega arith;
  there = ((omega arith, record { low = omega arith; high = omega arith }), tt);
}

pub point-in : PointIn point 2 (step_of skew-once.step)
point-in = record {
  shallow = omega arith;
  there = (omega arith, record { low = omega arith; high = omega arith });
  near = (omega arith, (omega arith, tt));
}

pub points-in : PointsIn point 2 1 skewing 1 6
unfolding rows
points-in = record {
  stored = record {
    few = omega arith;
    bound = omega arith;
    room = omega arith;
    near = all_cons (Within 100000) (omega arith, (omega arith, tt)) (all_nil (Within 100000));
  };
  taken = skewing-taken;
  fits = omega arith;
}
