-- `empty`: no number is marked.
use mathlib.Core.Path.{refl, ◌∙◌, ap}
use Rattle.step_directions.specs.Sets.{vectors_in}
use Rattle.step_directions.proofs.SetLaws.{no-vectors}
use Rattle.step_directions.proofs.empty.Goals as goal

pub returns : goal.returns
returns c = record {
  depth = refl;
  vectors = ap (λ m. vectors_in m c.args.depth) c.no_marks.ensures
      ∙ no-vectors c.args.depth;
}
