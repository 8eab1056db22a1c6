-- `stored_vector` meets its contract.
use mathlib.Core.Path.{ap, ◌∙◌}
use Prim.Native.Nat.{◌-◌}
use Rattle.dependence_vectors.specs.Candidates.{stride}
use Rattle.dependence_vectors.proofs.VectorLaws.{code_is}
use borrow.Author.Rules.{rules}
use Rattle.dependence_vectors.proofs.stored_vector.Goals as goal

pub vector-requires : goal.vector-requires
vector-requires c = (record { few = search rules; both = search rules }, c.requires.1 ∙ ap (λ k. stride (6 - k)) (search rules))

pub returns : goal.returns
returns c = code_is c.args.points.now c.args.depth c.args.x c.args.y c.requires.0
    c.vector.ensures
