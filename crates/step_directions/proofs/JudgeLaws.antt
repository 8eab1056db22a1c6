-- A set of marks that stands for vectors stands after a step for what the step makes of them.
use mathlib.Core.List.{List}
use Rattle.integers.specs.Sign.{Sign}
use Rattle.lists.specs.Membership.{SameMembers}
use Rattle.lists.proofs.MembershipLaws.{members-trans}
use Rattle.model.specs.Ticket.{Step}
use Rattle.model.specs.Steps.{vectors_after}
use Rattle.step_directions.specs.Sets.{vectors_of, After}
use Rattle.step_directions.specs.declared.DirectionSet.{DirectionSet}
use Rattle.model.proofs.Verdict.SameVectorsLaws.{vectors_after-same}

pub after-stands : (t : Step) (s r : DirectionSet) {vs : List (List Sign)} → SameMembers (vectors_of s) vs → After t s r
    → SameMembers (vectors_of r) (vectors_after t vs)
after-stands t s r e a = members-trans a.vectors (vectors_after-same t e)
