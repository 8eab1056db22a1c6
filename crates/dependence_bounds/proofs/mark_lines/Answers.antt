-- `mark_lines`: the subscripts stay inside, then the lines are bounded from both sides.
use Rattle.nest_flat.specs.FlatNests.{FlatNest, flat}
use borrow.Author.Rules.{rules}
use Rattle.dependence_bounds.proofs.KnownLaws.{bound-in, lines-marked}
use Rattle.dependence_bounds.proofs.mark_lines.Goals as goal

pub mark_admitted-requires : goal.mark_admitted-requires
mark_admitted-requires c =
    let flat-nest : FlatNest = flat c.args.nest.now in
    let i = c.stays_inside in bound-in flat-nest
    c.args.marks.now c.requires i.result i.ensures (search rules)

pub returns : goal.returns
returns c =
    let flat-nest : FlatNest = flat c.args.nest.now in
    let i = c.stays_inside in let m = c.mark_admitted in (
      lines-marked flat-nest c.args.marks.now c.requires i.result i.ensures
          (search rules) _ m.result m.ensures.0,
      m.ensures.1,
    )
