-- `mark_if_few`: counted, listed, marked.
use mathlib.Core.Path.{refl}
use native.Mathlib.Omega.{arith}
use Rattle.nest_flat.specs.FlatNests.{FlatNest, flat}
use Rattle.dependence_marks.proofs.MarkLaws.{lines-in}
use Rattle.dependence_bounds.proofs.FewLaws.{unsaid, list-few, few-listed}
use Rattle.dependence_bounds.proofs.mark_if_few.Goals as goal

pub returns-in_default : goal.returns-in_default
returns-in_default c = (unsaid, refl)

pub returns-then-count-gt128 : goal.returns-then-count-gt128
returns-then-count-gt128 c = (unsaid, refl)

pub list_points-listed-requires : goal.list_points-listed-requires
list_points-listed-requires c =
    let flat-nest : FlatNest = flat c.args.nest.now in
    let n = c.count_points in
    list-few flat-nest c.args.marks.now c.requires n.result n.ensures _ c.in-Ok.is
    (omega (arith, c.if-count-gt128.false))

pub mark_few-requires : goal.mark_few-requires
mark_few-requires c =
    let flat-nest : FlatNest = flat c.args.nest.now in
    let n = c.count_points in
    let e = c.in-Ok.is in
    let l = c.list_points-listed in (
      lines-in _ _ c.requires _ l.result l.ensures.0,
      few-listed flat-nest c.args.marks.now c.requires n.result n.ensures _ e
          (omega (arith, c.if-count-gt128.false)) _ l.result l.ensures.0,
    )
