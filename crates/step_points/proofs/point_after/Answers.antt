-- `point_after`: the change that the step's match found.
use mathlib.Core.Path.{subst}
use native.Mathlib.Omega.{arith}
use native.Mathlib.Numerals.{add-one}
use lib.ListN.{take}
use Rattle.lists.specs.Place.{under}
use Rattle.model.specs.Grammar.{depth_after}
use Rattle.model.specs.Steps.{sectioned, forward}
use Rattle.nest_rows.specs.Rows.{RowIs}
use Rattle.step_limits.proofs.NumberLaws.{small-back, factor-small}
use Rattle.step_points.proofs.IndexLaws.{there, point-is}
use Rattle.step_points.proofs.point_after.Goals as goal

pub exchange_places-requires : goal.exchange_places-requires
exchange_places-requires c = let h = there c.in-Exchange.is c.requires in (omega arith, (omega arith, c.requires.shallow))

pub reverse_index-requires : goal.reverse_index-requires
reverse_index-requires c = (there c.in-Reversal.is c.requires, c.requires.shallow, c.requires.near)

pub skew_index-requires : goal.skew_index-requires
skew_index-requires c = let h = there c.in-Skew.is c.requires in
    let g = factor-small c.in-Skew.e.factor h.1 in
    (omega arith, c.requires.shallow, rw (small-back c.in-Skew.e.factor g) g, c.requires.near)

pub section_index-requires : goal.section_index-requires
section_index-requires c = let h = there c.in-Section.is c.requires in
    let l = h.2.low in
    (h.0, h.1, omega arith, h.2.high, c.requires.near)

pub circulate_indices-requires : goal.circulate_indices-requires
circulate_indices-requires c = let h = there c.in-Circulation.is c.requires in (h.0, h.1, c.requires.shallow)

pub returns-in-Exchange : goal.returns-in-Exchange
unfolding depth_after forward
returns-in-Exchange c = point-is c.in-Exchange.is c.requires _ c.exchange_places.ensures

pub returns-in-Reversal : goal.returns-in-Reversal
unfolding depth_after forward
returns-in-Reversal c = point-is c.in-Reversal.is c.requires _ c.reverse_index.ensures

pub returns-in-Skew : goal.returns-in-Skew
unfolding depth_after forward
returns-in-Skew c = let g = factor-small c.in-Skew.e.factor (there c.in-Skew.is c.requires).1 in
    point-is c.in-Skew.is c.requires _
    (rw (small-back c.in-Skew.e.factor g) at c.skew_index.ensures)

pub returns-in-Section : goal.returns-in-Section
unfolding depth_after forward
returns-in-Section c = point-is c.in-Section.is c.requires _
    (subst (λ m. RowIs m c.section_index.result (under c.in-Section.e.target (sectioned c.in-Section.e.width) (take c.args.depth c.args.row)))
    (add-one c.args.depth) c.section_index.ensures)

pub returns-in-Circulation : goal.returns-in-Circulation
unfolding depth_after forward
returns-in-Circulation c = point-is c.in-Circulation.is c.requires _ c.circulate_indices.ensures
