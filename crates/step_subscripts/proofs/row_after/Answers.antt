use native.Mathlib.Omega.{arith}
use Rattle.model.specs.Grammar.{depth_after}
use Rattle.model.specs.Limits.{coefficients_after}
use Rattle.step_kinds.specs.declared.Stage.TheVariants.{Exchange, Reversal, Skew, Section}
use Rattle.step_limits.proofs.NumberLaws.{small-back, factor-small}
use Rattle.step_subscripts.proofs.StepLaws.{there, row_is, row-longer}
use Rattle.step_subscripts.proofs.row_after.Goals as goal

pub exchange_places-requires : goal.exchange_places-requires
exchange_places-requires c = let f = c.requires.0.few in let h = there
    c.args.stage (Exchange c.in-Exchange.e) c.args.n c.in-Exchange.is c.requires.0 in (omega arith, (omega arith, f))

pub reverse_row-requires : goal.reverse_row-requires
reverse_row-requires c = let f = c.requires.0.few in let h = there
    c.args.stage (Reversal c.in-Reversal.e) c.args.n c.in-Reversal.is c.requires.0 in (h, f, c.requires.1)

pub skew_row-requires : goal.skew_row-requires
skew_row-requires c =
    let f = c.requires.0.few in
    let h = there c.args.stage (Skew c.in-Skew.e) c.args.n c.in-Skew.is c.requires.0 in
    let g = factor-small c.in-Skew.e.factor h.1 in
    (omega arith, f, rw (small-back c.in-Skew.e.factor g) g, c.requires.1)

pub overflow_cast-e : goal.overflow_cast-e
overflow_cast-e c = let h = there c.args.stage (Section c.in-Section.e)
    c.args.n c.in-Section.is c.requires.0 in let w = h.2.high in record { fits = omega arith }

pub section_row-requires : goal.section_row-requires
section_row-requires c = let h = there c.args.stage
    (Section c.in-Section.e) c.args.n c.in-Section.is c.requires.0 in let w = h.2.high in (h.0, h.1, omega arith, c.requires.1)

pub returns-in-Exchange : goal.returns-in-Exchange
unfolding depth_after coefficients_after
returns-in-Exchange c = row_is c.args.stage (Exchange c.in-Exchange.e)
    c.args.n c.in-Exchange.is c.args.cs c.exchange_places.result c.exchange_places.ensures.is c.exchange_places.ensures.room

pub returns-in-Reversal : goal.returns-in-Reversal
unfolding depth_after coefficients_after
returns-in-Reversal c = row_is c.args.stage (Reversal c.in-Reversal.e)
    c.args.n c.in-Reversal.is c.args.cs c.reverse_row.result c.reverse_row.ensures.is c.reverse_row.ensures.room

pub returns-in-Skew : goal.returns-in-Skew
unfolding depth_after coefficients_after
returns-in-Skew c =
    let g = factor-small c.in-Skew.e.factor (there c.args.stage (Skew c.in-Skew.e) c.args.n c.in-Skew.is c.requires.0).1 in
    let is = rw (small-back c.in-Skew.e.factor g) at c.skew_row.ensures.is in
    row_is c.args.stage (Skew c.in-Skew.e) c.args.n c.in-Skew.is c.args.cs c.skew_row.result is c.skew_row.ensures.room

pub returns-in-Section : goal.returns-in-Section
unfolding depth_after coefficients_after
returns-in-Section c = row_is c.args.stage
    (Section c.in-Section.e) c.args.n c.in-Section.is c.args.cs c.section_row.result
    (row-longer c.args.n c.section_row.result _ c.section_row.ensures.is) c.section_row.ensures.room
