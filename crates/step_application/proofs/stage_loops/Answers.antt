-- `stage_loops`: the change that the step's match found.
use native.Mathlib.Omega.{arith}
use Rattle.step_kinds.specs.declared.Stage.TheVariants.{Exchange, Reversal, Skew, Section}
use Rattle.step_limits.proofs.NumberLaws.{small-back, factor-small}
use Rattle.step_application.proofs.TakingLaws.{there, loops-are}
use Rattle.step_application.proofs.stage_loops.Goals as goal

pub exchange_loops-requires : goal.exchange_loops-requires
exchange_loops-requires c = let h = there _ _ c.args.depth c.args.stage (Exchange c.in-Exchange.e) c.in-Exchange.is c.requires in record { nest = c.requires.nest; place = omega arith }

pub reverse_loop-requires : goal.reverse_loop-requires
reverse_loop-requires c = let h = there _ _ c.args.depth c.args.stage (Reversal c.in-Reversal.e) c.in-Reversal.is c.requires in record { nest = c.requires.nest; place = h }

pub skew_loop-requires : goal.skew_loop-requires
skew_loop-requires c =
    let h = there _ _ c.args.depth c.args.stage (Skew c.in-Skew.e) c.in-Skew.is c.requires in
    let g = factor-small c.in-Skew.e.factor h.1 in
    record { nest = c.requires.nest; place = omega arith; near = rw (small-back c.in-Skew.e.factor g) g }

pub overflow_cast-e : goal.overflow_cast-e
overflow_cast-e c = let h = there _ _ c.args.depth
    c.args.stage (Section c.in-Section.e) c.in-Section.is c.requires in let w = h.2.high in record { fits = omega arith }

pub section_loop-requires : goal.section_loop-requires
section_loop-requires c = let h = there _ _ c.args.depth c.args.stage (Section c.in-Section.e) c.in-Section.is
    c.requires in let w = h.2.low in record { nest = c.requires.nest; place = h.0; room = h.1; positive = omega arith; narrow = h.2.high }

pub returns-in-Exchange : goal.returns-in-Exchange
returns-in-Exchange c = let r = c.exchange_loops in loops-are _ _ c.args.depth c.args.stage (Exchange c.in-Exchange.e) c.in-Exchange.is r.result _ _ r.ensures

pub returns-in-Reversal : goal.returns-in-Reversal
returns-in-Reversal c = let r = c.reverse_loop in loops-are _ _ c.args.depth c.args.stage (Reversal c.in-Reversal.e) c.in-Reversal.is r.result _ _ r.ensures

pub returns-in-Skew : goal.returns-in-Skew
returns-in-Skew c =
    let r = c.skew_loop in
    let g = factor-small c.in-Skew.e.factor (there _ _ c.args.depth c.args.stage (Skew c.in-Skew.e) c.in-Skew.is c.requires).1 in
    loops-are _ _ c.args.depth c.args.stage (Skew c.in-Skew.e) c.in-Skew.is r.result _ _ (rw (small-back c.in-Skew.e.factor g) at r.ensures)

pub returns-in-Section : goal.returns-in-Section
returns-in-Section c = let r = c.section_loop in loops-are _ _ c.args.depth c.args.stage (Section c.in-Section.e) c.in-Section.is r.result _ _ r.ensures
