-- `apply_stage`: the loops, then the accesses unless the loops are refused.
use mathlib.Core.Bool.{true, false}
use Rattle.std.proofs.lemmas.Result.{err_from_is_err_and}
use Rattle.step_application.proofs.TakingLaws.{takes-none, takes-both}
use Rattle.step_application.proofs.apply_stage.Goals as goal

pub returns : goal.returns
returns c = takes-both _ _ _ _ _ c.args.depth c.args.stage c.requires _ _ c.in_ok-stage_loops.ensures true _ c.in_ok-change_accesses.ensures

pub returns-in_err-stage_loops : goal.returns-in_err-stage_loops
returns-in_err-stage_loops c =
    let p = err_from_is_err_and c.from_residual.result c.from_residual.ensures.1 in
    rw (p.1, p.2) (takes-none _ _ _ _ _ c.args.depth c.args.stage c.requires _ _ _ c.in_err-stage_loops.ensures)

pub returns-in_err-change_accesses : goal.returns-in_err-change_accesses
returns-in_err-change_accesses c =
    let p = err_from_is_err_and c.from_residual-in_err-change_accesses.result c.from_residual-in_err-change_accesses.ensures.1 in
    rw (p.1, p.2) (takes-both _ _ _ _ _ c.args.depth c.args.stage c.requires _ _ c.in_ok-stage_loops.ensures false _ c.in_err-change_accesses.ensures)
