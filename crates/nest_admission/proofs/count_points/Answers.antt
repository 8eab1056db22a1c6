-- `count_points`: the survey's verdict as refusals 7 and 8.
use mathlib.Core.Path.{◌∙◌, ap}
use Rattle.std.specs.Prelude.{Err}
use Rattle.nest_admission.proofs.AdmissionLaws.{far-out, many-out, counted-out}
use Rattle.nest_admission.proofs.count_points.Goals as goal

pub returns-in-Ok : goal.returns-in-Ok
returns-in-Ok c = let v = c.survey in counted-out _ v.result v.ensures _ c.in-Ok.is

pub returns-in-Err-IndexTooLarge : goal.returns-in-Err-IndexTooLarge
returns-in-Err-IndexTooLarge c = let v = c.survey in let a = c.in-Err-IndexTooLarge in
    far-out _ v.result v.ensures _ (a.is ∙ ap Err a.field-0-is)

pub returns-in-Err-CountTooLarge : goal.returns-in-Err-CountTooLarge
returns-in-Err-CountTooLarge c = let v = c.survey in let a = c.in-Err-CountTooLarge in
    many-out _ v.result v.ensures _ (a.is ∙ ap Err a.field-0-is)
