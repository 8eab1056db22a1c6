use mathlib.Core.Path.{sym, ◌∙◌}
use mathlib.Core.Bool.{true≢false}
use native.Mathlib.Omega.{arith}
use Rattle.dependence_pair_search.proofs.FullLaws.{none_passed, one-passed}
use Rattle.dependence_pair_search.proofs.next_missing.Goals.{else-not-marks-base, then-not-marks-base+else-is_candidate}
use Rattle.dependence_pair_search.proofs.next_missing.Goals as goal

pub loop-w-init : goal.loop-w-init
loop-w-init c = let a = c.args in none_passed a.varying.now a.base a.marks.now a.step a.v

pub returns-then-is_candidate : goal.returns-then-is_candidate
returns-then-is_candidate c = (c.loop-w.invariant, λ _. c.if-not-marks-base.true)

pub loop-w-preserved : goal.loop-w-preserved
loop-w-preserved c = let a = c.args in let l = c.loop-w in one-passed
    a.varying.now a.base a.marks.now a.step a.v l.w
    (elim c.if-not-marks-base.branch [ then-not-marks-base+else-is_candidate w ↦ λ u h t e. absurd (true≢false (sym (w.is_candidate.ensures u h t e) ∙ w.if-is_candidate.false)) | else-not-marks-base w ↦ λ u h t e. w.if-not-marks-base.false ])
    l.invariant

pub returns : goal.returns
returns c = (c.loop-w.invariant, λ h. absurd (let t = c.loop-w-test.false in omega arith))
