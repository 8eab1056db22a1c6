use native.Mathlib.Omega.{arith}
use Rattle.nest_points.proofs.DepthLaws.{tally-in, passes, counts, far-out, many-out, admitted-out}
use Rattle.nest_points.proofs.survey.Goals as goal

pub loop-level-init : goal.loop-level-init
loop-level-init c = (omega arith, λ j a b. absurd (omega arith), omega arith, λ h. absurd (omega arith))

pub tally_points-seen-requires : goal.tally_points-seen-requires
tally_points-seen-requires c = let l = c.loop-level in let d = c.requires.0.nest.shallow in let h = c.loop-level-test.true in
    (tally-in c.requires l.invariant.1 l.invariant.0 h _, omega arith)

pub returns-then-far : goal.returns-then-far
returns-then-far c = let l = c.loop-level in
    far-out c.requires l.invariant.1 l.invariant.0 c.loop-level-test.true _
    c.tally_points-seen.ensures.0 c.if-far.true

pub returns-then-many : goal.returns-then-many
returns-then-many c = let l = c.loop-level in let t = c.tally_points-seen in
    many-out c.requires l.invariant.1 l.invariant.0 c.loop-level-test.true _ t.ensures.0
    c.if-far.false c.if-many.true

pub loop-level-preserved : goal.loop-level-preserved
loop-level-preserved c = let l = c.loop-level in let t = c.tally_points-seen in let h = c.loop-level-test.true in
    let f = c.if-many.false in (
      omega arith,
      passes c.requires l.invariant.1 l.invariant.0 h _ t.ensures.0 c.if-far.false f,
      omega arith,
      λ q. counts c.requires l.invariant.1 l.invariant.0 h _ t.ensures.0 f,
    )

pub returns : goal.returns
returns c = let l = c.loop-level in
    admitted-out c.requires l.invariant.1 l.invariant.0 (omega (arith, l.invariant.2, c.loop-level-test.false)) l.count l.invariant.3

pub returns-else-many : goal.returns-else-many
returns-else-many c = let l = c.loop-level in let t = c.tally_points-seen in let h = c.loop-level-test.true in
    let f = c.if-many.false in
    admitted-out c.requires (passes c.requires l.invariant.1 l.invariant.0 h _ t.ensures.0 c.if-far.false f) (omega arith) (omega arith)
    t.result.count (λ q. counts c.requires l.invariant.1 l.invariant.0 h _ t.ensures.0 f)
