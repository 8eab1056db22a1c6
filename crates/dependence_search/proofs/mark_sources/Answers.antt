use mathlib.Core.Path.{◌≡◌, refl, sym, ap, ◌∙◌, subst}
use mathlib.Core.Logic.{inl, inr}
use Prim.Native.Nat.{◌+◌}
use native.Mathlib.Omega.{arith}
use lib.ListN.{length}
use Rattle.dependence_search.specs.Flat.{set_from}
use Rattle.dependence_search.specs.Nests.{flat_of}
use Rattle.dependence_pair_search.specs.Search.{Clear}
use Rattle.dependence_pair_search.proofs.SomeLaws.{Gathered, gathered_none, Done, gathered-turn}
use Rattle.dependence_search.proofs.FlatLaws.{ready, lent_still, alike_from}
use Rattle.dependence_search.proofs.MarkLaws.{searched}
use Rattle.dependence_search.proofs.mark_sources.Goals.{else-not-repeats_earlier, then-not-repeats_earlier}
use Rattle.dependence_search.proofs.mark_sources.Goals as goal

pub loop-a-init : goal.loop-a-init
loop-a-init c = (omega arith, refl, gathered_none c.args.marks.now (set_from (flat_of c.args.nest.now)), refl, refl, refl, c.requires.1)

pub mark_source-requires : goal.mark_source-requires
mark_source-requires c = let l = c.loop-a in let r = c.requires.0 in let i = l.invariant.1 in
    (omega arith, c.loop-a-test.true, l.invariant.6)

pub loop-a-preserved : goal.loop-a-preserved
loop-a-preserved c =
    let F = flat_of c.args.nest.now in let l = c.loop-a in let t = c.loop-a-test.true in
    let i = c.if-not-repeats_earlier in
    let turn : (length i.marks ≡ length c.args.marks.now) × Gathered c.args.marks.now i.marks (l.a + 1) (set_from F) = elim i.branch [
      | then-not-repeats_earlier w ↦ gathered-turn c.args.marks.now l.marks i.marks l.a 0 (set_from F) l.invariant.2 l.invariant.1
          (inl (subst (λ m. Done l.marks m (set_from F l.a)) (sym w.marks-is)
          (record { same_length = w.mark_source.auto.marks; adds = w.mark_source.ensures.0 })))
      | else-not-repeats_earlier w ↦ let r = c.repeats_earlier.ensures w.if-not-repeats_earlier.false in
          gathered-turn c.args.marks.now l.marks i.marks l.a r.0 (set_from F) l.invariant.2 l.invariant.1
          (inr (w.marks-is, r.1, alike_from F r.0 l.a r.2))
    ] in
    let kept : (length i.next ≡ length l.next) × (length i.head ≡ length l.head) × (length i.start ≡ length l.start) × Clear i.head =
    elim i.branch [
      | then-not-repeats_earlier w ↦ let f = w.mark_source in (
        ap length w.next-is ∙ f.auto.next,
        ap length w.head-is ∙ f.auto.head,
        ap length w.start-is ∙ f.auto.start,
        subst Clear (sym w.head-is) f.ensures.1,
      )
      | else-not-repeats_earlier w ↦ (ap length w.next-is, ap length w.head-is, ap length w.start-is, subst Clear (sym w.head-is) l.invariant.6.clear)
    ] in (
      omega arith,
      turn.0,
      turn.1,
      kept.0 ∙ l.invariant.3,
      kept.1 ∙ l.invariant.4,
      kept.2 ∙ l.invariant.5,
      lent_still F l.next l.head l.start _ _ _ kept.0 kept.1 kept.2 kept.3 l.invariant.6,
    )

pub shape_of-next : goal.shape_of-next
shape_of-next c = c.loop-a.invariant.3

pub shape_of-head : goal.shape_of-head
shape_of-head c = c.loop-a.invariant.4

pub shape_of-start : goal.shape_of-start
shape_of-start c = c.loop-a.invariant.5

pub shape_of-marks : goal.shape_of-marks
shape_of-marks c = c.loop-a.invariant.1

pub returns : goal.returns
returns c = let n = c.args.nest.now in let F = flat_of n in
    let l = c.loop-a in let t = c.loop-a-test.false in let i = l.invariant.0 in let e : l.a ≡ length F.statements = omega arith in
    searched F c.args.marks.now (ready F c.args.marks.now n.flat_in n.rising c.requires.0) l.marks
    (subst (λ n. Gathered c.args.marks.now l.marks n (set_from F)) e l.invariant.2)
