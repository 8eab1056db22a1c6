use mathlib.Core.Path.{◌≡◌, refl, sym, ap, ◌∙◌, subst}
use mathlib.Core.Logic.{inl, inr}
use Prim.Native.Nat.{◌+◌}
use native.Mathlib.Omega.{arith}
use lib.ListN.{length}
use Rattle.dependence_search.specs.Flat.{NumbersBelow, numbers_of, set_by, set_from}
use Rattle.dependence_search.specs.Nests.{flat_of}
use Rattle.dependence_pair_search.specs.Search.{Clear}
use Rattle.dependence_pair_search.proofs.SomeLaws.{Gathered, gathered_none, Done, gathered-turn}
use Rattle.dependence_search.proofs.FlatLaws.{ready, alike-sink, linkable, linked, linked-still}
use Rattle.dependence_search.proofs.mark_source.Goals.{else-not-repeats_earlier, then-not-repeats_earlier}
use Rattle.dependence_search.proofs.mark_source.Goals as goal

pub link-requires : goal.link-requires
link-requires c = let n = c.args.nest.now in let F = flat_of n in let m = c.args.marks.now in
    rw c.numbers_of-numbers.ensures (linkable F m (ready F m n.flat_in n.rising c.requires.0) c.args.a c.args.next.now c.args.head.now c.args.start.now
    c.requires.1 c.requires.2)

pub loop-b-init : goal.loop-b-init
loop-b-init c = let n = c.args.nest.now in let F = flat_of n in let m = c.args.marks.now in
    let k = c.link in (
      omega arith,
      refl,
      gathered_none m (set_by F c.args.a),
      refl,
      refl,
      linked F m (ready F m n.flat_in n.rising c.requires.0) c.args.a c.args.next.now c.args.head.now c.args.start.now
          k.new.out k.new.head c.requires.1 c.requires.2 (rw c.numbers_of-numbers.ensures at k.ensures.0) k.auto.out k.auto.head
          k.ensures.1,
    )

pub mark_pair-requires : goal.mark_pair-requires
mark_pair-requires c = let F = flat_of c.args.nest.now in
    let l = c.loop-b in let r = c.requires.0 in let i = l.invariant.1 in (
      omega arith,
      c.requires.1,
      c.loop-b-test.true,
      l.invariant.5,
      subst (λ m. NumbersBelow m F) (sym (l.invariant.3 ∙ c.link.auto.head)) c.requires.2.heads,
    )

pub loop-b-preserved : goal.loop-b-preserved
loop-b-preserved c =
    let n = c.args.nest.now in let F = flat_of n in let l = c.loop-b in let t = c.loop-b-test.true in
    let i = c.if-not-repeats_earlier in
    let turn : (length i.marks ≡ length c.args.marks.now) × Gathered c.args.marks.now i.marks (l.b + 1) (set_by F c.args.a) = elim i.branch [
      | then-not-repeats_earlier w ↦ gathered-turn c.args.marks.now l.marks i.marks l.b 0 (set_by F c.args.a) l.invariant.2 l.invariant.1
          (inl (subst (λ m. Done l.marks m (set_by F c.args.a l.b)) (sym w.marks-is)
          (record { same_length = w.mark_pair.auto.marks; adds = w.mark_pair.ensures.0 })))
      | else-not-repeats_earlier w ↦ let r = c.repeats_earlier.ensures w.if-not-repeats_earlier.false in
          gathered-turn c.args.marks.now l.marks i.marks l.b r.0 (set_by F c.args.a) l.invariant.2 l.invariant.1
          (inr (w.marks-is, r.1, alike-sink F r.0 l.b r.2 c.args.a))
    ] in
    let kept : (length i.head ≡ length l.head) × Clear i.head × (length i.start ≡ length l.start) =
    elim i.branch [
      | then-not-repeats_earlier w ↦ (
        ap length w.head-is ∙ w.mark_pair.auto.head,
        subst Clear (sym w.head-is) w.mark_pair.ensures.1,
        ap length w.start-is ∙ w.mark_pair.auto.start,
      )
      | else-not-repeats_earlier w ↦ (ap length w.head-is, subst Clear (sym w.head-is) l.invariant.5.clear, ap length w.start-is)
    ] in (
      omega arith,
      turn.0,
      turn.1,
      kept.0 ∙ l.invariant.3,
      kept.2 ∙ l.invariant.4,
      linked-still (numbers_of n.count n.numbers.now c.args.a) c.link.new.out l.head l.start i.head i.start kept.0 kept.1 kept.2 l.invariant.5,
    )

pub shape_of-next : goal.shape_of-next
shape_of-next c = c.link.auto.out

pub shape_of-head : goal.shape_of-head
shape_of-head c = c.loop-b.invariant.3 ∙ c.link.auto.head

pub shape_of-start : goal.shape_of-start
shape_of-start c = c.loop-b.invariant.4

pub shape_of-marks : goal.shape_of-marks
shape_of-marks c = c.loop-b.invariant.1

pub returns : goal.returns
unfolding set_from
returns c =
    let F = flat_of c.args.nest.now in
    let l = c.loop-b in let t = c.loop-b-test.false in let i = l.invariant.0 in let e : l.b ≡ length F.statements = omega arith in
    (subst (λ n. Gathered c.args.marks.now l.marks n (set_by F c.args.a)) e l.invariant.2, l.invariant.5.clear)
