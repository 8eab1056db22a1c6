use mathlib.Core.Path.{◌≡◌, refl, ◌∙◌, subst}
use mathlib.Core.Logic.{inl, inr}
use Prim.Native.Nat.{◌+◌, ◌≤◌, ◌<◌}
use native.Mathlib.Omega.{arith}
use lib.ListN.{length, get_or, set, length-set}
use borrow.Author.Count.{below_none}
use Rattle.dependence_pair_search.specs.Search.{latest, up_to, ClearElse}
use Rattle.dependence_pair_search.proofs.ChainLaws.{Heads, heads-none, heads-more, heads-else, links-more, unlinked-more, link-turn}
use Rattle.dependence_pair_search.proofs.link.Goals.{else-own, then-own}
use Rattle.dependence_pair_search.proofs.link.Goals as goal

pub loop-y-init : goal.loop-y-init
loop-y-init c = (
  omega arith,
  refl,
  refl,
  heads-none c.args.from.now c.args.head.now
      c.requires.clear,
  below_none _,
  λ _. below_none _,
)

pub offset_bounds-head-e : goal.offset_bounds-head-e
offset_bounds-head-e c =
    let e-lt : c.to_index-e.result < length c.loop-y.head = let l = c.loop-y in
    let h = c.requires.sinks l.y (omega (arith, c.requires.both, c.loop-y-test.true)) in let e = c.to_index-e.ensures
    in let k = l.invariant.1 in omega arith in
    let room : length c.loop-y.head ≤ 16384 = let r = c.requires.heads in let e = c.loop-y.invariant.1 in omega arith in
    let h = e-lt in let r = room in omega arith

pub bounds-head-e : goal.bounds-head-e
bounds-head-e c =
    let e-lt : c.to_index-e.result < length c.loop-y.head = let l = c.loop-y in
    let h = c.requires.sinks l.y (omega (arith, c.requires.both, c.loop-y-test.true)) in let e = c.to_index-e.ensures
    in let k = l.invariant.1 in omega arith in
    let room : length c.loop-y.head ≤ 16384 = let r = c.requires.heads in let e = c.loop-y.invariant.1 in omega arith in
    let h = e-lt in let r = room in omega arith

pub offset_bounds-head-to_index : goal.offset_bounds-head-to_index
offset_bounds-head-to_index c =
    let f_lt : c.to_index.result < length
    c.loop-y.head = let l = c.loop-y in
    let h = c.requires.sources l.y c.loop-y-test.true in let e = c.to_index.ensures
    in let k = l.invariant.1 in omega arith in
    let room : length c.loop-y.head ≤ 16384 = let r = c.requires.heads in let e = c.loop-y.invariant.1 in omega arith in
    let h = f_lt in let r = room in omega arith

pub bounds-head-to_index : goal.bounds-head-to_index
bounds-head-to_index c =
    let f_lt : c.to_index.result < length
    c.loop-y.head = let l = c.loop-y in
    let h = c.requires.sources l.y c.loop-y-test.true in let e = c.to_index.ensures
    in let k = l.invariant.1 in omega arith in
    let room : length c.loop-y.head ≤ 16384 = let r = c.requires.heads in let e = c.loop-y.invariant.1 in omega arith in
    let h = f_lt in let r = room in omega arith

pub offset_bounds-head-e-then-own : goal.offset_bounds-head-e-then-own
offset_bounds-head-e-then-own c =
    let e-lt : c.to_index-e.result < length c.loop-y.head = let l = c.loop-y in
    let h = c.requires.sinks l.y (omega (arith, c.requires.both, c.loop-y-test.true)) in let e = c.to_index-e.ensures
    in let k = l.invariant.1 in omega arith in
    let room : length c.loop-y.head ≤ 16384 = let r = c.requires.heads in let e = c.loop-y.invariant.1 in omega arith in
    let h = e-lt in let r = room in omega arith

pub bounds-head-e-then-own : goal.bounds-head-e-then-own
bounds-head-e-then-own c =
    let e-lt : c.to_index-e.result < length c.loop-y.head = let l = c.loop-y in
    let h = c.requires.sinks l.y (omega (arith, c.requires.both, c.loop-y-test.true)) in let e = c.to_index-e.ensures
    in let k = l.invariant.1 in omega arith in
    let room : length c.loop-y.head ≤ 16384 = let r = c.requires.heads in let e = c.loop-y.invariant.1 in omega arith in
    let h = e-lt in let r = room in simp length-set (omega arith)

pub loop-y-preserved : goal.loop-y-preserved
loop-y-preserved c =
    let e-lt : c.to_index-e.result < length c.loop-y.head = let l = c.loop-y in
    let h = c.requires.sinks l.y (omega (arith, c.requires.both, c.loop-y-test.true)) in let e = c.to_index-e.ensures
    in let k = l.invariant.1 in omega arith in
    let f_lt : c.to_index.result < length
    c.loop-y.head = let l = c.loop-y in
    let h = c.requires.sources l.y c.loop-y-test.true in let e = c.to_index.ensures
    in let k = l.invariant.1 in omega arith in
    let heads-next : (let l = c.loop-y in Heads
    c.args.from.now
    (set l.head c.to_index.result c.to_link.result) (l.y + 1)) = let l = c.loop-y in
    heads-more c.args.from.now l.head l.y c.to_index.result c.to_link.result f_lt c.to_index.ensures
    c.to_link.ensures l.invariant.3 in
    let link-is : (let l = c.loop-y in c.if-own.l ≡ latest c.args.from.now
    (get_or c.args.to.now l.y 0) (up_to c.args.own l.y)) = let l = c.loop-y in
    let w = c.to_index-e in
    link-turn c.args.from.now l.head (set l.head c.to_index.result c.to_link.result)
    c.args.own l.y w.result (get_or c.args.to.now l.y 0) c.if-own.l e-lt
    (length-set l.head c.to_index.result c.to_link.result) w.ensures l.invariant.3
    heads-next
    (elim c.if-own.branch [ then-own w ↦ inl (w.if-own.true, w.l-is) | else-own w ↦ inr (w.if-own.false, w.l-is) ]) in
    let l = c.loop-y in
    let t = c.loop-y-test.true in (
      omega arith,
      simp length-set l.invariant.1,
      simp length-set l.invariant.2,
      heads-next,
      links-more c.args.from.now c.args.to.now c.args.own l.out l.y c.if-own.l (omega (arith, c.requires.room, l.invariant.2))
          link-is l.invariant.4,
      unlinked-more l.out l.any l.y c.if-own.l (omega (arith, c.requires.room, l.invariant.2)) l.invariant.5,
    )

pub clear_heads-requires : goal.clear_heads-requires
clear_heads-requires c =
    let room : length c.loop-y.head ≤ 16384 = let r = c.requires.heads in let e = c.loop-y.invariant.1 in omega arith in
    let l = c.loop-y in let i = l.invariant.0 in let t = c.loop-y-test.false in let e : l.y ≡ length c.args.from.now = omega arith in (
      λ i h. let g = c.requires.sources i h in let k = l.invariant.1 in omega arith,
      room,
      subst
          (ClearElse c.args.from.now l.head) e (heads-else c.args.from.now l.head l.y l.invariant.3),
    )

pub shape_of-head : goal.shape_of-head
shape_of-head c = c.clear_heads.auto.head ∙ c.loop-y.invariant.1

pub shape_of-out : goal.shape_of-out
shape_of-out c = c.loop-y.invariant.2

pub returns : goal.returns
returns c = let i = c.loop-y.invariant in let t = c.loop-y-test.false in
    (λ y h. i.4 y (omega arith), c.clear_heads.ensures, λ e y h. i.5 e y (omega arith))
