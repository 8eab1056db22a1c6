use mathlib.Core.Path.{sym, ◌∙◌, subst}
use mathlib.Core.Logic.{inl, inr}
use Prim.Native.Nat.{◌≤◌, ◌<◌}
use native.Mathlib.Omega.{arith}
use Rattle.dependence_listing_text.specs.Text.{line_count}
use Rattle.dependence_listing_text.proofs.LineLaws.{count-begins, count-turns, count-ends}
use Rattle.dependence_listing_text.proofs.marked_count.Goals.{else-is_marked, then-is_marked}
use Rattle.dependence_listing_text.proofs.marked_count.Goals as goal

pub line_count-total-requires : goal.line_count-total-requires
line_count-total-requires c = let p = c.requires in (p.statements, p.shallow)

pub loop-i-init : goal.loop-i-init
loop-i-init c = count-begins c.args.marks.now c.args.n c.args.depth

pub is_marked-requires : goal.is_marked-requires
is_marked-requires c =
    let below : (c.loop-i.i < line_count c.args.n
    c.args.depth) = subst (λ t. c.loop-i.i < t) c.line_count-total.ensures.0 c.loop-i-test.true in
    (c.requires, below)

pub overflow_add-k : goal.overflow_add-k
overflow_add-k c = let f = c.loop-i.invariant.few in let t = c.loop-i-test.true
    in let h = c.line_count-total.ensures.1 in omega arith

pub loop-i-preserved : goal.loop-i-preserved
loop-i-preserved c =
    let below : (c.loop-i.i < line_count c.args.n
    c.args.depth) = subst (λ t. c.loop-i.i < t) c.line_count-total.ensures.0 c.loop-i-test.true in
    let l = c.loop-i in
    count-turns c.args.marks.now c.args.n c.args.depth l.k c.if-is_marked.k l.i below
    (elim c.if-is_marked.branch [ then-is_marked w ↦ inl (sym c.is_marked.ensures ∙ w.if-is_marked.true, w.k-is) | else-is_marked w ↦ inr (sym c.is_marked.ensures ∙ w.if-is_marked.false, w.k-is) ]) l.invariant

pub returns : goal.returns
returns c = let l = c.loop-i in let e = c.line_count-total.ensures
    in let t = c.loop-i-test.false in let f = l.invariant.few in let i = l.invariant.inside in (
      count-ends c.args.marks.now c.args.n c.args.depth l.k l.i (subst (◌≤ l.i) e.0 t) l.invariant,
      (let g = subst (l.i ≤◌) (sym e.0) i in let h = e.1 in omega arith),
    )
