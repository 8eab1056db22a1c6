use mathlib.Core.Path.{◌≡◌, sym, ◌∙◌, subst}
use mathlib.Core.Logic.{inl, inr}
use Prim.Native.Nat.{◌+◌, ◌≤◌, ◌<◌}
use native.Mathlib.Omega.{arith}
use lib.ListN.{length}
use Rattle.dependence_listing_text.specs.Text.{line_count}
use Rattle.dependence_listing_text.proofs.LineLaws.{write-begins, write-length, write-room, write-turns, write-ends}
use Rattle.dependence_listing_text.proofs.write_lines.Goals.{else-is_marked, then-is_marked}
use Rattle.dependence_listing_text.proofs.write_lines.Goals as goal

pub line_count-total-requires : goal.line_count-total-requires
line_count-total-requires c = let p = c.requires.0 in (p.statements, p.shallow)

pub loop-i-init : goal.loop-i-init
loop-i-init c = write-begins c.args.marks.now c.args.n c.args.depth c.requires.0.statements
    c.args.out.now c.args.at

pub is_marked-requires : goal.is_marked-requires
is_marked-requires c =
    let below : (c.loop-i.i < line_count c.args.n
    c.args.depth) = subst (λ t. c.loop-i.i < t) c.line_count-total.ensures.0 c.loop-i-test.true in
    (c.requires.0, below)

pub write_line-requires : goal.write_line-requires
write_line-requires c =
    let below : (c.loop-i.i < line_count c.args.n
    c.args.depth) = subst (λ t. c.loop-i.i < t) c.line_count-total.ensures.0 c.loop-i-test.true in
    let room : c.loop-i.p + (c.args.depth + 7) ≤ length c.loop-i.out = let l = c.loop-i in write-room
    c.args.marks.now c.args.n c.args.depth c.requires.0.statements c.args.out.now c.args.at c.requires.1 l.out l.p l.i
    below (sym c.is_marked.ensures ∙ c.if-is_marked.true) l.invariant in
    (c.requires.0.statements, c.requires.0.shallow, below, room)

pub overflow_add-p : goal.overflow_add-p
overflow_add-p c = let h = c.requires.0.shallow in omega arith

pub overflow_add-p-then-is_marked : goal.overflow_add-p-then-is_marked
overflow_add-p-then-is_marked c =
    let below : (c.loop-i.i < line_count c.args.n
    c.args.depth) = subst (λ t. c.loop-i.i < t) c.line_count-total.ensures.0 c.loop-i-test.true in
    let long : length c.loop-i.out ≡ length c.args.out.now = let l = c.loop-i in write-length c.args.marks.now c.args.n c.args.depth
    c.requires.0.statements c.args.out.now c.args.at c.requires.1 l.out l.p l.i l.invariant in
    let room : c.loop-i.p + (c.args.depth + 7) ≤ length c.loop-i.out = let l = c.loop-i in write-room
    c.args.marks.now c.args.n c.args.depth c.requires.0.statements c.args.out.now c.args.at c.requires.1 l.out l.p l.i
    below (sym c.is_marked.ensures ∙ c.if-is_marked.true) l.invariant in
    let r = room in let e = long
    in let g = c.well_formed.1.1.1.0.0 in omega arith

pub loop-i-preserved : goal.loop-i-preserved
loop-i-preserved c =
    let below : (c.loop-i.i < line_count c.args.n
    c.args.depth) = subst (λ t. c.loop-i.i < t) c.line_count-total.ensures.0 c.loop-i-test.true in
    let l = c.loop-i in
    write-turns c.args.marks.now c.args.n c.args.depth c.requires.0.statements c.args.out.now c.args.at c.requires.1 l.out
    c.if-is_marked.out l.p c.if-is_marked.p l.i below
    (elim c.if-is_marked.branch [ then-is_marked w ↦ inl (sym c.is_marked.ensures ∙ w.if-is_marked.true, w.out-is ∙ w.write_line.ensures, w.p-is) | else-is_marked w ↦ inr (sym c.is_marked.ensures ∙ w.if-is_marked.false, w.out-is, w.p-is) ]) l.invariant

pub shape_of-out : goal.shape_of-out
shape_of-out c =
    let long : length c.loop-i.out ≡ length c.args.out.now = let l = c.loop-i in write-length c.args.marks.now c.args.n c.args.depth
    c.requires.0.statements c.args.out.now c.args.at c.requires.1 l.out l.p l.i l.invariant in
    long

pub returns : goal.returns
returns c = let l = c.loop-i in
    write-ends c.args.marks.now c.args.n c.args.depth c.requires.0.statements c.args.out.now c.args.at c.requires.1 l.out
    l.p l.i (subst (◌≤ l.i) c.line_count-total.ensures.0 c.loop-i-test.false) l.invariant
