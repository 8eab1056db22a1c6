-- `write_listing`: the size is the length of the text; the fields and the lines are written one after another.
use mathlib.Core.Path.{◌≡◌, ap, ◌∙◌}
use Prim.Native.Nat.{◌+◌, ◌*◌}
use native.Mathlib.Omega.{arith}
use lib.ListN.{length}
use Rattle.dependence_listing_text.specs.Text.{text}
use Rattle.dependence_listing_text.proofs.WholeLaws.{whole_length, whole-written, size_fits, fits, short}
use Rattle.dependence_listing_text.proofs.write_listing.Goals as goal

pub overflow_mul-size : goal.overflow_mul-size
overflow_mul-size c = let h = size_fits c.marked_count-k.result
    c.args.depth
    c.marked_count-k.ensures.1
    c.requires.0.shallow in omega arith

pub overflow_add-size-2 : goal.overflow_add-size-2
overflow_add-size-2 c = let h = size_fits c.marked_count-k.result
    c.args.depth
    c.marked_count-k.ensures.1
    c.requires.0.shallow in
    let x = c.field-a.ensures.short in let y = c.field-b.ensures.short
    in let z = c.field-c.ensures.short in omega arith

pub returns-then-out-size : goal.returns-then-out-size
returns-then-out-size c =
    let size_is : (length (text c.args.marks.now c.args.n c.args.depth c.args.points) ≡
    (c.field-a.result.len + c.field-b.result.len +
    c.field-c.result.len) + c.marked_count-k.result *
    (c.args.depth + 7)) = whole_length c.args.marks.now c.args.n
    c.args.depth c.args.points c.marked_count-k.result
    c.field-a.result.len c.field-b.result.len
    c.field-c.result.len _ _ _
    c.field-a.ensures c.field-b.ensures
    c.field-c.ensures c.marked_count-k.ensures.0
    c.requires.0.statements in
    short
    (text c.args.marks.now c.args.n c.args.depth c.args.points) c.args.out.now _ size_is c.if-out-size.true

pub write_lines-requires : goal.write_lines-requires
write_lines-requires c = let k = c.write_field-e.auto.out
    ∙ (c.write_field-q.auto.out
    ∙ c.write_field-p.auto.out) in
    let x = c.write_field-e.ensures.1 in let y = c.write_field-q.ensures.1 in let z = c.write_field-p.ensures.1
    in let f = c.if-out-size.false in
    let e = ap (◌* (c.args.depth + 7)) c.marked_count-k.ensures.0 in (c.requires.0, omega arith)

pub returns : goal.returns
returns c =
    let size_is : (length (text c.args.marks.now c.args.n c.args.depth c.args.points) ≡
    (c.field-a.result.len + c.field-b.result.len +
    c.field-c.result.len) + c.marked_count-k.result *
    (c.args.depth + 7)) = whole_length c.args.marks.now c.args.n
    c.args.depth c.args.points c.marked_count-k.result
    c.field-a.result.len c.field-b.result.len
    c.field-c.result.len _ _ _
    c.field-a.ensures c.field-b.ensures
    c.field-c.ensures c.marked_count-k.ensures.0
    c.requires.0.statements in
    fits (text c.args.marks.now c.args.n c.args.depth c.args.points) c.args.out.now
    c.write_lines.new.out _ size_is c.if-out-size.false
    (whole-written c.args.marks.now c.args.n c.args.depth c.args.points
    c.marked_count-k.result c.field-a.result.len
    c.field-b.result.len c.field-c.result.len _ _ _
    c.field-a.ensures c.field-b.ensures
    c.field-c.ensures c.marked_count-k.ensures.0 c.requires.0.statements
    c.args.out.now c.write_field-p.new.out c.write_field-q.new.out
    c.write_field-e.new.out c.write_lines.new.out
    c.write_field-p.result
    c.write_field-q.result
    c.write_field-e.result
    c.if-out-size.false
    c.write_field-p.ensures.0
    c.write_field-p.ensures.1
    c.write_field-q.ensures.0
    c.write_field-q.ensures.1
    c.write_field-e.ensures.0
    c.write_field-e.ensures.1 c.write_lines.ensures)
