-- `line`: thirteen bytes, with the newline after the last sign.
use Prim.Native.Nat.{◌/◌, ◌%◌, ◌<◌}
use native.Mathlib.Omega.{arith}
use Rattle.dependence_listing_text.proofs.IndexLaws.{At, line-at, parts_in}
use Rattle.dependence_listing_text.proofs.LineLaws.{line-written}
use Rattle.dependence_listing_text.proofs.line.Goals as goal

pub nonzero_div-b-2 : goal.nonzero_div-b-2
nonzero_div-b-2 c =
    let at : At c.args.n c.args.depth c.args.i = line-at c.args.n c.args.depth c.args.i c.requires.1 c.requires.2 in
    let parts : (let n = c.args.n in let b = c.line_block-b.result in (0 < n) × (b / 3 / n < n) × (b / 3 % n < n)) = parts_in c.args.n c.args.depth c.args.i c.line_block-b.result at c.line_block-b.ensures in
    parts.0

pub overflow_add-b : goal.overflow_add-b
overflow_add-b c =
    let at : At c.args.n c.args.depth c.args.i = line-at c.args.n c.args.depth c.args.i c.requires.1 c.requires.2 in
    let parts : (let n = c.args.n in let b = c.line_block-b.result in (0 < n) × (b / 3 / n < n) × (b / 3 % n < n)) = parts_in c.args.n c.args.depth c.args.i c.line_block-b.result at c.line_block-b.ensures in
    let h = parts.1 in let g = c.requires.0 in omega arith

pub byte-requires : goal.byte-requires
byte-requires c =
    let at : At c.args.n c.args.depth c.args.i = line-at c.args.n c.args.depth c.args.i c.requires.1 c.requires.2 in
    let parts : (let n = c.args.n in let b = c.line_block-b.result in (0 < n) × (b / 3 / n < n) × (b / 3 % n < n)) = parts_in c.args.n c.args.depth c.args.i c.line_block-b.result at c.line_block-b.ensures in
    let h = parts.1 in let g = c.requires.0 in omega arith

pub nonzero_rem-b-2 : goal.nonzero_rem-b-2
nonzero_rem-b-2 c =
    let at : At c.args.n c.args.depth c.args.i = line-at c.args.n c.args.depth c.args.i c.requires.1 c.requires.2 in
    let parts : (let n = c.args.n in let b = c.line_block-b.result in (0 < n) × (b / 3 / n < n) × (b / 3 % n < n)) = parts_in c.args.n c.args.depth c.args.i c.line_block-b.result at c.line_block-b.ensures in
    parts.0

pub overflow_add-b-2 : goal.overflow_add-b-2
overflow_add-b-2 c =
    let at : At c.args.n c.args.depth c.args.i = line-at c.args.n c.args.depth c.args.i c.requires.1 c.requires.2 in
    let parts : (let n = c.args.n in let b = c.line_block-b.result in (0 < n) × (b / 3 / n < n) × (b / 3 % n < n)) = parts_in c.args.n c.args.depth c.args.i c.line_block-b.result at c.line_block-b.ensures in
    let h = parts.2 in let g = c.requires.0 in omega arith

pub byte-requires-2 : goal.byte-requires-2
byte-requires-2 c =
    let at : At c.args.n c.args.depth c.args.i = line-at c.args.n c.args.depth c.args.i c.requires.1 c.requires.2 in
    let parts : (let n = c.args.n in let b = c.line_block-b.result in (0 < n) × (b / 3 / n < n) × (b / 3 % n < n)) = parts_in c.args.n c.args.depth c.args.i c.line_block-b.result at c.line_block-b.ensures in
    let h = parts.2 in let g = c.requires.0 in omega arith

pub returns : goal.returns
returns c =
    let at : At c.args.n c.args.depth c.args.i = line-at c.args.n c.args.depth c.args.i c.requires.1 c.requires.2 in
    let b = c.line_block-b in let v = c.line_vector-v in
    line-written c.args.n c.args.depth c.args.i b.result v.result
    c.letter.result
    c.byte.result c.byte-2.result
    _ _ _ _ _ _ c.requires.0 c.requires.1 at b.ensures v.ensures.0
    c.letter.ensures
    c.byte.ensures
    c.byte-2.ensures c.byte-3.ensures
    c.byte-4.ensures c.byte-5.ensures c.byte-6.ensures
    c.byte-7.ensures c.byte-8.ensures
