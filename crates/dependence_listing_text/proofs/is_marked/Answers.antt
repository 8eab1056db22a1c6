-- `is_marked`: the mark at the line's place.
use mathlib.Core.Path.{◌≡◌, sym, ap}
use mathlib.Core.Bool.{false}
use Prim.Native.Nat.{◌+◌, ◌*◌, ◌-◌, ◌/◌, ◌<◌}
use native.Mathlib.Omega.{arith}
use lib.ListN.{length, get_or}
use Rattle.dependence_vectors.specs.Numbers.{place, marks_for}
use Rattle.dependence_vectors.proofs.NumberLaws.{stride-positive}
use Rattle.dependence_listing_text.specs.Text.{line_at, marked}
use Rattle.dependence_listing_text.proofs.IndexLaws.{line-at, mark-at}
use Rattle.dependence_listing_text.proofs.is_marked.Goals as goal

pub overflow_mul-result : goal.overflow_mul-result
overflow_mul-result c =
    let at : (let n = c.args.n in let i = c.args.i in let p = c.stride-step.result in
    (place n (line_at n c.args.depth i) ≡ i * p + (p - 1) / 2) × (i * p + (p - 1) / 2 < marks_for n)) = mark-at c.args.n c.args.depth c.args.i c.stride-step.result c.requires.0.shallow
    c.stride-step.ensures.0 (line-at c.args.n c.args.depth c.args.i c.requires.0.shallow c.requires.1) in
    let inside : (c.args.i * c.stride-step.result + (c.stride-step.result - 1) / 2 < length
    c.args.marks.now) = let h = at.1 in let r = c.requires.0.room in omega arith in
    let h = inside in let g = c.well_formed.0.0 in omega arith

pub overflow_sub-result : goal.overflow_sub-result
overflow_sub-result c = let h = stride-positive (6 - c.args.depth) in let e = c.stride-step.ensures.0 in omega arith

pub overflow_add-result : goal.overflow_add-result
overflow_add-result c =
    let at : (let n = c.args.n in let i = c.args.i in let p = c.stride-step.result in
    (place n (line_at n c.args.depth i) ≡ i * p + (p - 1) / 2) × (i * p + (p - 1) / 2 < marks_for n)) = mark-at c.args.n c.args.depth c.args.i c.stride-step.result c.requires.0.shallow
    c.stride-step.ensures.0 (line-at c.args.n c.args.depth c.args.i c.requires.0.shallow c.requires.1) in
    let inside : (c.args.i * c.stride-step.result + (c.stride-step.result - 1) / 2 < length
    c.args.marks.now) = let h = at.1 in let r = c.requires.0.room in omega arith in
    let h = inside in let g = c.well_formed.0.0 in omega arith

pub bounds-marks-i : goal.bounds-marks-i
bounds-marks-i c =
    let at : (let n = c.args.n in let i = c.args.i in let p = c.stride-step.result in
    (place n (line_at n c.args.depth i) ≡ i * p + (p - 1) / 2) × (i * p + (p - 1) / 2 < marks_for n)) = mark-at c.args.n c.args.depth c.args.i c.stride-step.result c.requires.0.shallow
    c.stride-step.ensures.0 (line-at c.args.n c.args.depth c.args.i c.requires.0.shallow c.requires.1) in
    let inside : (c.args.i * c.stride-step.result + (c.stride-step.result - 1) / 2 < length
    c.args.marks.now) = let h = at.1 in let r = c.requires.0.room in omega arith in
    inside

pub returns : goal.returns
unfolding marked
returns c =
    let at : (let n = c.args.n in let i = c.args.i in let p = c.stride-step.result in
    (place n (line_at n c.args.depth i) ≡ i * p + (p - 1) / 2) × (i * p + (p - 1) / 2 < marks_for n)) = mark-at c.args.n c.args.depth c.args.i c.stride-step.result c.requires.0.shallow
    c.stride-step.ensures.0 (line-at c.args.n c.args.depth c.args.i c.requires.0.shallow c.requires.1) in
    ap (λ k. get_or c.args.marks.now k false) (sym at.0)
