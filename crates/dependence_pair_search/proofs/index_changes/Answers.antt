use mathlib.Core.Path.{sym, ◌∙◌}
use mathlib.Core.Bool.{true≢false}
use mathlib.Core.Logic.{inl, inr}
use Prim.Native.Nat.{ℕ, ◌+◌, ◌*◌, ◌-◌, ◌<◌}
use native.Mathlib.Omega.{arith}
use borrow.Author.Rules.{rules}
use lib.IntN.{pos}
use lib.ListN.{length, get_or}
use Rattle.lists.proofs.PartLaws.{row_fits}
use Rattle.dependence_vectors.proofs.NumberLaws.{sign-back}
use Rattle.dependence_vectors.proofs.CandidateLaws.{equal-digit}
use Rattle.dependence_pair_search.proofs.FullLaws.{level-turn}
use Rattle.dependence_pair_search.proofs.index_changes.Goals.{else-l-ne0, then-l-ne0+else-sign-ne1}
use Rattle.dependence_pair_search.proofs.index_changes.Goals as goal

pub loop-x-init : goal.loop-x-init
loop-x-init c = λ j l h. absurd (omega arith)

pub bounds-links-x : goal.bounds-links-x
bounds-links-x c = let p = c.requires.1.table in let t = c.loop-x-test.true in omega arith

pub overflow_sub-l : goal.overflow_sub-l
overflow_sub-l c = let n = c.if-l-ne0.true in omega arith

pub overflow_mul-l : goal.overflow_mul-l
overflow_mul-l c =
    let fits : (x : ℕ) → x < c.args.count → x * c.args.depth + c.args.k < length c.args.points.now = λ x h. let p = c.requires.1.stored in let k = c.requires.0 in let a = row_fits c.args.depth x c.args.count h in omega arith in
    let source : (c.to_index-l.result - 1) * c.args.depth +
    c.args.k < length c.args.points.now = let w = c.to_index-l in let i = c.requires.1.inside
    c.loop-x.x c.loop-x-test.true in let e = w.ensures in let n = c.if-l-ne0.true
    in fits (w.result - 1) (omega arith) in
    let f = source in omega arith

pub overflow_add-l : goal.overflow_add-l
overflow_add-l c =
    let fits : (x : ℕ) → x < c.args.count → x * c.args.depth + c.args.k < length c.args.points.now = λ x h. let p = c.requires.1.stored in let k = c.requires.0 in let a = row_fits c.args.depth x c.args.count h in omega arith in
    let source : (c.to_index-l.result - 1) * c.args.depth +
    c.args.k < length c.args.points.now = let w = c.to_index-l in let i = c.requires.1.inside
    c.loop-x.x c.loop-x-test.true in let e = w.ensures in let n = c.if-l-ne0.true
    in fits (w.result - 1) (omega arith) in
    let f = source in omega arith

pub offset_bounds-points-l : goal.offset_bounds-points-l
offset_bounds-points-l c =
    let fits : (x : ℕ) → x < c.args.count → x * c.args.depth + c.args.k < length c.args.points.now = λ x h. let p = c.requires.1.stored in let k = c.requires.0 in let a = row_fits c.args.depth x c.args.count h in omega arith in
    let source : (c.to_index-l.result - 1) * c.args.depth +
    c.args.k < length c.args.points.now = let w = c.to_index-l in let i = c.requires.1.inside
    c.loop-x.x c.loop-x-test.true in let e = w.ensures in let n = c.if-l-ne0.true
    in fits (w.result - 1) (omega arith) in
    let f = source in omega arith

pub bounds-points-l : goal.bounds-points-l
bounds-points-l c =
    let fits : (x : ℕ) → x < c.args.count → x * c.args.depth + c.args.k < length c.args.points.now = λ x h. let p = c.requires.1.stored in let k = c.requires.0 in let a = row_fits c.args.depth x c.args.count h in omega arith in
    let source : (c.to_index-l.result - 1) * c.args.depth +
    c.args.k < length c.args.points.now = let w = c.to_index-l in let i = c.requires.1.inside
    c.loop-x.x c.loop-x-test.true in let e = w.ensures in let n = c.if-l-ne0.true
    in fits (w.result - 1) (omega arith) in
    let f = source in omega arith

pub overflow_mul-x : goal.overflow_mul-x
overflow_mul-x c =
    let fits : (x : ℕ) → x < c.args.count → x * c.args.depth + c.args.k < length c.args.points.now = λ x h. let p = c.requires.1.stored in let k = c.requires.0 in let a = row_fits c.args.depth x c.args.count h in omega arith in
    let f = fits c.loop-x.x
    c.loop-x-test.true in omega arith

pub offset_bounds-points-x : goal.offset_bounds-points-x
offset_bounds-points-x c =
    let fits : (x : ℕ) → x < c.args.count → x * c.args.depth + c.args.k < length c.args.points.now = λ x h. let p = c.requires.1.stored in let k = c.requires.0 in let a = row_fits c.args.depth x c.args.count h in omega arith in
    let f = fits c.loop-x.x
    c.loop-x-test.true in omega arith

pub bounds-points-x : goal.bounds-points-x
bounds-points-x c =
    let fits : (x : ℕ) → x < c.args.count → x * c.args.depth + c.args.k < length c.args.points.now = λ x h. let p = c.requires.1.stored in let k = c.requires.0 in let a = row_fits c.args.depth x c.args.count h in omega arith in
    let f = fits
    c.loop-x.x c.loop-x-test.true in omega arith

pub returns-then-sign-ne1 : goal.returns-then-sign-ne1
returns-then-sign-ne1 c = λ e. absurd (true≢false e)

pub loop-x-preserved : goal.loop-x-preserved
loop-x-preserved c = let s = c.args in let l = c.loop-x in let w = c.to_index-l in level-turn s.depth s.points.now s.links.now s.k l.x w.result w.ensures
    (elim c.if-l-ne0.branch [
      | then-l-ne0+else-sign-ne1 v ↦ inr (sym (equal-digit (get_or s.points.now ((w.result - 1) * s.depth + s.k) (pos 0))
          (get_or s.points.now (l.x * s.depth + s.k) (pos 0))
          (sym (sign-back _ _ (search rules) (search rules) v.sign.ensures) ∙ v.if-sign-ne1.false)))
      | else-l-ne0 v ↦ inl v.if-l-ne0.false
    ]) l.invariant

pub returns : goal.returns
returns c = λ e x l h. c.loop-x.invariant x l (let t = c.loop-x-test.false in omega arith)
