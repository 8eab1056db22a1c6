use Prim.Native.Nat.{◌+◌}
use mathlib.Core.Path.{refl, ◌∙◌}
use mathlib.Core.Bool.{true, false}
use Rattle.std.proofs.lemmas.Result.{err_from_is_err_and}
use native.Mathlib.Omega.{arith}
use Rattle.step_exchange.proofs.PairLaws.{put_in}
use Rattle.step_exchange.proofs.AnswerLaws.{full-outer, full-inner, outer-large, inner-large, both-put}
use borrow.Author.Rules.{rules}
use Rattle.step_exchange.proofs.exchange_pair.Goals as goal

pub returns-then-is_full : goal.returns-then-is_full
returns-then-is_full c = let o = c.fill_outer-outer in
    let f = c.is_full in
    full-outer c.args.limits.now c.args.counts.now c.args.a c.requires _ _ o.result o.ensures f.result f.ensures
    c.if-is_full.true

pub returns-then-is_full-2 : goal.returns-then-is_full-2
returns-then-is_full-2 c = let o = c.fill_outer-outer in
    let f = c.is_full in
    let i = c.fill_inner-inner in
    let g = c.is_full-2 in
    full-inner c.args.limits.now c.args.counts.now c.args.a c.requires _ _ o.result o.ensures f.result f.ensures
    c.if-is_full.false _ _ i.result i.ensures g.result g.ensures
    c.if-is_full-2.true

pub put_filled_loop-requires : goal.put_filled_loop-requires
put_filled_loop-requires c = let p = c.requires.place in
    let o = c.fill_outer-outer in
    let f = c.is_full in
    put_in _ _ c.args.a _ _ _ _ o.result f.result o.ensures f.ensures
    c.if-is_full.false c.requires.words
    c.requires.counts (omega arith)

pub returns-in_err-put_filled_loop : goal.returns-in_err-put_filled_loop
returns-in_err-put_filled_loop c = let o = c.fill_outer-outer in
    let f = c.is_full in
    let i = c.fill_inner-inner in
    let g = c.is_full-2 in
    let x = c.put_filled_loop in
    let p = err_from_is_err_and c.from_residual.result c.from_residual.ensures.1 in
    rw (p.1, p.2) (outer-large c.args.limits.now c.args.counts.now c.args.a c.requires _ _ o.result o.ensures f.result f.ensures
    c.if-is_full.false _ _ i.result i.ensures g.result g.ensures
    c.if-is_full-2.false
    false _ _ c.in_err-put_filled_loop.ensures refl (x.auto.words ∙ c.requires.words) (x.auto.counts ∙ c.requires.counts))

pub returns-in_err-put_filled_loop-2 : goal.returns-in_err-put_filled_loop-2
returns-in_err-put_filled_loop-2 c = let o = c.fill_outer-outer in
    let f = c.is_full in
    let i = c.fill_inner-inner in
    let g = c.is_full-2 in
    let x = c.put_filled_loop in
    let y = c.put_filled_loop-2 in
    let p = err_from_is_err_and c.from_residual-in_err-put_filled_loop-2.result c.from_residual-in_err-put_filled_loop-2.ensures.1 in
    rw (p.1, p.2) (inner-large c.args.limits.now c.args.counts.now c.args.a c.requires _ _ o.result o.ensures f.result f.ensures
    c.if-is_full.false _ _ i.result i.ensures g.result g.ensures
    c.if-is_full-2.false
    true _ _ c.in_ok-put_filled_loop.ensures refl false
    _ _ c.in_err-put_filled_loop-2.ensures refl (y.auto.words ∙ x.auto.words ∙ c.requires.words) (y.auto.counts ∙ x.auto.counts ∙ c.requires.counts))

pub overflow_add-a : goal.overflow_add-a
overflow_add-a c = let p = c.requires.place
    in search rules

pub put_filled_loop-requires-2 : goal.put_filled_loop-requires-2
put_filled_loop-requires-2 c = let p = c.requires.place in
    let i = c.fill_inner-inner in
    let g = c.is_full-2 in
    let x = c.put_filled_loop in
    put_in _ _ (c.args.a + 1) _ _ _ _ i.result g.result i.ensures g.ensures
    c.if-is_full-2.false
    (x.auto.words ∙ c.requires.words) (x.auto.counts ∙ c.requires.counts) (omega arith)

pub returns : goal.returns
returns c = let o = c.fill_outer-outer in
    let f = c.is_full in
    let i = c.fill_inner-inner in
    let g = c.is_full-2 in
    let x = c.put_filled_loop in
    let y = c.put_filled_loop-2 in
    both-put c.args.limits.now c.args.counts.now c.args.a c.requires _ _ o.result o.ensures f.result f.ensures
    c.if-is_full.false _ _ i.result i.ensures g.result g.ensures
    c.if-is_full-2.false
    true _ _ c.in_ok-put_filled_loop.ensures refl true
    _ _ c.in_ok-put_filled_loop-2.ensures refl (y.auto.words ∙ x.auto.words ∙ c.requires.words) (y.auto.counts ∙ x.auto.counts ∙ c.requires.counts)
