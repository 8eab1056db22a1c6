use mathlib.Core.Path.{refl}
use mathlib.Core.Bool.{true, false}
use native.Mathlib.Omega.{arith}
use lib.ListN.{length-set}
use Rattle.std.proofs.lemmas.Result.{err_from_is_err_and}
use Rattle.step_exchange.proofs.PairLaws.{lower-refused, upper-refused, both-put}
use Rattle.step_exchange.proofs.put_filled_loop.Goals as goal

pub returns-in_err-put_filled_side : goal.returns-in_err-put_filled_side
returns-in_err-put_filled_side c = let p = err_from_is_err_and c.from_residual.result c.from_residual.ensures.1 in
    rw p.1 (lower-refused c.args.words.now
    c.args.counts.now c.args.k c.args.low.now c.args.up.now c.args.held false _ _ _ c.in_err-put_filled_side.ensures
    refl)

pub returns-in_err-put_filled_side-2 : goal.returns-in_err-put_filled_side-2
returns-in_err-put_filled_side-2 c =
    let p = err_from_is_err_and c.from_residual-in_err-put_filled_side-2.result c.from_residual-in_err-put_filled_side-2.ensures.1 in
    rw p.1 (upper-refused c.args.words.now c.args.counts.now c.args.k c.args.low.now c.args.up.now c.args.held true _
    c.in_ok-put_filled_side.ensures refl false _ c.in_err-put_filled_side-2.ensures _
    refl)

pub bounds-counts-k-2 : goal.bounds-counts-k-2
bounds-counts-k-2 c = let p = c.requires.place
    in let q = c.requires.counts in simp length-set (omega arith)

pub returns : goal.returns
returns c = both-put c.args.words.now c.args.counts.now c.args.k c.args.low.now c.args.up.now c.args.held true _
    c.in_ok-put_filled_side.ensures refl true _ c.in_ok-put_filled_side-2.ensures
    refl
