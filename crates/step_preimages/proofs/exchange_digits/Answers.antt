-- `exchange_digits`: two digits trade places.
use mathlib.Core.Path.{refl}
use native.Mathlib.Omega.{arith}
use Rattle.step_preimages.proofs.WeightLaws.{Fits, change-fits, traded, exchange-at}
use Rattle.step_preimages.proofs.exchange_digits.Goals as goal

pub overflow_mul-x : goal.overflow_mul-x
overflow_mul-x c =
    let fits : Fits c.args.n c.args.w = change-fits c.args.n c.args.w 4 (omega arith) c.requires in
    let f = fits in let p = c.requires in omega arith

pub nonzero_div-x : goal.nonzero_div-x
nonzero_div-x c =
    let fits : Fits c.args.n c.args.w = change-fits c.args.n c.args.w 4 (omega arith) c.requires in
    let f = fits in let p = c.requires in omega arith

pub nonzero_div-y : goal.nonzero_div-y
nonzero_div-y c =
    let fits : Fits c.args.n c.args.w = change-fits c.args.n c.args.w 4 (omega arith) c.requires in
    let f = fits in let p = c.requires in omega arith

pub overflow_mul-result : goal.overflow_mul-result
overflow_mul-result c =
    let fits : Fits c.args.n c.args.w = change-fits c.args.n c.args.w 4 (omega arith) c.requires in
    let f = fits in let p = c.requires in omega arith

pub overflow_mul-result-2 : goal.overflow_mul-result-2
overflow_mul-result-2 c =
    let fits : Fits c.args.n c.args.w = change-fits c.args.n c.args.w 4 (omega arith) c.requires in
    let f = fits in let p = c.requires in omega arith

pub overflow_mul-result-3 : goal.overflow_mul-result-3
overflow_mul-result-3 c =
    let fits : Fits c.args.n c.args.w = change-fits c.args.n c.args.w 4 (omega arith) c.requires in
    let f = fits in let p = c.requires in omega arith

pub overflow_add-result : goal.overflow_add-result
overflow_add-result c =
    let fits : Fits c.args.n c.args.w = change-fits c.args.n c.args.w 4 (omega arith) c.requires in
    let f = fits in let p = c.requires in omega arith

pub overflow_add-result-2 : goal.overflow_add-result-2
overflow_add-result-2 c =
    let fits : Fits c.args.n c.args.w = change-fits c.args.n c.args.w 4 (omega arith) c.requires in
    let f = fits in let p = c.requires in omega arith

pub overflow_mul-result-4 : goal.overflow_mul-result-4
overflow_mul-result-4 c =
    let fits : Fits c.args.n c.args.w = change-fits c.args.n c.args.w 4 (omega arith) c.requires in
    let f = fits in let p = c.requires in omega arith

pub overflow_mul-result-5 : goal.overflow_mul-result-5
overflow_mul-result-5 c =
    let fits : Fits c.args.n c.args.w = change-fits c.args.n c.args.w 4 (omega arith) c.requires in
    let f = fits in let p = c.requires in omega arith

pub overflow_mul-result-6 : goal.overflow_mul-result-6
overflow_mul-result-6 c =
    let fits : Fits c.args.n c.args.w = change-fits c.args.n c.args.w 4 (omega arith) c.requires in
    let f = fits in let p = c.requires in omega arith

pub overflow_add-result-3 : goal.overflow_add-result-3
overflow_add-result-3 c =
    let fits : Fits c.args.n c.args.w = change-fits c.args.n c.args.w 4 (omega arith) c.requires in
    let f = fits in let p = c.requires in omega arith

pub overflow_sub-result : goal.overflow_sub-result
overflow_sub-result c =
    let fits : Fits c.args.n c.args.w = change-fits c.args.n c.args.w 4 (omega arith) c.requires in
    let f = fits in let p = c.requires in omega arith

pub returns : goal.returns
unfolding traded
returns c = λ a h e. exchange-at c.args.n c.requires.below a c.args.w _ h e refl
