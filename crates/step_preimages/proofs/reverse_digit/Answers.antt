-- `reverse_digit`: a digit is turned over.
use mathlib.Core.Path.{refl}
use native.Mathlib.Omega.{arith}
use Rattle.step_preimages.proofs.WeightLaws.{Fits, change-fits, overturned, reversal-at}
use Rattle.step_preimages.proofs.reverse_digit.Goals as goal

pub nonzero_div-x : goal.nonzero_div-x
nonzero_div-x c =
    let fits : Fits c.args.n c.args.w = change-fits c.args.n c.args.w 5 (omega arith) c.requires in
    let f = fits in let p = c.requires in omega arith

pub overflow_mul-result : goal.overflow_mul-result
overflow_mul-result c =
    let fits : Fits c.args.n c.args.w = change-fits c.args.n c.args.w 5 (omega arith) c.requires in
    let f = fits in let p = c.requires in omega arith

pub overflow_add-result : goal.overflow_add-result
overflow_add-result c =
    let fits : Fits c.args.n c.args.w = change-fits c.args.n c.args.w 5 (omega arith) c.requires in
    let f = fits in let p = c.requires in omega arith

pub overflow_mul-result-2 : goal.overflow_mul-result-2
overflow_mul-result-2 c =
    let fits : Fits c.args.n c.args.w = change-fits c.args.n c.args.w 5 (omega arith) c.requires in
    let f = fits in let p = c.requires in omega arith

pub overflow_mul-result-3 : goal.overflow_mul-result-3
overflow_mul-result-3 c =
    let fits : Fits c.args.n c.args.w = change-fits c.args.n c.args.w 5 (omega arith) c.requires in
    let f = fits in let p = c.requires in omega arith

pub overflow_sub-result : goal.overflow_sub-result
overflow_sub-result c =
    let fits : Fits c.args.n c.args.w = change-fits c.args.n c.args.w 5 (omega arith) c.requires in
    let f = fits in let p = c.requires in omega arith

pub returns : goal.returns
unfolding overturned
returns c = λ a h e. reversal-at c.args.n c.requires.below a c.args.w _ h e refl
