-- `vector`: the digits, then one = for each missing loop.
use mathlib.Core.Path.{◌≡◌}
use Prim.Native.Nat.{◌+◌, ◌*◌, ◌-◌, ◌/◌, ◌<◌}
use native.Mathlib.Omega.{arith}
use lib.ListN.{length}
use Rattle.model.specs.Directions.{signs, vector_count}
use Rattle.dependence_vectors.specs.Numbers.{number}
use Rattle.dependence_vectors.proofs.NumberLaws.{stride-positive}
use Rattle.dependence_vectors.proofs.VectorLaws.{number-padded}
use Rattle.dependence_vectors.proofs.vector.Goals as goal

pub overflow_mul-result : goal.overflow_mul-result
overflow_mul-result c =
    let whole : (let w = c.sign_digits.result in let t = c.args.step in
    (w * t + (t - 1) / 2 ≡ number (signs c.args.p.now c.args.q.now)) × (w * t + (t - 1) / 2 < vector_count)) = number-padded c.args.p.now c.args.q.now c.requires.0 c.sign_digits.result c.args.step
    c.sign_digits.ensures c.requires.1 in
    let h = whole.1 in omega arith

pub overflow_sub-result : goal.overflow_sub-result
overflow_sub-result c = let h = stride-positive (6 - length c.args.p.now) in let e = c.requires.1 in omega arith

pub overflow_add-result : goal.overflow_add-result
overflow_add-result c =
    let whole : (let w = c.sign_digits.result in let t = c.args.step in
    (w * t + (t - 1) / 2 ≡ number (signs c.args.p.now c.args.q.now)) × (w * t + (t - 1) / 2 < vector_count)) = number-padded c.args.p.now c.args.q.now c.requires.0 c.sign_digits.result c.args.step
    c.sign_digits.ensures c.requires.1 in
    let h = whole.1 in omega arith

pub returns : goal.returns
returns c =
    let whole : (let w = c.sign_digits.result in let t = c.args.step in
    (w * t + (t - 1) / 2 ≡ number (signs c.args.p.now c.args.q.now)) × (w * t + (t - 1) / 2 < vector_count)) = number-padded c.args.p.now c.args.q.now c.requires.0 c.sign_digits.result c.args.step
    c.sign_digits.ensures c.requires.1 in
    whole.0
