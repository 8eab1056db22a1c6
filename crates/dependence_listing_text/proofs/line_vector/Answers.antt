-- `line_vector`: the rest, with one = for each missing loop.
use mathlib.Core.Path.{◌≡◌}
use Prim.Native.Nat.{◌+◌, ◌*◌, ◌-◌, ◌/◌, ◌%◌, ◌<◌}
use native.Mathlib.Omega.{arith}
use Rattle.dependence_vectors.specs.Candidates.{stride, middle}
use Rattle.dependence_vectors.proofs.NumberLaws.{stride-positive}
use Rattle.dependence_listing_text.proofs.IndexLaws.{power-is, vector-is}
use Rattle.model.specs.Directions.{vector_count}
use Rattle.dependence_listing_text.proofs.line_vector.Goals as goal

pub nonzero_rem-result : goal.nonzero_rem-result
nonzero_rem-result c =
    let power : (c.stride.result ≡ stride c.args.depth) × (0 < c.stride.result) = power-is c.args.depth c.stride.result c.requires c.stride.ensures.0 in
    power.1

pub overflow_mul-result : goal.overflow_mul-result
overflow_mul-result c =
    let power : (c.stride.result ≡ stride c.args.depth) × (0 < c.stride.result) = power-is c.args.depth c.stride.result c.requires c.stride.ensures.0 in
    let whole : (let d = c.args.depth in let i = c.args.i in let s = c.stride-step.result
    in let p = c.stride.result in
    (i % p * s + (s - 1) / 2 ≡ i % stride d * stride (6 - d) + middle (6 - d)) × (i % p * s + (s - 1) / 2 < vector_count)) = vector-is c.args.depth c.args.i c.stride-step.result c.stride.result
    c.requires power.0 c.stride-step.ensures.0 in
    let h = whole.1 in omega arith

pub overflow_sub-result : goal.overflow_sub-result
overflow_sub-result c = let h = stride-positive (6 - c.args.depth) in let e = c.stride-step.ensures.0 in omega arith

pub overflow_add-result : goal.overflow_add-result
overflow_add-result c =
    let power : (c.stride.result ≡ stride c.args.depth) × (0 < c.stride.result) = power-is c.args.depth c.stride.result c.requires c.stride.ensures.0 in
    let whole : (let d = c.args.depth in let i = c.args.i in let s = c.stride-step.result
    in let p = c.stride.result in
    (i % p * s + (s - 1) / 2 ≡ i % stride d * stride (6 - d) + middle (6 - d)) × (i % p * s + (s - 1) / 2 < vector_count)) = vector-is c.args.depth c.args.i c.stride-step.result c.stride.result
    c.requires power.0 c.stride-step.ensures.0 in
    let h = whole.1 in omega arith

pub returns : goal.returns
returns c =
    let power : (c.stride.result ≡ stride c.args.depth) × (0 < c.stride.result) = power-is c.args.depth c.stride.result c.requires c.stride.ensures.0 in
    let whole : (let d = c.args.depth in let i = c.args.i in let s = c.stride-step.result
    in let p = c.stride.result in
    (i % p * s + (s - 1) / 2 ≡ i % stride d * stride (6 - d) + middle (6 - d)) × (i % p * s + (s - 1) / 2 < vector_count)) = vector-is c.args.depth c.args.i c.stride-step.result c.stride.result
    c.requires power.0 c.stride-step.ensures.0 in
    whole
