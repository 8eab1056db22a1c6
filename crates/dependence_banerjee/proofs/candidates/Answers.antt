-- `candidates`: the stride is positive.
use Prim.Native.Nat.{◌-◌, ◌<◌}
use native.Mathlib.Omega.{arith}
use native.Mathlib.Nat.{div-le_self}
use Rattle.dependence_vectors.proofs.NumberLaws.{stride-positive}
use Rattle.dependence_banerjee.proofs.CoverLaws.{some-quotient, candidates-own, candidates-before}
use Rattle.model.specs.Directions.{vector_count}
use Rattle.dependence_banerjee.proofs.candidates.Goals as goal

pub nonzero_div-before : goal.nonzero_div-before
nonzero_div-before c = let e = c.stride.ensures.0 in let h = stride-positive (6 - c.args.n) in omega arith

pub overflow_sub-before : goal.overflow_sub-before
overflow_sub-before c = let e = c.stride.ensures.0 in let h = stride-positive (6 - c.args.n) in let l = c.stride.ensures.1 in some-quotient
    (let z : 0 < c.stride.result = omega arith in z) l

pub overflow_add-result : goal.overflow_add-result
overflow_add-result c = let h = div-le_self vector_count c.stride.result in omega arith

pub returns-then-own : goal.returns-then-own
returns-then-own c = candidates-own c.args.n c.args.own c.stride.ensures.0 c.if-own.true

pub returns-else-own : goal.returns-else-own
returns-else-own c = candidates-before c.args.n c.args.own c.stride.ensures.0 c.if-own.false
