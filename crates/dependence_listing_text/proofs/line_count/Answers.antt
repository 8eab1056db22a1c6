-- `line_count`: four statements and six loops at most.
use mathlib.Core.Path.{ap}
use Prim.Native.Nat.{◌*◌}
use native.Mathlib.Omega.{arith}
use Rattle.dependence_listing_text.proofs.IndexLaws.{power-is, count_small}
use Rattle.dependence_listing_text.proofs.line_count.Goals as goal

pub overflow_mul-result : goal.overflow_mul-result
overflow_mul-result c = let h = (count_small c.args.n 0 c.requires.0 (omega arith)).0 in omega arith

pub overflow_mul-result-2 : goal.overflow_mul-result-2
overflow_mul-result-2 c = let h = (count_small c.args.n 0 c.requires.0 (omega arith)).0 in omega arith

pub overflow_mul-result-3 : goal.overflow_mul-result-3
overflow_mul-result-3 c = let h = (count_small c.args.n c.stride.result c.requires.0 c.stride.ensures.1).1 in omega arith

pub returns : goal.returns
returns c = (
  ap (c.args.n * c.args.n * 3 *◌) (power-is c.args.depth c.stride.result c.requires.1
      c.stride.ensures.0).0,
  (count_small c.args.n c.stride.result c.requires.0 c.stride.ensures.1).1,
)
