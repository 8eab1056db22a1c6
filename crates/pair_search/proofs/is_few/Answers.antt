-- `is_few`: one bound after another.
use native.Mathlib.Omega.{arith}
use Rattle.pair_search.proofs.SearchLaws.{few-fits, few-is}
use Rattle.pair_search.proofs.is_few.Goals as goal

pub overflow_mul-nest : goal.overflow_mul-nest
overflow_mul-nest c = let f = few-fits _ c.args.count c.requires (omega arith) in omega arith

pub returns : goal.returns
returns c = few-is _ c.args.count c.elements_in.result (omega arith) (omega arith) c.elements_in.ensures
