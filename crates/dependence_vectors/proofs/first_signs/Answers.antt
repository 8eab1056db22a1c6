-- `first_signs`: each sign adds a digit, and no number on the way reaches vector_count.
use Prim.Native.Nat.{◌+◌, ◌*◌}
use native.Mathlib.Omega.{arith}
use borrow.Author.Rules.{rules}
use Rattle.dependence_vectors.specs.Numbers.{Left}
use Rattle.dependence_vectors.proofs.VectorLaws.{left-first, left-small, left-after}
use Rattle.dependence_vectors.proofs.first_signs.Goals as goal

module _ (c : goal.After-sign) where
  after : Left c.args.p.now c.args.q.now (c.loop-k.k + 1) (c.loop-k.v * 3 + c.sign.result)
  after = left-after _ _ c.requires.0 c.loop-k.k c.loop-k.v (omega arith) (search rules) (search rules) c.loop-k.invariant c.sign.ensures

pub loop-k-init : goal.loop-k-init
loop-k-init c = left-first _ _ c.requires.0

pub overflow_mul-v : goal.overflow_mul-v
overflow_mul-v c = let h = left-small _ _ c.requires.0 _ _ c.loop-k.invariant in omega arith

pub overflow_add-v : goal.overflow_add-v
overflow_add-v c = let h = left-small _ _ c.requires.0 _ _ (after c) in omega arith

pub loop-k-preserved : goal.loop-k-preserved
loop-k-preserved c = after c
