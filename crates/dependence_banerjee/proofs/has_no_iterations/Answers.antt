-- `has_no_iterations`: a sign other than = at a loop of one value.
use mathlib.Core.Path.{sym, ◌∙◌}
use Prim.Native.Nat.{◌-◌}
use native.Mathlib.Omega.{arith}
use Rattle.nest_loop_ranges.proofs.SumLaws.{range-near}
use Rattle.dependence_banerjee.proofs.RegionLaws.{outer-all, outer-next, single-empty}
use Rattle.dependence_banerjee.proofs.has_no_iterations.Goals as goal

pub loop-k-init : goal.loop-k-init
loop-k-init c = outer-all _ _ c.requires _

pub is_single-requires : goal.is_single-requires
is_single-requires c = range-near _ _ c.requires (c.loop-k.k - 1) (omega arith)

pub returns-then-is_single : goal.returns-then-is_single
returns-then-is_single c = λ _. single-empty _ _ c.requires _ _ _ (omega arith) (omega arith) c.loop-k.invariant c.if-v-ne1.true
    (sym c.is_single.ensures ∙ c.if-is_single.true)

pub loop-k-preserved : goal.loop-k-preserved
loop-k-preserved c = outer-next _ _ c.requires _ _ _ (omega arith) (omega arith) c.loop-k.invariant
