use mathlib.Core.Path.{refl}
use native.Mathlib.Omega.{arith}
use Rattle.nest_flat.specs.FlatNests.{sizes_in, flat}
use Rattle.dependence_marks.proofs.UseLaws.{entered-none, use-fits, use-in, use-next, uses-are}
use Rattle.dependence_marks.proofs.uses_of.Goals as goal

pub loop-s-init : goal.loop-s-init
loop-s-init c = let P = flat c.args.nest.now in entered-none (sizes_in P) _ _

pub enter-requires : goal.enter-requires
enter-requires c = let l = c.loop-s in use-in _
    c.requires _ _ refl refl l.statements l.writes l.first l.s l.invariant c.loop-s-test.true

pub overflow_add-first : goal.overflow_add-first
overflow_add-first c = let l = c.loop-s in let f = use-fits _ c.requires _ _ refl refl l.statements
    l.writes l.first l.s l.invariant c.loop-s-test.true in omega arith

pub loop-s-preserved : goal.loop-s-preserved
loop-s-preserved c = let l = c.loop-s in use-next _ c.requires _ _ refl refl l.statements l.writes
    l.first l.s l.invariant c.loop-s-test.true _ _ c.enter.ensures

pub returns : goal.returns
returns c = let l = c.loop-s in uses-are _ c.requires _ _ refl refl l.statements
    l.writes l.first l.s l.invariant c.loop-s-test.false
