use mathlib.Core.Path.{refl}
use native.Mathlib.Omega.{arith}
use lib.IntN.{pos}
use Rattle.step_changes.proofs.FlipLaws.{trade-begins, trade-goes-on, trade-ends}
use Rattle.step_changes.proofs.exchange_words.Goals as goal

pub loop-i-init : goal.loop-i-init
loop-i-init c = let a = c.args in trade-begins a.words.now a.a a.b a.many c.requires

pub loop-i-preserved : goal.loop-i-preserved
loop-i-preserved c = let a = c.args in let l = c.loop-i in
    rw (c.swap.ensures.by_index.3 (pos 0)) (trade-goes-on a.words.now a.a a.b a.many c.requires l.words l.i l.invariant c.loop-i-test.true _ _ refl refl)

pub returns : goal.returns
returns c = let a = c.args in let l = c.loop-i in trade-ends a.words.now a.a a.b a.many c.requires
    l.words l.i l.invariant (omega arith)
