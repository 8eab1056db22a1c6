-- `gcd_of_words`: one word more.
use mathlib.Core.Path.{◌∙◌}
use native.Mathlib.Omega.{arith}
use Rattle.nest_quick_test.proofs.DivisorLaws.{gcd-none, gcd-more, gcd-all}
use Rattle.nest_quick_test.proofs.gcd_of_words.Goals as goal

pub loop-i-init : goal.loop-i-init
loop-i-init c = gcd-none _ _ _ c.requires _

pub loop-i-preserved : goal.loop-i-preserved
loop-i-preserved c = let l = c.loop-i in c.gcd-r.ensures ∙ gcd-more c.args.words.now c.args.at c.args.n c.requires c.args.g l.i
    (omega arith) (omega arith) c.word.ensures _ _ l.invariant c.unsigned_abs.ensures.value

pub returns : goal.returns
returns c = gcd-all c.args.words.now c.args.at c.args.n c.requires c.args.g _ _ (omega arith) c.loop-i.invariant
