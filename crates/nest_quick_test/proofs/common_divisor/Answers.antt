-- `common_divisor`: the coefficients of u onto those of v.
use Rattle.nest_quick_test.proofs.DivisorLaws.{gcd-both}
use Rattle.nest_quick_test.proofs.common_divisor.Goals as goal

pub returns : goal.returns
returns c = gcd-both c.args.words.now c.args.n c.args.u c.args.v c.gcd_of_words-g.result
    c.gcd_of_words.result c.gcd_of_words-g.ensures c.gcd_of_words.ensures
