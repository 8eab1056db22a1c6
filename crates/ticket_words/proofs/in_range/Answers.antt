-- `in_range`: the range is tested on the bits.
use mathlib.Core.Path.{refl, sym}
use native.Mathlib.Omega.{arith}
use Rattle.ticket_words.proofs.WordLaws.{in-range, below-range, above-range, low_value}
use Rattle.ticket_words.proofs.in_range.Goals as goal

pub returns-then-n-lo : goal.returns-then-n-lo
returns-then-n-lo c = (refl, below-range _ _ _ c.if-n-lo.true c.requires)

pub returns-then-hi-n : goal.returns-then-hi-n
returns-then-hi-n c = (refl, above-range _ _ _ c.if-hi-n.true)

pub returns : goal.returns
returns c = let p = c.if-n-lo.false in
    let q = c.if-hi-n.false in
    (sym (low_value _ (omega arith)), p, q, in-range _ _ _ p q c.requires)
