use Prim.Native.Nat.{◌≤◌}
use native.Mathlib.Omega.{arith}
use Rattle.step_changes.proofs.FlipLaws.{flip_is}
use Rattle.step_changes.proofs.exchange_sides.Goals as goal

pub exchange_words-requires : goal.exchange_words-requires
exchange_words-requires c =
    let m : c.max-most.result ≤ 16 = let l = c.requires.there.lower-count in let u = c.requires.there.upper-count in omega (arith, c.max-most.ensures) in
    let d = c.requires.deep in
    let n = c.requires.words in
    record { apart = omega arith; room = omega arith; small = c.requires.small }

pub returns : goal.returns
returns c = let a = c.args in let l = c.requires.there.lower-count in let u = c.requires.there.upper-count in
    let e = c.max-most.ensures in
    rw (c.swap.ensures.by_index.3 0) (flip_is a.limits.now a.counts.now a.k c.max-most.result c.requires (omega arith) (omega arith) (omega arith) _
    c.exchange_words.ensures)
