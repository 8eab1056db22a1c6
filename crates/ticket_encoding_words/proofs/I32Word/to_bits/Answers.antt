-- `to_bits` of a wide number: one within ±32767 is a word.
use Prim.Native.Nat.{◌≤◌}
use native.Mathlib.Omega.{arith}
use lib.IntN.{ℤ, pos, negsuc, nat_abs}
use mir.Syntax.{w16}
use mir.Val.{SFits}
use mir.Facts.{to_z-of_z}
use Rattle.ticket_encoding_words.proofs.WritingLaws.{bits-same}
use Rattle.ticket_encoding_words.proofs.I32Word.to_bits.Goals as goal

narrow-fits : (z : ℤ) → nat_abs z ≤ 32767 → SFits w16 z
narrow-fits (pos n) h = record { sfits = omega arith }
narrow-fits (negsuc n) h = record { sfits = omega arith }

pub returns : goal.returns
returns c =
    let z = to_z-of_z c.ranges.self in
    let n = to_z-of_z (narrow-fits c.args.self c.requires) in
    let e = bits-same c.args.self in
    cc
