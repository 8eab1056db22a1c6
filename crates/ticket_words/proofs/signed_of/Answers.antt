-- `signed_of`: the upper half of the 16-bit numbers is below 0.
use mathlib.Core.Path.{◌≡◌, ◌∙◌, ap}
use Prim.Native.Nat.{ℕ, ◌-◌, ◌<◌, ◌≤◌}
use native.Mathlib.Omega.{arith}
use borrow.Author.Tests.{lt-ltb, le-ltb}
use lib.IntN.{pos, negsuc, ◌-ℤ◌}
use mir.Syntax.{w32}
use mir.Val.{to_z, SFits}
use mir.Facts.{to_z_pos, to_z-of_z}
use Rattle.model.specs.Words.{signed}
use Rattle.ticket_words.proofs.signed_of.Goals as goal

upper : (v : ℕ) → 32768 ≤ v → v < 65536 → to_z w32 v -ℤ pos 65536 ≡ negsuc (65535 - v)
upper v h k = rw (to_z_pos w32 {n = v} (omega arith)) (simp (lt-ltb v 65536 k) (ap negsuc (omega arith)))

upper_fits : (v : ℕ) → 32768 ≤ v → v < 65536 → SFits w32 (to_z w32 v -ℤ pos 65536)
upper_fits v h k = rw (upper v h k) (record { sfits = omega arith })

pub overflow_sub-result : goal.overflow_sub-result
overflow_sub-result c = upper_fits _ c.if-v-lt32768.false (omega arith)

pub returns-then-v-lt32768 : goal.returns-then-v-lt32768
unfolding signed
returns-then-v-lt32768 c = simp (lt-ltb _ _ c.if-v-lt32768.true) (to_z_pos w32 (omega arith))

pub returns-else-v-lt32768 : goal.returns-else-v-lt32768
unfolding signed
returns-else-v-lt32768 c =
    let h = c.if-v-lt32768.false in
    to_z-of_z (upper_fits _ h (omega arith)) ∙ upper _ h (omega arith) ∙ simp (le-ltb _ _ h)
