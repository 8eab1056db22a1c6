-- `sign_of`: the difference of the two tests is the sign.
use mathlib.Core.Path.{◌≡◌, refl, sym, ◌∙◌, ap₂}
use mathlib.Core.Bool.{Bool, true, false}
use native.Mathlib.Omega.{arith}
use lib.IntN.{ℤ, ◌-ℤ◌}
use lib.Signed.{lt_z}
use mir.Syntax.{w64}
use mir.Val.{SFits, to_z, of_z, bool_byte}
use borrow.Author.Rules.{rules}
use Rattle.integers.specs.Sign.{sign, sign_value, yes_no}
use Rattle.integers.proofs.RangeLaws.{sfits, back}
use Rattle.integers.proofs.SignLaws.{value_read, sign-difference}
use Rattle.integers.proofs.sign_of.Goals as goal

-- what the code makes of x and y
abbrev worked : ℤ → ℤ → ℤ
worked x y = to_z w64 (bool_byte (lt_z y x)) -ℤ to_z w64 (bool_byte (lt_z x y))

is-yes-no : (b : Bool) → to_z w64 (bool_byte b) ≡ yes_no b
is-yes-no true = refl
is-yes-no false = refl

is-sign : (x y : ℤ) → worked x y ≡ sign_value (sign x y)
is-sign x y = ap₂ ◌-ℤ◌ (is-yes-no (lt_z y x)) (is-yes-no (lt_z x y)) ∙ sym (sign-difference x y)

-- of any two tests
difference-fits : (s t : Bool) → SFits w64 (to_z w64 (bool_byte s) -ℤ to_z w64 (bool_byte t))
difference-fits true true = sfits (omega arith)
difference-fits true false = sfits (omega arith)
difference-fits false true = sfits (omega arith)
difference-fits false false = sfits (omega arith)

pub overflow_sub-result : goal.overflow_sub-result
overflow_sub-result c = search (rules, difference-fits)

-- both indices are read back from their bits, and so is the sign
pub returns : goal.returns
returns c =
    value_read (sign (to_z w64 (of_z w64 c.args.a)) (to_z w64 (of_z w64 c.args.b))) (is-sign _ _)
    ∙ ap₂ (λ x y. sign_value (sign x y)) (back c.ranges.a) (back c.ranges.b)
