-- `sign`: the digit is the sign's number and 1.
use mathlib.Core.Path.{◌≡◌, refl, sym, ap, ◌∙◌, subst}
use native.Mathlib.Omega.{arith}
use lib.Dec.{T}
use lib.IntN.{ℤ, pos, nat_abs, ◌+ℤ◌}
use lib.Signed.{non_neg}
use mir.Syntax.{w64}
use mir.Val.{SFits, Fits, to_z, of_z}
use borrow.Author.Rules.{rules}
use Rattle.integers.specs.Sign.{Sign, less, equal, greater, sign, sign_value}
use Rattle.integers.proofs.RingLaws.{zarith}
use Rattle.integers.proofs.RangeLaws.{back, cast_ok}
use Rattle.integers.proofs.SignLaws.{value_read}
use Rattle.dependence_vectors.specs.Numbers.{digit}
use Rattle.dependence_vectors.proofs.NumberLaws.{digit_lt}
use Rattle.dependence_vectors.proofs.sign.Goals as goal

value-digit : (s : Sign) → sign_value s +ℤ pos 1 ≡ pos (digit s)
unfolding digit
value-digit less = refl
value-digit equal = refl
value-digit greater = refl

-- r is what `sign_of` answers, the number of some sign
module _ {r : ℤ} (s : Sign) (e : r ≡ sign_value s) where
  digit-fits : SFits w64 (pos (digit s))
  digit-fits = let d = digit_lt s in record { sfits = omega arith }

  sum : to_z w64 (of_z w64 r) +ℤ pos 1 ≡ pos (digit s)
  sum = ap (◌+ℤ pos 1) (value_read s e) ∙ value-digit s

  sum_fits : SFits w64 (to_z w64 (of_z w64 r) +ℤ pos 1)
  sum_fits = subst (SFits w64) (sym sum) digit-fits

  read : to_z w64 (of_z w64 (to_z w64 (of_z w64 r) +ℤ pos 1)) ≡ pos (digit s)
  read = back sum_fits ∙ sum

  sum-casts : T (non_neg (to_z w64 (of_z w64 (to_z w64 (of_z w64 r) +ℤ pos 1)))) × Fits w64 (nat_abs (to_z w64 (of_z w64 (to_z w64 (of_z w64 r) +ℤ pos 1))))
  sum-casts = subst (λ z. T (non_neg z) × Fits w64 (nat_abs z)) (sym read) (cast_ok (pos (digit s)) (omega zarith) digit-fits)

pub overflow_add-result : goal.overflow_add-result
overflow_add-result c = let e = c.sign_of.ensures in search (rules, sum_fits)

pub overflow_cast-result : goal.overflow_cast-result
overflow_cast-result c = let e = c.sign_of.ensures in search (rules, sum-casts)

-- both indices are read back from their bits
pub returns : goal.returns
returns c = ap nat_abs (read (sign c.args.a c.args.b) (simp (back, c.ranges.a, c.ranges.b) at c.sign_of.ensures))
