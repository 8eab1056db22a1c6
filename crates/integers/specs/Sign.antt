-- How one index stands to another, as data: <, = or >. The sign of a direction vector for one loop. Then equality as a test.
use Rattle.std.specs.Prelude.{Bool, true, false, cond, eqb, ℤ, pos, negsuc}
use Rattle.std.specs.Int.Signed.{lt_z}

pub data Sign : Type 0 where
  less equal greater : Sign

unfoldable pub sign : ℤ → ℤ → Sign
sign x y = cond (lt_z x y) less (cond (lt_z y x) greater equal)

-- the other way round
abbrev pub turned : Sign → Sign
turned less = greater
turned equal = equal
turned greater = less

-- −1, 0 or 1: the sign of x − y
abbrev pub sign_value : Sign → ℤ
sign_value less = negsuc 0
sign_value equal = pos 0
sign_value greater = pos 1

-- a yes/no number
abbrev pub yes_no : Bool → ℤ
yes_no true = pos 1
yes_no false = pos 0

abbrev pub eq_z : ℤ → ℤ → Bool
eq_z (pos a) (pos b) = eqb a b
eq_z (pos a) (negsuc b) = false
eq_z (negsuc a) (pos b) = false
eq_z (negsuc a) (negsuc b) = eqb a b
