-- Division of a signed number by a positive one, rounded down and rounded up: −3/4 down is −1, up is 0.
use Rattle.std.specs.Prelude.{ℤ, neg_ℤ}
use Rattle.std.specs.Int.Signed.{shr_z}
use Rattle.integers.specs.Difference.{up}

-- the largest q with p q ≤ e
unfoldable pub floor_div : ℤ → ℤ → ℤ
floor_div e p = shr_z e (up p)

-- the smallest q with e ≤ p q
unfoldable pub ceil_div : ℤ → ℤ → ℤ
ceil_div e p = neg_ℤ (floor_div (neg_ℤ e) p)
