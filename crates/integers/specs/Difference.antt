-- An integer as the difference of two naturals, one of them 0, and its size. `omega` reads naturals only: in `up` and `down` every
-- linear fact of ℤ is one of ℕ (`proofs/DifferenceLaws`).
use Rattle.std.specs.Prelude.{ℕ, suc, ◌+◌, ℤ, pos, negsuc}

abbrev pub up : ℤ → ℕ
up (pos n) = n
up (negsuc n) = 0

abbrev pub down : ℤ → ℕ
down (pos n) = 0
down (negsuc n) = suc n

-- the absolute value, as a sum that `omega` reads
abbrev pub size : ℤ → ℕ
size z = up z + down z
