-- Cutting to ±32767: the standard library's `clamp` is the model's cut.
use mathlib.Core.Path.{◌≡◌, ◌∙◌}
use Prim.Native.Nat.{◌≤◌}
use native.Mathlib.Omega.{arith}
use lib.IntN.{ℤ, pos, negsuc}
use lib.Signed.{◌≤ℤ◌}
use Rattle.std.specs.Int.{int_max, int_min}
use Rattle.integers.specs.Difference.{size}
use Rattle.integers.proofs.RangeLaws.{size_of}
use Rattle.model.specs.Points.{max_z, min_z}
use Rattle.model.specs.Quick.{cut}
use Rattle.nest_index_range.proofs.LimitLaws.{copied}
use Rattle.nest_loop_ranges.proofs.TermLaws.{copy}

-- what is cut is small
pub cut-copied : (x r : ℤ) → size x ≤ 34359738368 → r ≡ int_max (negsuc 32766) (int_min (copy x) (pos 32767)) → negsuc 32766 ≤ℤ r → r ≤ℤ pos 32767
    → (copy r ≡ cut x) × (size (copy r) ≤ 32767)
unfolding cut max_z min_z
cut-copied x r p e l h =
    let s : size r ≤ 32767 = size_of r 32767 h l in
    let c = copied r (omega arith) in
    let f : r ≡ cut x = rw (copied x p) at e in (c ∙ f, rw c s)
