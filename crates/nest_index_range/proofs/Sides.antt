-- What holds of both sides of a loop.
use mathlib.Core.Path.{◌≡◌, sym, ◌∙◌, ap}
use mathlib.Core.List.{List, map}
use Prim.Native.Nat.{ℕ, zero, suc, ◌≤◌}
use native.Mathlib.Omega.{arith}
use lib.IntN.{ℤ}
use Rattle.integers.specs.Difference.{size}
use Rattle.integers.proofs.DivisionLaws.{size-ceil, size-floor}
use Rattle.model.specs.Ticket.{Limit}
use Rattle.model.specs.Points.{max_z, min_z, largest, smallest}
use Rattle.nest_flat.specs.Flat.{limit_at, limits_at}
use Rattle.nest_index_range.specs.declared.Side.{Side}
use Rattle.nest_index_range.specs.declared.Side.TheVariants.{Lower, Upper}
use Rattle.nest_index_range.specs.Sides.{rounded, tighter, tightest}

pub rounded-size : (d : Side) (z m : ℤ) → size (rounded d z m) ≤ size z
rounded-size Lower = size-ceil
rounded-size Upper = size-floor

-- f is asked of n limits from limit j on
pub one-limit : (d : Side) (f : Limit → ℤ) (s : List ℤ) (k j n : ℕ) → n ≡ 1 → tightest d (map f (limits_at s k j n)) ≡ f (limit_at s k j)
unfolding limits_at largest smallest
one-limit Lower f s k j n e = rw e
one-limit Upper f s k j n e = rw e

pub more-limits : (d : Side) (f : Limit → ℤ) (s : List ℤ) (k j i n m : ℕ) → n ≡ suc m → 1 ≤ m → i ≡ suc j
    → tightest d (map f (limits_at s k j n)) ≡ tighter d (f (limit_at s k j)) (tightest d (map f (limits_at s k i m)))
unfolding limits_at largest smallest
more-limits d f s k j i n zero e h g = absurd (omega arith)
more-limits Lower f s k j i n (suc m) e h g = ap (λ x. largest (map f (limits_at s k j x))) e
    ∙ ap (λ x. max_z (f (limit_at s k j)) (largest (map f (limits_at s k x (suc m))))) (sym g)
more-limits Upper f s k j i n (suc m) e h g = ap (λ x. smallest (map f (limits_at s k j x))) e
    ∙ ap (λ x. min_z (f (limit_at s k j)) (smallest (map f (limits_at s k x (suc m))))) (sym g)
