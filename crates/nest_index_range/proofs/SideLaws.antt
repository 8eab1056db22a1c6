-- The limits of one side of a loop, the last one first: the first index is the largest of what the lower ones allow, the last index the
-- smallest of what the upper ones do.
use mathlib.Core.Path.{◌≡◌, sym, ◌∙◌}
use mathlib.Core.Bool.{Bool, true, false, cond}
use mathlib.Core.List.{List, map}
use Prim.Native.Nat.{ℕ, ◌+◌, ◌*◌, ◌-◌, ◌≤◌, ◌<◌}
use native.Mathlib.Omega.{arith}
use lib.IntN.{ℤ}
use lib.Signed.{lt_z}
use lib.ListN.{length, get_or}
use mir.Syntax.{w64}
use mir.Val.{to_z, of_z}
use Rattle.model.specs.Points.{max_z, min_z}
use Rattle.model.specs.Ticket.{Limit}
use Rattle.nest_flat.specs.Flat.{limit_at, limits_at}
use Rattle.nest_index_range.specs.Ranges.{Narrow, allowed, end, DivisorIn, SideIn, EndIn}
use Rattle.nest_index_range.proofs.LimitLaws.{copied}
use Rattle.nest_index_range.specs.declared.Side.{Side}
use Rattle.nest_index_range.specs.declared.Side.TheVariants.{Lower, Upper}
use Rattle.nest_index_range.specs.Sides.{place, tighter, tightest}
use Rattle.nest_index_range.proofs.Sides.{one-limit, more-limits}

-- ---- the tighter of two

tighter-narrow : (d : Side) (x y : ℤ) → Narrow x → Narrow y → Narrow (tighter d x y)
unfolding max_z min_z
tighter-narrow Lower x y h g = go (lt_z y x)
  where
    go : (b : Bool) → Narrow (cond b x y)
    go true = h
    go false = g
tighter-narrow Upper x y h g = go (lt_z x y)
  where
    go : (b : Bool) → Narrow (cond b x y)
    go true = h
    go false = g

-- as the machine copies the first and the one that counts
pub tighter-copied : (d : Side) (x y : ℤ) {r : ℤ} → Narrow x → Narrow y → r ≡ tighter d (to_z w64 (of_z w64 x)) y
    → (to_z w64 (of_z w64 r) ≡ tighter d x y) × Narrow (to_z w64 (of_z w64 r))
tighter-copied d x y {r} h g e =
    let f : r ≡ tighter d x y = rw (copied x h) at e in
    let k : Narrow r = rw f (tighter-narrow d x y h g) in
    let c = copied r k in (c ∙ f, rw c k)

-- ---- limit by limit

pub divisor-at : {s : List ℤ} {j n : ℕ} {outer : List ℤ} → SideIn s j n outer → (i : ℕ) → i < n → DivisorIn s (j + i) outer
divisor-at p i h = let v = p.inside in
    record { limit = record { words = p.words; small = p.small; inside = omega arith; outside = p.outside }; positive = p.positive i h }

-- where the code finds a side
pub side-of : {d : Side} {s : List ℤ} {c : List ℕ} {outer : List ℤ} {p : ℕ} → EndIn d s c outer → p ≡ place d (length outer) → SideIn s (p * 16) (get_or c p 0) outer
side-of h e = rw e h.side

module _ (d : Side) (f : Limit → ℤ) (s : List ℤ) (k j n : ℕ) where
  pub side-last : 1 ≤ n → f (limit_at s k (j + (n - 1))) ≡ tightest d (map f (limits_at s k (j + (n - 1)) (n - (n - 1))))
  side-last h = sym (one-limit d f s k (j + (n - 1)) (n - (n - 1)) (omega arith))

  pub side_before : (i : ℕ) → 1 ≤ i → i < n → (r x : ℤ) → r ≡ tightest d (map f (limits_at s k (j + i) (n - i))) → x ≡ f (limit_at s k (j + (i - 1)))
      → tighter d x r ≡ tightest d (map f (limits_at s k (j + (i - 1)) (n - (i - 1))))
  side_before i h l r x e g = rw (e, g)
      (sym (more-limits d f s k (j + (i - 1)) (j + i) (n - (i - 1)) (n - i) (omega arith) (omega arith) (omega arith)))

  pub side-all : (i : ℕ) → i ≡ 0 → (r : ℤ) → r ≡ tightest d (map f (limits_at s k (j + i) (n - i))) → r ≡ tightest d (map f (limits_at s k j n))
  side-all i z r e = let a : j + i ≡ j = omega arith in let b : n - i ≡ n = omega arith in e ∙ rw (a, b)

-- of all limits, where the code finds the side
pub end-of : (d : Side) (s : List ℤ) (c : List ℕ) (outer : List ℤ) {p : ℕ} {r : ℤ} → p ≡ place d (length outer)
    → r ≡ tightest d (map (allowed d outer) (limits_at s (length outer) (p * 16) (get_or c p 0))) → r ≡ end d s c outer
unfolding end
end-of d s c outer e f = rw e at f
