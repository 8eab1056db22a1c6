-- One turn of a walk over a nest: the first k indices of a point, the point moved to the next index, and what stays near.
use mathlib.Core.Path.{◌≡◌, refl, sym, ◌∙◌, ap, ap₂, subst}
use mathlib.Core.List.{List, [], ◌∷◌, ◌++◌}
use Prim.Native.Nat.{ℕ, ◌+◌, ◌-◌, ◌≤◌, ◌<◌}
use native.Mathlib.Omega.{arith}
use native.Mathlib.Nat.{le_refl}
use native.Mathlib.Numerals.{add-one}
use lib.IntN.{ℤ, pos, ◌+ℤ◌, ◌-ℤ◌}
use lib.ListN.{length, take, set, length-set}
use lib.Seq.{take-set-le, take-suc-set, take-take}
use mir.Syntax.{w64}
use mir.Val.{SFits, to_z, of_z}
use Rattle.lists.specs.Membership.{Mem}
use Rattle.integers.specs.Difference.{size}
use Rattle.integers.specs.Affine.{Within}
use Rattle.integers.proofs.RangeLaws.{back, from-nat, size-add, size_fits}
use Rattle.model.specs.Ticket.{Loop}
use Rattle.model.specs.Points.{span}
use Rattle.nest_flat.specs.Flat.{loop_at, loops_from}
use Rattle.nest_index_range.specs.Ranges.{Narrow, Ranged}
use Rattle.nest_points.specs.Tallies.{Near}
use Rattle.nest_index_range.proofs.LimitLaws.{copied}
use Rattle.nest_points.proofs.ThroughLaws.{indices-are, loops-step}
use Rattle.nest_points.proofs.EndLaws.{mem-ints}

pub within-snoc : (n : ℕ) (l : List ℤ) (i : ℤ) → Within n l → size i ≤ n → Within n (l ++ (i ∷ []))
within-snoc n [] i w h = (h, tt)
within-snoc n (x ∷ l) i w h = (w.0, within-snoc n l i w.1 h)

-- ---- the next index

module _ (lo : ℤ) (t : ℕ) (h : Narrow lo) (g : t ≤ 68719476737) where
  index_is : to_z w64 (of_z w64 lo) +ℤ to_z w64 t ≡ lo +ℤ pos t
  index_is = ap₂ ◌+ℤ◌ (copied lo h) (from-nat (omega arith))

  pub index-fits : SFits w64 (to_z w64 (of_z w64 lo) +ℤ to_z w64 t)
  index-fits = rw index_is (size_fits {n = 103079215105} (omega (arith, size-add lo (pos t))) (omega arith))

  pub index-set : (point : List ℤ) (k : ℕ) → set point k (to_z w64 (of_z w64 (to_z w64 (of_z w64 lo) +ℤ to_z w64 t))) ≡ set point k (lo +ℤ pos t)
  index-set point k = ap (set point k) (back index-fits ∙ index_is)

-- ---- index k of a point is set, after the k indices outside

module _ (k : ℕ) (point : List ℤ) (i : ℤ) {outer q : List ℤ} (kept : take k point ≡ outer) (moved : q ≡ set point k i) where
  pub take-moved : k < length point → take (k + 1) q ≡ outer ++ (i ∷ [])
  take-moved h = ap (take (k + 1)) moved ∙ rw (add-one k) (take-suc-set point k i h) ∙ ap (λ (l : List ℤ). l ++ (i ∷ [])) kept

  pub length_moved : length q ≡ length point
  length_moved = ap length moved ∙ length-set point k i

  -- what keeps index k too keeps those outside
  pub still_kept : (e : List ℤ) → take (k + 1) e ≡ take (k + 1) q → take k e ≡ outer
  still_kept e h = sym (take-take k (k + 1) e (omega arith)) ∙ ap (take k) h ∙ take-take k (k + 1) q (omega arith) ∙ ap (take k) moved
      ∙ take-set-le k point k i (le_refl k) ∙ kept

-- ---- what stays near

module _ (m : ℕ) (s : List ℤ) (c : List ℕ) (k left : ℕ) (outer : List ℤ) (lo hi : ℤ) (n t : ℕ) where
  pub near_step : 1 ≤ left → Ranged (loop_at s c k) outer lo hi → n ≡ span (hi -ℤ lo) → t < n → Near m (loops_from s c k left) outer
      → (size (lo +ℤ pos t) ≤ m) × Near m (loops_from s c (k + 1) (left - 1)) (outer ++ ((lo +ℤ pos t) ∷ []))
  near_step some r e h near =
      subst (λ (N : List Loop). Near m N outer) (loops-step s c k left some) near (lo +ℤ pos t)
      (subst (Mem (lo +ℤ pos t)) (sym (indices-are (loop_at s c k) outer lo hi n r e)) (mem-ints lo n t (lo +ℤ pos t) h refl))
