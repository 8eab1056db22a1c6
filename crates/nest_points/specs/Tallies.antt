-- What a survey counts: the points that go on from the indices outside, whether one of them is far, and how many there are.
use Rattle.std.specs.Prelude.{◌≡◌, Bool, cond, ◌||◌, List, [], ◌∷◌, ◌++◌, map, ℕ, suc, ◌+◌, ◌-◌, ◌≤◌, ltb, ℤ, pos, neg_ℤ, length, take}
use Rattle.std.specs.Int.Signed.{lt_z}
use Rattle.lists.specs.Membership.{Mem}
use Rattle.lists.specs.Tests.{any}
use Rattle.integers.specs.Difference.{size}
use Rattle.integers.specs.Affine.{Within}
use Rattle.model.specs.Ticket.{Loop}
use Rattle.model.specs.Points.{indices, points}
use Rattle.model.specs.Bounds.{last_of, beyond}
use Rattle.nest_points.specs.declared.Tally.{Tally}
use Rattle.nest_flat.specs.Flat.{NestOk, loops_from}
use Rattle.nest_index_range.specs.Ranges.{RangeIn}

-- the points of the loops N that go on from the indices outside, whole
unfoldable pub through : List Loop → List ℤ → List (List ℤ)
through N outer = map (λ y. outer ++ y) (points N outer)

-- n, or one more than `most`
unfoldable pub capped : ℕ → ℕ → ℕ
capped most n = cond (ltb most n) (suc most) n

-- a range that is not empty reaches beyond ±bound
unfoldable pub outside : ℕ → ℤ → ℤ → Bool
outside bound lo hi = lt_z lo (neg_ℤ (pos bound)) || lt_z (pos bound) hi

-- a tally and the points ps
unfoldable pub seen : ℕ → ℕ → Tally → List (List ℤ) → Tally
seen bound most a ps = record { far = a.far || any (λ p. beyond bound (last_of p)) ps; count = capped most (a.count + length ps) }

-- every index of every partial point of the loops N, beyond the indices outside, is within ±m
abbrev pub Near : ℕ → List Loop → List ℤ → Type 0
Near m [] outer = Unit {0}
Near m (L ∷ N) outer = (i : ℤ) → Mem i (indices L outer) → (size i ≤ m) × Near m N (outer ++ (i ∷ []))

-- bounds that a survey can be asked for: ±32767 and 4096, ±100,000 and 65,536
pub record Bounded (bound most : ℕ) : Type 0 where
  pub near : bound ≤ 100000
  pub few : most ≤ 65536

pub record IncludeIn (s : List ℤ) (c : List ℕ) (outer : List ℤ) (bound most : ℕ) (a : Tally) : Type 0 where
  pub range : RangeIn s c outer
  pub bounds : Bounded bound most
  pub counted : a.count ≤ suc most

-- k indices of the point stand, and `left` loops are to go; the range of the last is not walked
pub record TallyIn (s : List ℤ) (c : List ℕ) (k left : ℕ) (point : List ℤ) (bound most : ℕ) (a : Tally) : Type 0 where
  pub nest : NestOk s c (k + left)
  pub some : 1 ≤ left
  pub small : Within 100000 (take k point)
  pub near : Near bound (loops_from s c k (left - 1)) (take k point)
  pub bounds : Bounded bound most
  pub counted : a.count ≤ suc most

pub record Tallied (s : List ℤ) (c : List ℕ) (k left : ℕ) (point : List ℤ) (bound most : ℕ) (a r : Tally) : Type 0 where
  pub tallied : r ≡ seen bound most a (through (loops_from s c k left) (take k point))
  pub counted : r.count ≤ suc most
