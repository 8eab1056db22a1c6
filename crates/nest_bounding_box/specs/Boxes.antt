-- The box that the ranges of the loops make: how many points it has, and when it shows that a nest passes refusal 13.
use Rattle.std.specs.Prelude.{List, [], ◌∷◌, ℕ, ◌*◌, ◌≤◌, pos, negsuc, ◌-ℤ◌, ◌<ℤ◌, take}
use Rattle.lists.specs.Membership.{All}
use Rattle.model.specs.Points.{span}
use Rattle.model.specs.Quick.{Range}

-- the number of indices in a range
unfoldable pub width : Range → ℕ
width r = span (r.greatest -ℤ r.least)

-- the number of points in a box
unfoldable pub volume : List Range → ℕ
volume [] = 1
volume (r ∷ rs) = width r * volume rs

-- strictly inside ±32767: every index that the limits allow over the ranges outside is in it
pub record Unclamped (r : Range) : Type 0 where
  pub low : negsuc 32766 <ℤ r.least
  pub high : r.greatest <ℤ pos 32767

-- no range is cut, and at no depth has the box more points than refusal 13 allows
pub record Compact (rs : List Range) : Type 0 where
  pub unclamped : All Unclamped rs
  pub few : (k : ℕ) → volume (take k rs) ≤ 65536
