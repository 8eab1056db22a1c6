-- Subscripts that stay within their extents over the ranges of the loops, and what the functions that test them ask.
use Rattle.std.specs.Prelude.{List, ℕ, ◌+◌, ◌*◌, ◌≤◌, ◌<◌, ℤ, pos, ◌+ℤ◌, ◌≤ℤ◌, ◌<ℤ◌, length, get_or}
use Rattle.integers.specs.Affine.{Within}
use Rattle.model.specs.Ticket.{Subscript}
use Rattle.model.specs.Quick as Model
use Rattle.model.specs.Quick.{least_sum, greatest_sum}
use Rattle.model.specs.Grammar.{array_room, most_extent}
use Rattle.nest_flat.specs.Layout.{form_at, AccessesOk}
use Rattle.nest_loop_ranges.specs.declared.Range.{Range}
use Rattle.nest_loop_ranges.specs.Ranges.{RangesIn}

-- from 0 to extent − 1, whatever the indices are in their ranges
pub record Enclosed (rs : List Model.Range) (extent : ℕ) (s : Subscript) : Type 0 where
  pub low : pos 0 ≤ℤ (s.constant +ℤ least_sum s.coefficients rs)
  pub high : (s.constant +ℤ greatest_sum s.coefficients rs) <ℤ pos extent

-- the first m subscripts of access k of all, then every subscript of the first m accesses
abbrev pub FirstEnclosed : List Model.Range → List ℤ → List ℕ → List ℕ → ℕ → ℕ → ℕ → Type 0
FirstEnclosed rs w o a n k m = (d : ℕ) → d < m → Enclosed rs (get_or a (get_or o k 0 * array_room + 1 + d) 0) (form_at w n (k * 3 + d))

abbrev pub AllEnclosed : List Model.Range → List ℤ → List ℕ → List ℕ → ℕ → ℕ → Type 0
AllEnclosed rs w o a n m = (k : ℕ) → k < m → FirstEnclosed rs w o a n k (get_or a (get_or o k 0 * array_room) 0)

-- subscript j of all, in a nest of n loops
pub record SubscriptIn (w : List ℤ) (j n extent : ℕ) (b : List Range) : Type 0 where
  pub small : Within 32767 w
  pub inside : j * 8 + 8 ≤ length w
  pub extents : extent ≤ most_extent
  pub ranges : RangesIn n b

pub record AccessesIn (w : List ℤ) (o a : List ℕ) (n : ℕ) (b : List Range) : Type 0 where
  pub accesses : AccessesOk w o a n
  pub ranges : RangesIn n b
