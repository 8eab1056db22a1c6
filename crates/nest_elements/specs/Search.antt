-- The search for a subscript that leaves its extent.
use Rattle.std.specs.Prelude.{Bool, ◌||◌, List, ℕ, ◌+◌, ◌*◌, ◌≤◌, ℤ, pos, length, Option, Some, None}
use Rattle.std.specs.Int.Signed.{lt_z, le_z}
use Rattle.lists.specs.Tests.{any}
use Rattle.integers.specs.Affine.{Within}
use Rattle.model.specs.Answer.{Answer, accepted, refused}
use Rattle.model.specs.Bounds.{subscript_at}
use Rattle.model.specs.Grammar.{most_extent}
use Rattle.nest_flat.specs.Layout.{form_at}
use Rattle.nest_points.specs.Stored.{RowsIn}

-- not from 0 to extent − 1
unfoldable pub off : ℕ → ℤ → Bool
off extent x = lt_z x (pos 0) || le_z (pos extent) x

pub record ViolationIn (w : List ℤ) (j extent : ℕ) (points : List ℤ) (depth count : ℕ) : Type 0 where
  pub inside : j * 8 + 8 ≤ length w
  pub small : Within 32767 w
  pub extents : extent ≤ most_extent
  pub stored : RowsIn points depth count

-- some point's subscript j leaves its extent
unfoldable pub violates_at : List ℤ → ℕ → ℕ → ℕ → List (List ℤ) → Bool
violates_at w depth j extent ps = any (λ p. off extent (subscript_at p (form_at w depth j))) ps

-- the number of the first statement that leaves an array, if one does
abbrev pub answer_of : Option ℕ → Answer (Unit {0})
answer_of None = accepted tt
answer_of (Some k) = refused 9 k
