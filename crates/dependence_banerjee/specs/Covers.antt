-- The marks of a pair of accesses that have every vector it can have.
use Rattle.std.specs.Prelude.{◌≡◌, Bool, true, false, cond, ◌⊎◌, List, map, ℕ, ◌+◌, ◌*◌, ◌-◌, ◌/◌, ◌≤◌, ℤ, length, get_or}
use Rattle.integers.specs.Affine.{Within}
use Rattle.model.specs.Bounds.{subscript_at}
use Rattle.model.specs.Directions.{signs, earlier, vector_count}
use Rattle.model.specs.Grammar.{access_room}
use Rattle.model.specs.Quick.{InRanges}
use Rattle.nest_flat.specs.Layout.{forms_from}
use Rattle.nest_loop_ranges.specs.declared.Range.{Range}
use Rattle.nest_loop_ranges.specs.Ranges.{ranges_of, RangesIn}
use Rattle.dependence_vectors.specs.Numbers.{number}
use Rattle.dependence_vectors.specs.Candidates.{stride}

-- of accesses a and b of an array with d dimensions, at two iterations of n loops that meet in one element, the source earlier, or at one
-- iteration if `own`: the vector's mark is set among the vector_count from place base on
abbrev pub Covers : List ℤ → ℕ → ℕ → ℕ → ℕ → List Range → Bool → ℕ → List Bool → Type 0
Covers w a b d n ranges own base m =
    (p q : List ℤ) → InRanges (ranges_of n ranges) p → InRanges (ranges_of n ranges) q
    → (earlier p q ≡ true) ⊎ ((own ≡ true) × (p ≡ q))
    → map (subscript_at p) (forms_from w n (a * 3) d) ≡ map (subscript_at q) (forms_from w n (b * 3) d)
    → get_or m (base + number (signs p q)) false ≡ true

-- the vectors of n loops before that of = alone, and that one if `own`
unfoldable pub candidates : ℕ → Bool → ℕ
candidates n own = cond own ((vector_count / stride (6 - n) - 1) / 2 + 1) ((vector_count / stride (6 - n) - 1) / 2)

-- two accesses among the words, and vector_count marks
pub record CoverIn (w : List ℤ) (a b d n : ℕ) (r : List Range) (base : ℕ) (m : List Bool) : Type 0 where
  pub small : Within 32767 w
  pub source : a * access_room + d * 8 ≤ length w
  pub sink : b * access_room + d * 8 ≤ length w
  pub dimensions : d ≤ 3
  pub ranges : RangesIn n r
  pub marks : base + vector_count ≤ length m
