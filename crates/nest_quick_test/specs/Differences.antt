-- The difference of two subscripts over two free iterations: what the functions ask.
use Rattle.std.specs.Prelude.{List, [], ◌∷◌, ◌++◌, ℕ, ◌+◌, ◌*◌, ◌≤◌, ℤ, nat_abs, ◌+ℤ◌, length}
use Rattle.integers.specs.Gcd.{gcd}
use Rattle.integers.specs.Affine.{Within}
use Rattle.model.specs.Ticket.{Subscript}
use Rattle.model.specs.Quick as Model
use Rattle.model.specs.Quick.{difference}
use Rattle.model.specs.Grammar.{most_loops}
use Rattle.nest_flat.specs.Layout.{form_at}
use Rattle.nest_index_range.specs.declared.Side.{Side}
use Rattle.nest_loop_ranges.specs.declared.Range.{Range}
use Rattle.nest_loop_ranges.specs.Ranges.{RangesIn}
use Rattle.nest_loop_ranges.specs.Extremes.{extreme_sum}

-- the greatest common divisor of g and the absolute values of a list
unfoldable pub gcd_onto : List ℤ → ℕ → ℕ
gcd_onto [] g = g
gcd_onto (a ∷ rest) g = gcd (nat_abs a) (gcd_onto rest g)

-- subscript u less subscript v, of all
unfoldable pub difference_at : List ℤ → ℕ → ℕ → ℕ → Subscript
difference_at w n u v = difference (form_at w n u) (form_at w n v)

-- the least and the greatest that it can be, over two free iterations
unfoldable pub extreme_difference : Side → List ℤ → ℕ → ℕ → ℕ → List Model.Range → ℤ
extreme_difference d w u v n rs = (difference_at w n u v).constant +ℤ extreme_sum d (difference_at w n u v).coefficients (rs ++ rs)

-- n words from place at on
pub record WordsIn (w : List ℤ) (at n : ℕ) : Type 0 where
  pub small : Within 32767 w
  pub inside : at + n ≤ length w

-- subscript j of all, in a nest of n loops
pub record FormIn (w : List ℤ) (j n : ℕ) : Type 0 where
  pub small : Within 32767 w
  pub inside : j * 8 + 8 ≤ length w
  pub few : n ≤ most_loops

pub record PairIn (w : List ℤ) (u v n : ℕ) : Type 0 where
  pub first : FormIn w u n
  pub second : FormIn w v n

pub record DifferenceIn (w : List ℤ) (u v n : ℕ) (b : List Range) : Type 0 where
  pub pair : PairIn w u v n
  pub ranges : RangesIn n b

-- d subscripts from subscript u on, and as many from v on
pub record FormsIn (w : List ℤ) (u v d n : ℕ) (b : List Range) : Type 0 where
  pub small : Within 32767 w
  pub first : (u + d) * 8 ≤ length w
  pub second : (v + d) * 8 ≤ length w
  pub ranges : RangesIn n b
