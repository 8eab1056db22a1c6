-- The least value, which the lower limits of a loop ask for, and the greatest, which the upper ones do: of an index, of a term, of a sum.
-- What is said of a side here is said of both.
use Rattle.std.specs.Prelude.{List, ℤ}
use Rattle.model.specs.Quick.{Range, least_term, greatest_term, least_sum, greatest_sum}
use Rattle.nest_index_range.specs.declared.Side.{Side}
use Rattle.nest_index_range.specs.declared.Side.TheVariants.{Lower, Upper}

-- the index that a coefficient above 0 asks for; another asks for that of the other side
abbrev pub end_of : Side → Range → ℤ
end_of Lower r = r.least
end_of Upper r = r.greatest

abbrev pub extreme_term : Side → ℤ → Range → ℤ
extreme_term Lower = least_term
extreme_term Upper = greatest_term

abbrev pub extreme_sum : Side → List ℤ → List Range → ℤ
extreme_sum Lower = least_sum
extreme_sum Upper = greatest_sum
