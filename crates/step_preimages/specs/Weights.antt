-- The weight of a digit of a number: a power of three.
use Rattle.std.specs.Prelude.{◌≡◌, ℕ, ◌^◌, ◌≤◌, ◌<◌}
use Rattle.model.specs.Directions.{vector_count}

-- w is the weight of a digit that has `inside` digits after it, at most so many
pub record ChangeIn (n w most : ℕ) : Type 0 where
  pub below : n < vector_count
  pub inside : ℕ
  pub outermost : inside ≤ most
  pub weighs : w ≡ 3 ^ inside
