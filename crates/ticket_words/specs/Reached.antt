-- The words that may be asked for.
use Rattle.std.specs.Prelude.{List, ℕ, ◌-◌, ◌*◌, ◌<◌, ◌≤◌, length}

-- the words before word k are there
pub record Reached (b : List ℕ) (k : ℕ) : Type 0 where
  pub counted : 0 < k
  pub there : (k - 1) * 2 ≤ length b
