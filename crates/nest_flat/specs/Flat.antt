-- A nest as flat slices, and the model's loops that it stands for.
-- Words: for each loop room for 16 lower limits (most_limits) of 8 words each (row_room), then for 16 upper ones. A limit's words are its
-- multiplier, its constant and its coefficients, one for each loop outside. Counts: two for each loop, of its lower and of its upper limits.
-- Words beyond a count say nothing.
use Rattle.std.specs.Prelude.{◌≡◌, List, [], ◌∷◌, ℕ, zero, suc, ◌+◌, ◌*◌, ◌≤◌, ◌<◌, ℤ, pos, nat_abs, ◌<ℤ◌, length, get_or, take, drop}
use Rattle.integers.specs.Affine.{Within}
use Rattle.model.specs.Ticket.{Limit, Loop}
use Rattle.model.specs.Grammar.{most_sides, nest_room, most_limits, most_loops}

-- limit j of the nest, of a loop with k loops outside
unfoldable pub limit_at : List ℤ → ℕ → ℕ → Limit
limit_at s k j = record {
  multiplier = nat_abs (get_or s (j * 8) (pos 0));
  constant = get_or s (j * 8 + 1) (pos 0);
  coefficients = take k
      (drop (j * 8 + 2) s);
}

-- n limits from limit j on
unfoldable pub limits_at : List ℤ → ℕ → ℕ → ℕ → List Limit
limits_at s k j zero = []
limits_at s k j (suc n) = limit_at s k j ∷ limits_at s k (suc j) n

unfoldable pub loop_at : List ℤ → List ℕ → ℕ → Loop
loop_at s c k = record { lower = limits_at s k (k * 32) (get_or c (k * 2) 0); upper = limits_at s k (k * 32 + 16) (get_or c (k * 2 + 1) 0) }

-- n loops from loop k on
unfoldable pub loops_from : List ℤ → List ℕ → ℕ → ℕ → List Loop
loops_from s c k zero = []
loops_from s c k (suc n) = loop_at s c k ∷ loops_from s c (suc k) n

-- n limits from limit j on can be divided by
abbrev pub Positive : List ℤ → ℕ → ℕ → Type 0
Positive s j n = (i : ℕ) → i < n → pos 0 <ℤ get_or s ((j + i) * 8) (pos 0)

-- what every nest has that was judged, before or after its steps
pub record NestOk (s : List ℤ) (c : List ℕ) (depth : ℕ) : Type 0 where
  pub words : length s ≡ nest_room
  pub counts : length c ≡ most_sides
  pub shallow : depth ≤ most_loops
  pub small : Within 32767 s
  pub lower-count : (k : ℕ) → k < depth → (1 ≤ get_or c (k * 2) 0) × (get_or c (k * 2) 0 ≤ most_limits)
  pub upper-count : (k : ℕ) → k < depth → (1 ≤ get_or c (k * 2 + 1) 0) × (get_or c (k * 2 + 1) 0 ≤ most_limits)
  pub lower-positive : (k : ℕ) → k < depth → Positive s (k * 32) (get_or c (k * 2) 0)
  pub upper-positive : (k : ℕ) → k < depth → Positive s (k * 32 + 16) (get_or c (k * 2 + 1) 0)
