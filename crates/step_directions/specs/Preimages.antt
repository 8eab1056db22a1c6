-- What a vector after a step comes from.
use Rattle.std.specs.Prelude.{◌≡◌, Bool, List, ℕ, ◌+◌, ◌-◌, ◌≤◌, ◌<◌, pos, length}
use Rattle.std.specs.Int.Signed.{lt_z}
use Rattle.integers.specs.Sign.{Sign, turned}
use Rattle.lists.specs.Place.{under, on_head, swapped, swap_all}
use Rattle.model.specs.Ticket.{Step, exchange, reversal, skew, section, circulation}
use Rattle.model.specs.Directions.{vector_count}
use Rattle.model.specs.Grammar.{most_loops}
use Rattle.model.specs.Steps.{chain}
use Rattle.dependence_vectors.specs.Numbers.{number}
use Rattle.step_preimages.specs.Numbers.{marked}
use Rattle.step_preimages.specs.Sources.{joined, skew_source}

-- the loops that the nest after the step has at least
abbrev pub loops_named : Step → ℕ
loops_named (exchange a) = a + 2
loops_named (reversal a) = a + 1
loops_named (skew a d c) = a + 1 + d + 1
loops_named (section a w) = a + 2
loops_named (circulation a b) = a + (b - a) + 1

-- the vector comes from a marked one
abbrev pub came : List Bool → Step → List Sign → Bool
came old (exchange a) v = marked old (under a swapped v)
came old (reversal a) v = marked old (under a (on_head turned) v)
came old (skew a d c) v = skew_source old a (a + 1 + d) (lt_z (pos 0) c) v
came old (section a w) v = marked old (under a joined v)
came old (circulation a b) v = marked old (swap_all (chain b a) v)

pub record ComesIn (t : Step) (n : ℕ) : Type 0 where
  pub below : n < vector_count
  pub few : loops_named t ≤ most_loops

-- r says so of a vector with number n
abbrev pub Comes : List Bool → Step → ℕ → Bool → Type 0
Comes old t n r = (v : List Sign) → loops_named t ≤ length v → length v ≤ most_loops → number v ≡ n → r ≡ came old t v
