-- What it means that indices are within the limits, loop by loop: the propositions that theorems about `points` speak of.
use Rattle.std.specs.Prelude.{List, [], ◌∷◌, ◌++◌, T, ℤ, pos, ◌*ℤ◌, ◌≤ℤ◌}
use Rattle.lists.specs.Membership.{All}
use Rattle.model.specs.Ticket.{Limit, Loop}
use Rattle.model.specs.Points.{value}
use Rattle.model.specs.Directions.{earlier}

-- a lower limit says p × index ≥ e, an upper one p × index ≤ e
abbrev pub AtLeast : List ℤ → ℤ → Limit → Type 0
AtLeast outer i l = value l outer ≤ℤ (pos l.multiplier *ℤ i)

abbrev pub AtMost : List ℤ → ℤ → Limit → Type 0
AtMost outer i l = (pos l.multiplier *ℤ i) ≤ℤ value l outer

pub record InLimits (L : Loop) (outer : List ℤ) (i : ℤ) : Type 0 where
  pub low : All (AtLeast outer i) L.lower
  pub high : All (AtMost outer i) L.upper

-- the indices y go on from those outside, each within the limits of its loop
abbrev pub Inside : List Loop → List ℤ → List ℤ → Type 0
Inside [] outer [] = Unit {0}
Inside [] outer (i ∷ y) = ⊥
Inside (L ∷ N) outer [] = ⊥
Inside (L ∷ N) outer (i ∷ y) = InLimits L outer i × Inside N (outer ++ (i ∷ [])) y

abbrev pub Earlier : List ℤ → List ℤ → Type 0
Earlier p q = T (earlier p q)
