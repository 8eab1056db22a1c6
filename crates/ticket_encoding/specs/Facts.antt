-- That all numbers of a list are within a bound is a fact: there is one proof of it at most.
use Rattle.std.specs.Prelude.{ℕ, ℤ, List, [], ◌∷◌}
use Rattle.std.proofs.Props.{props}
use Rattle.integers.specs.Affine.{Within}

pub within-prop : (n : ℕ) (l : List ℤ) → IsProp (Within n l)
within-prop n [] = hlevel
within-prop n (x ∷ l) = hlevel (props, within-prop n l)
