-- Some numbers of vectors, and for each precondition a value that meets it.
use mathlib.Core.Path.{◌≡◌, refl}
use mathlib.Core.Bool.{false}
use mathlib.Core.List.{[], ◌∷◌}
use Prim.Native.Nat.{◌+◌, ◌*◌}
use native.Mathlib.Omega.{arith}
use lib.IntN.{pos}
use lib.ListN.{replicate, length-replicate}
use Rattle.integers.specs.Sign.{less, equal, greater}
use Rattle.model.specs.Ticket.{skew}
use Rattle.model.specs.Directions.{vector_count}
use Rattle.step_kinds.specs.declared.Step.TheVariants.{Exchange, Skew, Section}
use Rattle.dependence_vectors.specs.Numbers.{digit, digits_in, base3, number}
use Rattle.step_preimages.specs.Numbers.{Digits}
use Rattle.step_directions.specs.Sets.{DirectionIn, MarksIn}
use Rattle.step_preimages.specs.Weights.{ChangeIn}
use Rattle.step_preimages.specs.Sources.{SourceIn, JoinedIn, SkewSourceIn, GaveIn}
use Rattle.step_directions.specs.Preimages.{ComesIn}
use Rattle.step_directions.specs.declared.DirectionSet.{DirectionSet}
use Rattle.step_preimages.proofs.NumberLaws.{vector-digits}

-- ---- numbers

first-number : number (less ∷ less ∷ less ∷ less ∷ less ∷ less ∷ []) ≡ 0
unfolding number base3 digits_in digit
first-number = refl

last-number : number (greater ∷ greater ∷ greater ∷ greater ∷ greater ∷ greater ∷ []) ≡ 728
unfolding number base3 digits_in digit
last-number = refl

-- missing loops count as =
level-number : number (equal ∷ equal ∷ []) ≡ 364
unfolding number base3 digits_in digit
level-number = refl

-- (<,>) of two loops: 0, 2, 1, 1, 1, 1
two-number : number (less ∷ greater ∷ []) ≡ 2 * 81 + 27 + 9 + 3 + 1
unfolding number base3 digits_in digit
two-number = refl

-- ---- preconditions that are met

-- the set of no vectors of two loops
pair : DirectionSet
pair = record { marks = replicate vector_count false; depth = 2 }

exchange-met : DirectionIn pair (Exchange (record { outer = 0 }))
unfolding pair
exchange-met = record { few = omega arith; there = omega arith }

skew-met : DirectionIn pair (Skew (record { outer = 0; distance = 0; factor = pos 1 }))
unfolding pair
skew-met = record { few = omega arith; there = (omega arith, record { low = omega arith; high = omega arith }) }

section-met : DirectionIn pair (Section (record { target = 1; width = 2 }))
unfolding pair
section-met = record { few = omega arith; there = (omega arith, omega arith, record { low = omega arith; high = omega arith }) }

marks-met : MarksIn (replicate vector_count false) 2
marks-met = record { room = length-replicate vector_count false; few = omega arith }

change-met : ChangeIn 728 81 4
change-met = record { below = omega arith; inside = 4; outermost = omega arith; weighs = refl }

digits-met : Digits (digits_in 6 (less ∷ []))
digits-met = vector-digits (less ∷ [])

source-met : SourceIn 728 6
source-met = record { below = omega arith; few = omega arith }

joined-met : JoinedIn 4 4
joined-met = record { joint = omega arith; place = omega arith }

skew_source-met : SkewSourceIn 0 5 728
skew_source-met = record { below = omega arith; outer = omega arith; few = omega arith }

gave-met : GaveIn (digits_in 6 (less ∷ [])) 5 2 2
gave-met = record { digits = digits-met; inside = omega arith; added = omega arith; replaced = omega arith }

comes-met : ComesIn (skew 0 4 (pos 1)) 728
comes-met = record { below = omega arith; few = omega arith }
