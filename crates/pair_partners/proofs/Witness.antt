-- What is asked can be met: of one point, at which one access writes the one element that there is.
use mathlib.Core.Path.{◌≡◌, refl}
use mathlib.Core.Bool.{Bool, true, false}
use mathlib.Core.List.{List, [], ◌∷◌}
use Prim.Native.Nat.{ℕ, zero, suc, ◌<◌}
use native.Mathlib.Omega.{arith}
use lib.IntN.{pos}
use Rattle.dependence_pair_search.specs.Search.{some}
use Rattle.pair_partners.specs.Chains.{number_at, names, Numbered, LinkedAt, Links}
use Rattle.pair_partners.specs.Partners.{ChainsAt, RowsOf}
use Rattle.pair_partners.proofs.ChainLaws.{first-end}

abbrev ids : List ℕ
ids = 0 ∷ []

abbrev writes : List Bool
writes = true ∷ []

abbrev links : List ℕ
links = 1 ∷ []

pub numbered : Numbered ids 1 1 1
numbered = record { few-points = omega arith; few-accesses = omega arith; few-elements = omega arith; room = omega arith; below = below }
  where
    below : (k x : ℕ) → k < 1 → x < 1 → number_at ids 1 k x < 1
    below zero zero h g = omega arith
    below zero (suc x) h g = absurd (omega arith)
    below (suc k) x h g = absurd (omega arith)

pub linked : Links ids writes 1 1 links links
linked = record {
  few-points = omega arith;
  few-accesses = omega arith;
  numbers = omega arith;
  writes = omega arith;
  named-room = omega arith;
  written-room = omega arith;
  to_named = λ y a b. at true y b;
  to-written = λ y a b. at false y b;
}
  where
    at : (all : Bool) (y : ℕ) → y < 1 → LinkedAt ids writes 1 1 all links y
    at all zero h zero g = first-end (names ids writes 1 1 all (number_at ids 1 0 0)) 1
    at all zero h (suc k) g = absurd (omega arith)
    at all (suc y) h k g = absurd (omega arith)

pub rows_of : RowsOf 1 1 (pos 0 ∷ [])
rows_of = record { shallow = omega arith; few = omega arith; stored = omega arith }

-- an access names the element
pub named-there : (k : ℕ) × (k < 1) × (number_at ids 1 k 0 ≡ 0)
named-there = (0, omega arith, refl)

-- the chain of the access has come to the point itself
pub chains-at : ChainsAt ids writes 1 1 0 0 (0 ∷ [])
unfolding names some
chains-at zero h = record {
  after = omega arith;
  inside = omega arith;
  passed = λ y a b. absurd (omega arith);
  there = λ _. refl;
}
chains-at (suc k) h = absurd (omega arith)
