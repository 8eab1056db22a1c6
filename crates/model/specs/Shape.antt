-- What the grammar gives of an accepted ticket and the theorems ask: sizes of lists, positive multipliers and widths.
use Rattle.std.specs.Prelude.{◌≡◌, List, [], ◌∷◌, ℕ, suc, ◌<◌, length}
use Rattle.lists.specs.Membership.{All}
use Rattle.model.specs.Ticket.{Limit, Loop, Subscript, Access, Statement, Step, exchange, reversal, skew, section, circulation, Nest}
use Rattle.model.specs.Grammar.{extents}

-- every limit has a coefficient for each of the n loops outside
abbrev pub Sized : ℕ → List Limit → Type 0
Sized n ls = All (λ (l : Limit). length l.coefficients ≡ n) ls

-- the loops N stand inside n others
abbrev pub Shaped : ℕ → List Loop → Type 0
Shaped n [] = Unit {0}
Shaped n (L ∷ N) = (Sized n L.lower × Sized n L.upper) × Shaped (suc n) N

-- a loop that can be run: limits on both sides, with positive multipliers
pub record Runs (L : Loop) : Type 0 where
  pub some-lower : L.lower ≡ [] → ⊥
  pub some_upper : L.upper ≡ [] → ⊥
  pub positive-lower : All (λ (l : Limit). 0 < l.multiplier) L.lower
  pub positive-upper : All (λ (l : Limit). 0 < l.multiplier) L.upper

-- every access names an array that is there, with as many subscripts as dimensions and a coefficient for each of the n loops
pub record Fits (as' : List (List ℕ)) (n : ℕ) (a : Access) : Type 0 where
  pub there : a.array < length as'
  pub dimensions : length a.subscripts ≡ length (extents as' a.array)
  pub wide : All (λ (s : Subscript). length s.coefficients ≡ n) a.subscripts

pub record FitsAll (as' : List (List ℕ)) (n : ℕ) (s : Statement) : Type 0 where
  pub writes : All (Fits as' n) s.writes
  pub reads : All (Fits as' n) s.reads

abbrev pub Proper : Step → Type 0
Proper (exchange a) = Unit {0}
Proper (reversal a) = Unit {0}
Proper (skew a d c) = Unit {0}
Proper (section a w) = 0 < w
Proper (circulation a b) = Unit {0}

pub record WellFormed (N : Nest) : Type 0 where
  pub shaped : Shaped 0 N.loops
  pub runs : All Runs N.loops
  pub fits : All (FitsAll N.arrays (length N.loops)) N.statements
