-- Refusals 7 to 9 of a nest in its flat form, and its points.
use Rattle.std.specs.Prelude.{◌≡◌, List, ℕ, ◌*◌, ◌≤◌, ℤ, length, Result, Ok, Err}
use Rattle.model.specs.Answer.{Answer, accepted}
use Rattle.model.specs.Points.{iterations}
use Rattle.model.specs.Bounds.{space, admitted}
use Rattle.model.specs.Shape.{WellFormed}
use Rattle.model.specs.Grammar.{ticket_loops}
use Rattle.ticket_refusals.specs.Refusals.{refusal}
use Rattle.ticket_refusals.specs.declared.Refusal.{Refusal}
use Rattle.nest_flat.specs.FlatNests.{FlatNest, nest_of, FlatNestIn}
use Rattle.nest_points.specs.Nests.{PointsAre}
use Rattle.nest_elements.specs.Nests.{NestViolationIn}

-- whether it passes, whatever the value is
abbrev pub passed : {A : Type 0} → Result A Refusal → Answer (Unit {0})
passed (Ok a) = accepted tt
passed (Err r) = refusal r

-- 7 and 8, and the count of the points
pub record Counts (P : FlatNest) (r : Result ℕ Refusal) : Type 0 where
  pub same : passed r ≡ space (nest_of P).loops
  pub count : (n : ℕ) → r ≡ Ok n → n ≡ length (iterations (nest_of P).loops)

-- 7 to 9
abbrev pub Admits : FlatNest → Result (Unit {0}) Refusal → Type 0
Admits P r = passed r ≡ admitted (nest_of P)

-- a nest that passes 7 and 8
pub record SpaceAccepted (P : FlatNest) : Type 0 where
  pub flat-nest : FlatNestIn P
  pub formed : WellFormed (nest_of P)
  pub space-accepted : space (nest_of P).loops ≡ accepted tt

-- 9 is next: it has n points, of at most four indices each
pub record PointsCounted (P : FlatNest) (n : ℕ) : Type 0 where
  pub nest : SpaceAccepted P
  pub shallow : P.depth ≤ ticket_loops
  pub count : n ≡ length (iterations (nest_of P).loops)

-- a nest that passes 7 and 8, and its n points
pub record FindIn (P : FlatNest) (points : List ℤ) (n : ℕ) : Type 0 where
  pub violation : NestViolationIn P points n
  pub space-accepted : space (nest_of P).loops ≡ accepted tt

-- a nest that passes 7 and 8, and room for its points
pub record EnumerateIn (P : FlatNest) (room : ℕ) : Type 0 where
  pub flat-nest : FlatNestIn P
  pub space-accepted : space (nest_of P).loops ≡ accepted tt
  pub fits : length (iterations (nest_of P).loops) * P.depth ≤ room

-- the slice o became e; it has the points
pub record Enumerates (P : FlatNest) (o e : List ℤ) (r : Result (Unit {0}) Refusal) : Type 0 where
  pub same : Admits P r
  pub points : PointsAre P e (length (iterations (nest_of P).loops))
  pub room : length e ≡ length o
