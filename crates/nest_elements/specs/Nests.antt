-- What is found of the subscripts, elements and rules of a flat nest, in terms of the nest that it stands for.
use Rattle.std.specs.Prelude.{◌≡◌, List, [], ℕ, ◌+◌, ◌*◌, ◌≤◌, ◌<◌, ℤ, length, get_or, Option, Some, None}
use Rattle.lists.specs.Parts.{rows}
use Rattle.model.specs.Answer.{Answer, accepted, refused}
use Rattle.model.specs.Grammar.{total}
use Rattle.model.specs.Points.{iterations}
use Rattle.model.specs.Bounds.{in_arrays}
use Rattle.model.specs.Machine.{element}
use Rattle.model.specs.Store.{place_of}
use Rattle.model.specs.Shape.{WellFormed}
use Rattle.nest_elements.specs.Search as Elements
use Rattle.nest_points.specs.Stored.{RowsIn}
use Rattle.nest_points.specs.Nests.{PointsAre}
use Rattle.nest_flat.specs.FlatNests.{FlatNest, nest_of, FlatNestIn, access_of}

pub record NestViolationIn (P : FlatNest) (points : List ℤ) (n : ℕ) : Type 0 where
  pub flat-nest : FlatNestIn P
  pub points-are : PointsAre P points n

-- 9
abbrev pub NestSearched : FlatNest → Option ℕ → Type 0
NestSearched P r = Elements.answer_of r ≡ in_arrays (nest_of P).arrays (iterations (nest_of P).loops) 1 (nest_of P).statements

-- 15: the number of the first opaque statement, if there is one
abbrev pub opaque_at : Option ℕ → Answer (Unit {0})
opaque_at None = accepted tt
opaque_at (Some n) = refused 15 n

-- any n points, all of the nest's or a part of them, at which no access leaves its array
pub record NestNumberIn (P : FlatNest) (points : List ℤ) (n room : ℕ) : Type 0 where
  pub flat-nest : FlatNestIn P
  pub formed : WellFormed (nest_of P)
  pub stored : RowsIn points P.depth n
  pub inside : in_arrays (nest_of P).arrays (rows P.depth n points) 1 (nest_of P).statements ≡ accepted tt
  pub fits : P.accesses * n ≤ room

-- the number of access k at point x, of n points, stands at n k + x
pub record NumbersAre (P : FlatNest) (points : List ℤ) (n : ℕ) (numbers : List ℕ) : Type 0 where
  pub room : P.accesses * n ≤ length numbers
  pub are : (k x : ℕ) → k < P.accesses → x < n → get_or numbers (k * n + x) 0 ≡ place_of (nest_of P).arrays
      (element (get_or (rows P.depth n points) x []) (access_of (nest_of P) k))
  pub small : (k x : ℕ) → k < P.accesses → x < n → get_or numbers (k * n + x) 0 < total (nest_of P).arrays
