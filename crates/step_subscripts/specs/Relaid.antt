-- A flat nest whose loops and words were changed by a step: all else of it stands.
use Rattle.std.specs.Prelude.{◌≡◌, map}
use Rattle.model.specs.Ticket as Model
use Rattle.model.specs.Limits.{access_after}
use Rattle.nest_flat.specs.Layout.{accesses_from}
use Rattle.nest_flat.specs.FlatNests.{FlatNest, extents_in, accessed_in, words_in}

-- Q has the arrays and statements of P, and names the same arrays
pub record Relaid (P Q : FlatNest) : Type 0 where
  pub arrays : Q.arrays ≡ P.arrays
  pub extents : Q.extents ≡ P.extents
  pub statements : Q.statements ≡ P.statements
  pub sizes : Q.sizes ≡ P.sizes
  pub rules : Q.rules ≡ P.rules
  pub constants : Q.constants ≡ P.constants
  pub accesses : Q.accesses ≡ P.accesses
  pub accessed : Q.accessed ≡ P.accessed

-- Q's accesses are P's after step t
abbrev pub AccessesMoved : Model.Step → FlatNest → FlatNest → Type 0
AccessesMoved t P Q =
    accesses_from (words_in Q) (accessed_in P) (extents_in P) Q.depth 0 P.accesses
    ≡ map (access_after t) (accesses_from (words_in P) (accessed_in P) (extents_in P) P.depth 0 P.accesses)
