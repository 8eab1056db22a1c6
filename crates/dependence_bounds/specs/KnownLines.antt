-- A flat nest with other limits, and the lines of a nest as they are known without its points.
use Rattle.std.specs.Prelude.{◌≡◌, Bool, false, List, map, ℕ, ◌≤◌, ℤ, length, get_or}
use Rattle.model.specs.Answer.{accepted}
use Rattle.model.specs.Bounds.{admitted}
use Rattle.model.specs.Quick.{ranges}
use Rattle.dependence_vectors.specs.Numbers.{marks_for}
use Rattle.nest_loop_ranges.specs.declared.Range.{Range}
use Rattle.nest_loop_ranges.specs.Ranges.{ranges_of, RangesIn}
use Rattle.dependence_search.specs.Flat.{Use, uses}
use Rattle.nest_flat.specs.declared.Header.{Header}
use Rattle.nest_flat.specs.FlatNests.{FlatNest, flat_nest, moved, extents_in, accessed_in, words_in, nest_of, FlatNestIn}
use Rattle.dependence_marks.specs.Lines.{Markable, LinesAre}
use Rattle.nest_admission.specs.Admission.{SpaceAccepted}
use Rattle.dependence_bounds.specs.Covered.{Pairs, pairs, CoveredTo}

-- the flat nest with other limits
abbrev pub limited : FlatNest → List ℤ → List ℕ → FlatNest
limited P s c = moved P P.depth s c P.words

-- the header with other counts
abbrev pub Recounted : Header → List ℕ → Header → Type 0
Recounted O c r = (s t w : List ℤ) → flat_nest r t w ≡ limited (flat_nest O s w) t c

-- the accesses of a flat nest, whose loops have these ranges
abbrev pub pairs_of : FlatNest → List Range → Pairs
pairs_of P rs =
    pairs (words_in P) (accessed_in P) (extents_in P) P.depth rs (map (λ (u : Use). u.statement) (uses (nest_of P).statements))
    (map (λ (u : Use). u.writes) (uses (nest_of P).statements)) P.statements

abbrev pub FlatNestCovered : FlatNest → List Range → List Bool → Type 0
FlatNestCovered P rs m = CoveredTo (pairs_of P rs) m P.accesses

-- the ranges are those of the flat nest's loops
pub record RangesOn (P : FlatNest) (rs : List Range) : Type 0 where
  pub are : ranges_of P.depth rs ≡ ranges (nest_of P).loops
  pub held : RangesIn P.depth rs

-- n statements have this many marks
abbrev pub Room : FlatNest → List Bool → Type 0
Room P m = marks_for P.statements ≤ length m

pub record CoverIn (P : FlatNest) (rs : List Range) (m : List Bool) : Type 0 where
  pub flat-nest : FlatNestIn P
  pub ranges : RangesIn P.depth rs
  pub room : Room P m

-- an admitted nest, and marks that are all clear
pub record BoundIn (P : FlatNest) (m : List Bool) : Type 0 where
  pub part : Markable P m
  pub admitted-is : admitted (nest_of P) ≡ accepted tt

-- a nest that passes refusals 7 and 8, and marks that are all clear
pub record MarkIn (P : FlatNest) (m : List Bool) : Type 0 where
  pub nest : SpaceAccepted P
  pub clear : (j : ℕ) → get_or m j false ≡ false
  pub room : Room P m

-- it passes refusal 9 too, and its lines are those that are marked
pub record Marked (P : FlatNest) (m : List Bool) : Type 0 where
  pub admitted-is : admitted (nest_of P) ≡ accepted tt
  pub lines : LinesAre P m
