-- What may be written: every nest whose numbers are in their ranges.
use Rattle.model.specs.Shape.{WellFormed}
use Rattle.model.specs.Ranges.{NestRanges}
use Rattle.model.specs.Grammar.{most_loops, most_limits}
use Rattle.nest_flat.specs.FlatNests.{FlatNest, nest_of, FlatNestIn}

pub record FlatNestEncodable (P : FlatNest) : Type 0 where
  pub flat-nest : FlatNestIn P
  pub ranges : NestRanges most_loops most_limits (nest_of P)
  pub formed : WellFormed (nest_of P)
