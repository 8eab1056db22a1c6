-- Two accesses of a flat nest.
use Rattle.std.specs.Prelude.{ℕ, ◌<◌}
use Rattle.nest_flat.specs.FlatNests.{FlatNest, FlatNestIn}

pub record NestTestIn (P : FlatNest) (u v : ℕ) : Type 0 where
  pub flat-nest : FlatNestIn P
  pub first : u < P.accesses
  pub second : v < P.accesses
