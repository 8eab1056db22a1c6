-- What the two answers promise where they are true; false promises nothing.
use Rattle.std.specs.Prelude.{◌≡◌, Bool, true}
use Rattle.model.specs.Answer.{accepted}
use Rattle.model.specs.Points.{iterations}
use Rattle.model.specs.Bounds.{space, new_space, in_arrays}
use Rattle.nest_flat.specs.FlatNests.{FlatNest, nest_of}

-- a nest without refusals 7 and 8 has no refusal 9
abbrev pub StaysInside : FlatNest → Bool → Type 0
StaysInside P r = r ≡ true → space (nest_of P).loops ≡ accepted tt
    → in_arrays (nest_of P).arrays (iterations (nest_of P).loops) 1 (nest_of P).statements ≡ accepted tt

-- no refusal 13
abbrev pub StaysCompact : FlatNest → Bool → Type 0
StaysCompact P r = r ≡ true → new_space (nest_of P).loops ≡ accepted tt
