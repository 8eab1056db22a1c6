-- What the functions ask can be met: one statement and two loops.
use mathlib.Core.Bool.{Bool, false}
use native.Mathlib.Omega.{arith}
use lib.ListN.{replicate, length-replicate}
use Rattle.dependence_vectors.specs.Numbers.{pair_marks}
use Rattle.dependence_listing_text.specs.Text.{Marks}

pub marks : Marks (replicate pair_marks false) 1 2
marks = record { statements = omega arith; shallow = omega arith; room = omega (arith, length-replicate {A = Bool} pair_marks false) }
