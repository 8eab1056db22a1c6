-- A real flat nest meets what `is_apart` asks, so that its contract says something: its one statement reads the element that it writes.
use native.Mathlib.Omega.{arith}
use Rattle.nest_points.proofs.Witness.{counter, counter-in}
use Rattle.nest_quick_test.specs.Nests.{NestTestIn}

pub counter-tested : NestTestIn counter 0 1
counter-tested = record { flat-nest = counter-in; first = omega arith; second = omega arith }
