-- `reversal_source`: each place has its weight.
use mathlib.Core.Path.{◌≡◌, refl}
use native.Mathlib.Omega.{arith}
use Rattle.step_preimages.proofs.reversal_source.Goals as goal

pub reverse_digit-requires : goal.reverse_digit-requires
reverse_digit-requires c = record { below = c.requires.below; inside = 5; outermost = omega arith; weighs = refl }

pub reverse_digit-requires-in-1 : goal.reverse_digit-requires-in-1
reverse_digit-requires-in-1 c = record { below = c.requires.below; inside = 4; outermost = omega arith; weighs = refl }

pub reverse_digit-requires-in-2 : goal.reverse_digit-requires-in-2
reverse_digit-requires-in-2 c = record { below = c.requires.below; inside = 3; outermost = omega arith; weighs = refl }

pub reverse_digit-requires-in-3 : goal.reverse_digit-requires-in-3
reverse_digit-requires-in-3 c = record { below = c.requires.below; inside = 2; outermost = omega arith; weighs = refl }

pub reverse_digit-requires-in-4 : goal.reverse_digit-requires-in-4
reverse_digit-requires-in-4 c = record { below = c.requires.below; inside = 1; outermost = omega arith; weighs = refl }

pub reverse_digit-requires-in_default : goal.reverse_digit-requires-in_default
reverse_digit-requires-in_default c = record { below = c.requires.below; inside = 0; outermost = omega arith; weighs = refl }

pub returns-in-0 : goal.returns-in-0
returns-in-0 c = let e = c.in-0.is in c.reverse_digit.ensures c.args.a (omega arith) (rw e refl)

pub returns-in-1 : goal.returns-in-1
returns-in-1 c = let e = c.in-1.is in c.reverse_digit-in-1.ensures c.args.a (omega arith) (rw e refl)

pub returns-in-2 : goal.returns-in-2
returns-in-2 c = let e = c.in-2.is in c.reverse_digit-in-2.ensures c.args.a (omega arith) (rw e refl)

pub returns-in-3 : goal.returns-in-3
returns-in-3 c = let e = c.in-3.is in c.reverse_digit-in-3.ensures c.args.a (omega arith) (rw e refl)

pub returns-in-4 : goal.returns-in-4
returns-in-4 c = let e = c.in-4.is in c.reverse_digit-in-4.ensures c.args.a (omega arith) (rw e refl)

pub returns-in_default : goal.returns-in_default
returns-in_default c = let h = c.requires.few in let e : c.args.a ≡ 5 = omega arith in c.reverse_digit-in_default.ensures c.args.a (omega arith) (rw e refl)
