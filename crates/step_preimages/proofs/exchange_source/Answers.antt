-- `exchange_source`: each place has its weight.
use mathlib.Core.Path.{◌≡◌, refl}
use native.Mathlib.Omega.{arith}
use Rattle.step_preimages.proofs.exchange_source.Goals as goal

pub exchange_digits-requires : goal.exchange_digits-requires
exchange_digits-requires c = record { below = c.requires.below; inside = 4; outermost = omega arith; weighs = refl }

pub exchange_digits-requires-in-1 : goal.exchange_digits-requires-in-1
exchange_digits-requires-in-1 c = record { below = c.requires.below; inside = 3; outermost = omega arith; weighs = refl }

pub exchange_digits-requires-in-2 : goal.exchange_digits-requires-in-2
exchange_digits-requires-in-2 c = record { below = c.requires.below; inside = 2; outermost = omega arith; weighs = refl }

pub exchange_digits-requires-in-3 : goal.exchange_digits-requires-in-3
exchange_digits-requires-in-3 c = record { below = c.requires.below; inside = 1; outermost = omega arith; weighs = refl }

pub exchange_digits-requires-in_default : goal.exchange_digits-requires-in_default
exchange_digits-requires-in_default c = record { below = c.requires.below; inside = 0; outermost = omega arith; weighs = refl }

pub returns-in-0 : goal.returns-in-0
returns-in-0 c = let e = c.in-0.is in c.exchange_digits.ensures c.args.a (omega arith) (rw e refl)

pub returns-in-1 : goal.returns-in-1
returns-in-1 c = let e = c.in-1.is in c.exchange_digits-in-1.ensures c.args.a (omega arith) (rw e refl)

pub returns-in-2 : goal.returns-in-2
returns-in-2 c = let e = c.in-2.is in c.exchange_digits-in-2.ensures c.args.a (omega arith) (rw e refl)

pub returns-in-3 : goal.returns-in-3
returns-in-3 c = let e = c.in-3.is in c.exchange_digits-in-3.ensures c.args.a (omega arith) (rw e refl)

pub returns-in_default : goal.returns-in_default
returns-in_default c = let h = c.requires.few in let e : c.args.a ≡ 4 = omega arith in c.exchange_digits-in_default.ensures c.args.a (omega arith) (rw e refl)
