-- `skew_gives`: the mark is read only where the sum may be.
use mathlib.Core.Path.{sym, ◌∙◌, ap}
use mathlib.Core.Bool.{false}
use mathlib.Core.List.{List}
use Prim.Native.Nat.{ℕ}
use lib.ListN.{get_or, set}
use Rattle.step_preimages.specs.Numbers.{Digits}
use Rattle.step_preimages.specs.Sources.{gave_digits}
use Rattle.step_preimages.proofs.NumberLaws.{digits-below}
use Rattle.step_preimages.proofs.DigitLaws.{set-digits}
use Rattle.step_preimages.proofs.skew_gives.Goals as goal

pub number_of_digits-requires : goal.number_of_digits-requires
number_of_digits-requires c =
    let replaced : List ℕ = set c.args.d c.args.b c.args.t in
    let replaced-digits : Digits replaced = set-digits c.args.d c.args.b c.args.t c.requires.digits c.requires.replaced in
    replaced-digits

pub bounds-old-number_of_digits : goal.bounds-old-number_of_digits
bounds-old-number_of_digits c =
    let replaced : List ℕ = set c.args.d c.args.b c.args.t in
    let replaced-digits : Digits replaced = set-digits c.args.d c.args.b c.args.t c.requires.digits c.requires.replaced in
    rw c.number_of_digits.ensures (digits-below replaced replaced-digits)

pub returns-then-may_be : goal.returns-then-may_be
unfolding gave_digits
returns-then-may_be c =
    let m = c.may_be in
    rw (sym m.ensures ∙ c.if-may_be.true) (ap (λ k. get_or c.args.old.now k false)
    c.number_of_digits.ensures)

pub returns : goal.returns
unfolding gave_digits
returns c = let m = c.may_be in rw (sym m.ensures ∙ c.if-may_be.false)
