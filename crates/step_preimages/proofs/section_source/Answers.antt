-- `section_source`: the six digits, each as it was made.
use mathlib.Core.Path.{◌≡◌}
use mathlib.Core.List.{List, [], ◌∷◌}
use Prim.Native.Nat.{ℕ}
use Rattle.step_preimages.proofs.DigitLaws.{joined_digits}
use Rattle.step_preimages.proofs.SourceLaws.{join-digits, join_source}
use Rattle.step_preimages.proofs.section_source.Goals as goal

pub number_of_digits-requires : goal.number_of_digits-requires
number_of_digits-requires c =
    let made : List ℕ = c.joined_digit.result
    ∷ c.joined_digit-2.result
    ∷ c.joined_digit-3.result
    ∷ c.joined_digit-4.result
    ∷ c.joined_digit-5.result
    ∷ 1
    ∷ [] in
    let made-is : made ≡ joined_digits c.digits-d.result
    c.args.a = rw (
      c.joined_digit.ensures,
      c.joined_digit-2.ensures,
      c.joined_digit-3.ensures,
      c.joined_digit-4.ensures,
      c.joined_digit-5.ensures,
    ) in
    let d = c.digits-d in
    join-digits d.result c.args.n c.args.a c.requires.below d.ensures made made-is

pub returns : goal.returns
returns c =
    let made : List ℕ = c.joined_digit.result
    ∷ c.joined_digit-2.result
    ∷ c.joined_digit-3.result
    ∷ c.joined_digit-4.result
    ∷ c.joined_digit-5.result
    ∷ 1
    ∷ [] in
    let made-is : made ≡ joined_digits c.digits-d.result
    c.args.a = rw (
      c.joined_digit.ensures,
      c.joined_digit-2.ensures,
      c.joined_digit-3.ensures,
      c.joined_digit-4.ensures,
      c.joined_digit-5.ensures,
    ) in
    let d = c.digits-d in
    join_source d.result c.args.n c.args.a c.requires.below d.ensures made made-is
    c.number_of_digits.result c.number_of_digits.ensures
