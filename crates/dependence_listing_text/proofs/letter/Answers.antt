-- `letter`: F, A, O.
use mathlib.Core.Path.{refl}
use native.Mathlib.Omega.{arith}
use Rattle.dependence_listing_text.proofs.TextLaws.{letter-is}
use Rattle.dependence_listing_text.proofs.letter.Goals as goal

pub returns-in-0 : goal.returns-in-0
returns-in-0 c = let e = c.in-0.is in letter-is c.args.k 70 c.requires (λ _. refl) (λ f. absurd (omega arith))
    (λ f. absurd (omega arith))

pub returns-in-1 : goal.returns-in-1
returns-in-1 c = let e = c.in-1.is in letter-is c.args.k 65 c.requires (λ f. absurd (omega arith)) (λ _. refl)
    (λ f. absurd (omega arith))

pub returns-in_default : goal.returns-in_default
returns-in_default c = letter-is c.args.k 79 c.requires (λ f. absurd (omega arith)) (λ f. absurd (omega arith)) (λ _. refl)
