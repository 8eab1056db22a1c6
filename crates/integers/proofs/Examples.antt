-- Goals of the kinds that the project has, each proved in one to three lines: substitution (1 to 3), Fourier-Motzkin combination (4 to 6),
-- whole numbers and division (7 to 10), ranges (11 to 13), signs (14 to 16), divisors and dot products (17, 18).
use mathlib.Core.Path.{◌≡◌, ap}
use mathlib.Core.Logic.{◌↔◌}
use mathlib.Core.Bool.{true}
use mathlib.Core.List.{List, [], ◌∷◌}
use Prim.Native.Nat.{◌≤◌}
use native.Mathlib.Omega.{arith}
use lib.IntN.{ℤ, pos, negsuc, ◌+ℤ◌, ◌-ℤ◌, ◌*ℤ◌}
use lib.Signed.{◌≤ℤ◌, ◌<ℤ◌, lt_z}
use mir.Syntax.{w64}
use mir.Val.{SFits}
use Rattle.integers.specs.Difference.{size}
use Rattle.integers.specs.Division.{floor_div, ceil_div}
use Rattle.integers.specs.Affine.{Within, affine}
use Rattle.integers.specs.Sign.{less, sign}
use Rattle.integers.proofs.RingLaws.{zarith, mulˡ, <ℤ-≤ℤ, ≤ℤ-trans}
use Rattle.integers.proofs.Polynomial.{◌⊗◌}
use Rattle.integers.proofs.Linear.{lin, ◌⊑◌, ◌▹◌⟹◌}
use Rattle.integers.proofs.Quote.{quote, auto, hypo, calc, both, combine}
use Rattle.integers.proofs.OrderLaws.{◌∣ℤ◌, ∣-add, ∣-mul}
use Rattle.integers.proofs.DivisionLaws.{floor-iff, ceil-iff, floor-low}
use Rattle.integers.proofs.RangeLaws.{size-mul, size-add, sfits}
use Rattle.integers.proofs.AffineLaws.{affine-size}
use Rattle.integers.proofs.SignLaws.{means-sign}

-- 1. x = y − c a, solved for y
skew-undone : (x y c a : ℤ) → x ≡ y -ℤ c *ℤ a → y ≡ x +ℤ a *ℤ c
skew-undone x y c a s = let ρ : List ℤ = x ∷ y ∷ c ∷ a ∷ [] in auto ρ (search quote depth 16) (omega (arith, hypo ρ s (search quote depth 16)))

-- 2. the same inside an upper limit: the equation goes in multiplied
skewed-limit : (p x y c a e : ℤ) → x ≡ y -ℤ c *ℤ a → (p *ℤ x) ≤ℤ e → (p *ℤ y) ≤ℤ (e +ℤ p *ℤ c *ℤ a)
skewed-limit p x y c a e s h = let ρ : List ℤ = p ∷ x ∷ y ∷ c ∷ a ∷ e ∷ [] in
    auto ρ (search quote depth 16) (omega (arith, hypo ρ (ap (λ t. p *ℤ t) s) (search quote depth 16), hypo ρ h (search quote depth 16)))

-- 3. x = w S + E in a lower limit
sectioned-limit : (p w S E e : ℤ) → e ≤ℤ (p *ℤ (w *ℤ S +ℤ E)) → (e -ℤ p *ℤ w *ℤ S) ≤ℤ (p *ℤ E)
sectioned-limit p w S E e h = combine (p ∷ w ∷ S ∷ E ∷ e ∷ []) h (search quote depth 16) (search quote depth 16) tt

-- 4. p J ≥ e + c I and q I ≥ f give p q J ≥ q e + c f
combined-limit : (p q c J I e f : ℤ) → pos 0 ≤ℤ q → pos 0 ≤ℤ c → (e +ℤ c *ℤ I) ≤ℤ (p *ℤ J) → f ≤ℤ (q *ℤ I) → (q *ℤ e +ℤ c *ℤ f) ≤ℤ (p *ℤ q *ℤ J)
combined-limit p q c J I e f hq hc h k = combine (p ∷ q ∷ c ∷ J ∷ I ∷ e ∷ f ∷ []) (both (mulˡ hq h) (mulˡ hc k)) (search quote depth 16)
    (search quote depth 16) tt

-- 5. a lower and an upper limit of one index, with the statement written out
crossed-limits : (p q x e f : ℤ) → pos 0 <ℤ p → pos 0 <ℤ q → e ≤ℤ (p *ℤ x) → (q *ℤ x) ≤ℤ f → (q *ℤ e) ≤ℤ (p *ℤ f)
crossed-limits p q x e f hp hq h k = lin (p ∷ q ∷ x ∷ e ∷ f ∷ []) (λ p q x e f. q ▹ e ⊑ p ⊗ x ⟹ p ▹ q ⊗ x ⊑ f ⟹ q ⊗ e ⊑ p ⊗ f) tt (<ℤ-≤ℤ hq) h
    (<ℤ-≤ℤ hp) k

-- 6. with numerals `omega` finds the multiples
numeral-limits : (x a b : ℤ) → a ≤ℤ (pos 3 *ℤ x) → (pos 2 *ℤ x) ≤ℤ b → (pos 2 *ℤ a) ≤ℤ (pos 3 *ℤ b)
numeral-limits x a b h k = let ρ : List ℤ = x ∷ a ∷ b ∷ [] in
    auto ρ (search quote depth 16) (omega (arith, hypo ρ h (search quote depth 16), hypo ρ k (search quote depth 16)))

-- 7. between whole numbers there is none
whole-step : (x y : ℤ) → (pos 2 *ℤ y +ℤ pos 1) ≤ℤ (pos 2 *ℤ x) → (y +ℤ pos 1) ≤ℤ x
whole-step x y h = let ρ : List ℤ = x ∷ y ∷ [] in auto ρ (search quote depth 16) (omega (arith, hypo ρ h (search quote depth 16)))

-- 8. a lower limit as the least index
least-index : (e p x : ℤ) → pos 0 <ℤ p → (e ≤ℤ (p *ℤ x)) ↔ (ceil_div e p ≤ℤ x)
least-index e p x h = ceil-iff e p x h

-- 9. a limit divided by a common factor
reduced-limit : (g p e x y : ℤ) → pos 0 <ℤ g → (g *ℤ p *ℤ x +ℤ g *ℤ y) ≤ℤ e → (p *ℤ x +ℤ y) ≤ℤ floor_div e g
reduced-limit g p e x y h k = (floor-iff e g (p *ℤ x +ℤ y) h).0 (combine (g ∷ p ∷ e ∷ x ∷ y ∷ []) k (search quote depth 16) (search quote depth 16) tt)

-- 10. the floor is at most the ceiling
floor-ceil : (e p : ℤ) → pos 0 <ℤ p → (p *ℤ floor_div e p) ≤ℤ (p *ℤ ceil_div e p)
floor-ceil e p h = ≤ℤ-trans (floor-low e p h) ((ceil-iff e p (ceil_div e p) h).1 (omega zarith))

-- 11. a sum fits
sum_fits : (a b : ℤ) → negsuc 1099511627775 ≤ℤ a → a ≤ℤ pos 1099511627776 → negsuc 32766 ≤ℤ b → b ≤ℤ pos 32767 → SFits w64 (a +ℤ b -ℤ pos 5)
sum_fits a b h₁ h₂ h₃ h₄ = auto (a ∷ b ∷ []) (search quote depth 16) (omega zarith)

-- 12. one product more
product-fits : (s x y : ℤ) → size s ≤ 1099511627776 → size x ≤ 32767 → size y ≤ 100000 → SFits w64 (s +ℤ x *ℤ y)
product-fits s x y hs hx hy = sfits (omega (arith, size-mul x y hx hy, size-add s (x *ℤ y)))

-- 13. the range of an affine value of two coefficients
affine-range : (e a b x y : ℤ) → size e ≤ 32767 → Within 32767 (a ∷ b ∷ []) → Within 32767 (x ∷ y ∷ [])
    → size (affine e (a ∷ b ∷ []) (x ∷ y ∷ [])) ≤ 2147385345
affine-range e a b x y h p q = omega (arith, affine-size 32767 32767 e (a ∷ b ∷ []) (x ∷ y ∷ []) p q)

-- 14. a test on a difference
difference-test : (a b : ℤ) → lt_z (a -ℤ b) (pos 0) ≡ true → a <ℤ b
difference-test a b h = let ρ : List ℤ = a ∷ b ∷ [] in auto ρ (search quote depth 16) (omega (arith, hypo ρ h (search quote depth 16)))

-- 15. the sign of a sum, where the parts agree
sum-sign : (x y a b : ℤ) → x <ℤ y → a <ℤ b → sign (x +ℤ a) (y +ℤ b) ≡ less
sum-sign x y a b h k = means-sign less (x +ℤ a) (y +ℤ b) (combine (x ∷ y ∷ a ∷ b ∷ []) (both h k) (search quote depth 16) (search quote depth 16) tt)

-- 16. adding one number to both sides keeps the sign
shifted-sign : (x y d : ℤ) → x <ℤ y → sign (x +ℤ d) (y +ℤ d) ≡ less
shifted-sign x y d h = means-sign less (x +ℤ d) (y +ℤ d) (combine (x ∷ y ∷ d ∷ []) h (search quote depth 16) (search quote depth 16) tt)

-- 17. a common divisor of the coefficients divides every value
divided-value : (g a b x y : ℤ) → g ∣ℤ a → g ∣ℤ b → g ∣ℤ (a *ℤ x +ℤ b *ℤ y)
divided-value g a b x y p q = ∣-add (∣-mul x p) (∣-mul y q)

-- 18. an identity of the ring
expanded : (a b c d : ℤ) → (a +ℤ b) *ℤ (c -ℤ d) ≡ a *ℤ c +ℤ b *ℤ c -ℤ (d *ℤ b +ℤ a *ℤ d)
expanded a b c d = calc (a ∷ b ∷ c ∷ d ∷ []) (search quote depth 16) tt
