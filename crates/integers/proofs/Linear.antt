-- Statements over ℤ (sums, differences, products; ≤, <, ≡, and, implies) proved from their normal forms, in two ways:
-- `lin` with no tactic: the goal is the sum of the hypotheses, each used once, and a constant that is not negative; the kernel computes it, `tt` proves it.
--     lin (x ∷ y ∷ []) (λ x y. x ⊑ y ⟶ x ⊑ y ⊕ # 1) tt h
-- `by` with `omega`: the statement becomes one of ℕ in which each monomial is two atoms; `omega` finds the multiples.
--     by (x ∷ y ∷ []) (λ x y. x ⊑ y ⟶ x ⊑ y ⊕ # 1) (omega arith) h
-- A hypothesis that goes in multiplied is `q ▹ h ⟹ g` (under 0 ≤ q too), and for an equation `q ▸ h ⟹ g`. `terms` reads compound terms for
-- `omega zarith`. `Quote` finds the statement by itself.
use mathlib.Core.Path.{◌≡◌, refl, sym, ◌∙◌, ap, subst}
use mathlib.Core.List.{List, [], ◌∷◌}
use mathlib.Core.Bool.{Bool, true, false, ◌&&◌}
use Prim.Native.Nat.{ℕ, zero, suc, ◌≤◌, ◌<◌}
use native.Mathlib.Omega.{arith}
use lib.Dec.{T}
use lib.IntN.{ℤ, pos, negsuc, ◌-ℤ◌, ◌*ℤ◌}
use lib.Signed.{◌≤ℤ◌, ◌<ℤ◌}
use Rattle.lists.proofs.TestLaws.{and_both}
use Rattle.integers.proofs.DifferenceLaws.{add-fact, sub-fact, nat_le}
use Rattle.integers.proofs.RingLaws.{zarith, mulˡ, <ℤ-≤ℤ, Is, is, is_mul, same}
use Rattle.integers.proofs.Polynomial.{Expr, atom, ◌⊕◌, ◌⊖◌, ◌⊗◌, #, value, Sum, none, more, monomial, total, normal, normal-sound, sum_up, sum_down, is-value}

-- ---- statements

infix 50 ◌⊑◌ ◌⊏◌ ◌≐◌
infixr 45 ◌&◌
infixr 40 ◌⟶◌ ◌▹◌⟹◌ ◌▸◌⟹◌
pub data Claim : Type 0 where
  ◌⊑◌ ◌⊏◌ ◌≐◌ : Expr → Expr → Claim
  ◌⟶◌ ◌&◌ : Claim → Claim → Claim
  ◌▹◌⟹◌ ◌▸◌⟹◌ : Expr → Claim → Claim → Claim

abbrev pub Holds : List ℤ → Claim → Type 0
Holds ρ (a ⊑ b) = value a ρ ≤ℤ value b ρ
Holds ρ (a ⊏ b) = value a ρ <ℤ value b ρ
Holds ρ (a ≐ b) = value a ρ ≡ value b ρ
Holds ρ (h ⟶ g) = Holds ρ h → Holds ρ g
Holds ρ (h & g) = Holds ρ h × Holds ρ g
Holds ρ (q ▹ h ⟹ g) = pos 0 ≤ℤ value q ρ → Holds ρ h → Holds ρ g
Holds ρ (q ▸ h ⟹ g) = Holds ρ h → Holds ρ g

-- a statement as a function of its atoms
abbrev pub Over : List ℤ → Type 0
Over [] = Claim
Over (x ∷ ρ) = Expr → Over ρ

abbrev pub applied : (ρ : List ℤ) → ℕ → Over ρ → Claim
applied [] i f = f
applied (x ∷ ρ) i f = applied ρ (suc i) (f (atom i))

-- what says nothing
abbrev pub trivial : Claim
trivial = # 0 ⊑ # 0

-- q times a hypothesis, for 0 ≤ q; and q times what is an equation in it, for any q
abbrev pub times : Expr → Claim → Claim
times q (a ⊑ b) = q ⊗ a ⊑ q ⊗ b
times q (a ⊏ b) = q ⊗ a ⊑ q ⊗ b
times q (a ≐ b) = q ⊗ a ≐ q ⊗ b
times q (h ⟶ g) = trivial
times q (h & g) = times q h & times q g
times q (r ▹ h ⟹ g) = trivial
times q (r ▸ h ⟹ g) = trivial

abbrev pub times_equal : Expr → Claim → Claim
times_equal q (a ⊑ b) = trivial
times_equal q (a ⊏ b) = trivial
times_equal q (a ≐ b) = q ⊗ a ≐ q ⊗ b
times_equal q (h ⟶ g) = trivial
times_equal q (h & g) = times_equal q h & times_equal q g
times_equal q (r ▹ h ⟹ g) = trivial
times_equal q (r ▸ h ⟹ g) = trivial

times-holds : (ρ : List ℤ) (q : Expr) (h : Claim) → pos 0 ≤ℤ value q ρ → Holds ρ h → Holds ρ (times q h)
times-holds ρ q (a ⊑ b) z h = mulˡ z h
times-holds ρ q (a ⊏ b) z h = mulˡ z (<ℤ-≤ℤ h)
times-holds ρ q (a ≐ b) z h = ap (λ t. value q ρ *ℤ t) h
times-holds ρ q (h ⟶ g) z f = omega zarith
times-holds ρ q (h & g) z p = (times-holds ρ q h z p.0, times-holds ρ q g z p.1)
times-holds ρ q (r ▹ h ⟹ g) z f = omega zarith
times-holds ρ q (r ▸ h ⟹ g) z f = omega zarith

times_equal-holds : (ρ : List ℤ) (q : Expr) (h : Claim) → Holds ρ h → Holds ρ (times_equal q h)
times_equal-holds ρ q (a ⊑ b) h = omega zarith
times_equal-holds ρ q (a ⊏ b) h = omega zarith
times_equal-holds ρ q (a ≐ b) h = ap (λ t. value q ρ *ℤ t) h
times_equal-holds ρ q (h ⟶ g) f = omega zarith
times_equal-holds ρ q (h & g) p = (times_equal-holds ρ q h p.0, times_equal-holds ρ q g p.1)
times_equal-holds ρ q (r ▹ h ⟹ g) f = omega zarith
times_equal-holds ρ q (r ▸ h ⟹ g) f = omega zarith

-- ---- `by`: what a hypothesis says in ℕ, and what a goal asks there

abbrev pub Known : List ℤ → Claim → Type 0
Known ρ (a ⊑ b) = sum_down (normal (b ⊖ a)) ρ ≤ sum_up (normal (b ⊖ a)) ρ
Known ρ (a ⊏ b) = sum_down (normal (b ⊖ a)) ρ < sum_up (normal (b ⊖ a)) ρ
Known ρ (a ≐ b) = sum_down (normal (b ⊖ a)) ρ ≡ sum_up (normal (b ⊖ a)) ρ
Known ρ (h ⟶ g) = Unit {0}
Known ρ (h & g) = Known ρ h × Known ρ g
Known ρ (q ▹ h ⟹ g) = Unit {0}
Known ρ (q ▸ h ⟹ g) = Unit {0}

abbrev pub Asked : List ℤ → Claim → Type 0
Asked ρ (a ⊑ b) = Known ρ (a ⊑ b)
Asked ρ (a ⊏ b) = Known ρ (a ⊏ b)
Asked ρ (a ≐ b) = Known ρ (a ≐ b)
Asked ρ (h ⟶ g) = Known ρ h → Asked ρ g
Asked ρ (h & g) = Asked ρ h × Asked ρ g
Asked ρ (q ▹ h ⟹ g) = Known ρ (times q h) → Asked ρ g
Asked ρ (q ▸ h ⟹ g) = Known ρ (times_equal q h) → Asked ρ g

pub known : (ρ : List ℤ) (r : Claim) → Holds ρ r → Known ρ r
known ρ (a ⊑ b) h = omega (zarith, h, sub-fact (value b ρ) (value a ρ), is-value (b ⊖ a) ρ)
known ρ (a ⊏ b) h = omega (zarith, h, sub-fact (value b ρ) (value a ρ), is-value (b ⊖ a) ρ)
known ρ (a ≐ b) h = omega (zarith, h, sub-fact (value b ρ) (value a ρ), is-value (b ⊖ a) ρ)
known ρ (h ⟶ g) f = tt
known ρ (h & g) p = (known ρ h p.0, known ρ g p.1)
known ρ (q ▹ h ⟹ g) f = tt
known ρ (q ▸ h ⟹ g) f = tt

pub settled : (ρ : List ℤ) (r : Claim) → Asked ρ r → Holds ρ r
settled ρ (a ⊑ b) h = omega (zarith, h, sub-fact (value b ρ) (value a ρ), is-value (b ⊖ a) ρ)
settled ρ (a ⊏ b) h = omega (zarith, h, sub-fact (value b ρ) (value a ρ), is-value (b ⊖ a) ρ)
settled ρ (a ≐ b) h = omega (zarith, h, sub-fact (value b ρ) (value a ρ), is-value (b ⊖ a) ρ)
settled ρ (h ⟶ g) f = λ p. settled ρ g (f (known ρ h p))
settled ρ (h & g) p = (settled ρ h p.0, settled ρ g p.1)
settled ρ (q ▹ h ⟹ g) f = λ z p. settled ρ g (f (known ρ (times q h) (times-holds ρ q h z p)))
settled ρ (q ▸ h ⟹ g) f = λ p. settled ρ g (f (known ρ (times_equal q h) (times_equal-holds ρ q h p)))

pub by : (ρ : List ℤ) (f : Over ρ) → Asked ρ (applied ρ 0 f) → Holds ρ (applied ρ 0 f)
by ρ f h = settled ρ (applied ρ 0 f) h

-- ---- `terms`, for `omega`'s list: omega (zarith, terms (x ∷ y ∷ []) (λ x y. x ⊖ y ∷ x ⊗ y ∷ [])) reads every ≤ℤ, <ℤ and ≡ in reach
-- whose sides are these terms, atoms or literals

abbrev pub TermsOver : List ℤ → Type 0
TermsOver [] = List Expr
TermsOver (x ∷ ρ) = Expr → TermsOver ρ

abbrev pub terms_at : (ρ : List ℤ) → ℕ → TermsOver ρ → List Expr
terms_at [] i f = f
terms_at (x ∷ ρ) i f = terms_at ρ (suc i) (f (atom i))

abbrev pub EachIs : List ℤ → List Expr → Type 0
EachIs ρ [] = Unit {0}
EachIs ρ (e ∷ es) = Is (value e ρ) (sum_up (normal e) ρ) (sum_down (normal e) ρ) × EachIs ρ es

each-is : (ρ : List ℤ) (es : List Expr) → EachIs ρ es
each-is ρ [] = tt
each-is ρ (e ∷ es) = (is-value e ρ, each-is ρ es)

pub terms : (ρ : List ℤ) (f : TermsOver ρ) → EachIs ρ (terms_at ρ 0 f)
terms ρ f = each-is ρ (terms_at ρ 0 f)

-- ---- `lin`: what each statement leaves; of a hypothesis a number that is not negative, of a goal one that must not be

abbrev pub slack : Claim → Expr
slack (a ⊑ b) = b ⊖ a
slack (a ⊏ b) = b ⊖ a ⊖ # 1
slack (a ≐ b) = b ⊖ a
slack (h ⟶ g) = # 0
slack (h & g) = slack h ⊕ slack g
slack (q ▹ h ⟹ g) = # 0
slack (q ▸ h ⟹ g) = # 0

abbrev pub is_zero : ℤ → Bool
is_zero (pos zero) = true
is_zero (pos (suc n)) = false
is_zero (negsuc n) = false

-- a constant may be left over; a monomial must cancel
abbrev pub may_stay : ℤ → List ℕ → Bool
may_stay (pos n) [] = true
may_stay (negsuc n) [] = false
may_stay c (i ∷ m) = is_zero c

abbrev pub not_negative : Sum → Bool
not_negative none = true
not_negative (more c m s) = may_stay c m && not_negative s

abbrev pub all_zero : Sum → Bool
all_zero none = true
all_zero (more c m s) = is_zero c && all_zero s

abbrev pub Certified : Expr → Claim → Type 0
Certified d (a ⊑ b) = T (not_negative (normal (b ⊖ a ⊖ d)))
Certified d (a ⊏ b) = T (not_negative (normal (b ⊖ a ⊖ # 1 ⊖ d)))
Certified d (a ≐ b) = T (all_zero (normal (b ⊖ a)))
Certified d (h ⟶ g) = Certified (slack h ⊕ d) g
Certified d (h & g) = Certified d h × Certified d g
Certified d (q ▹ h ⟹ g) = Certified (slack (times q h) ⊕ d) g
Certified d (q ▸ h ⟹ g) = Certified (slack (times_equal q h) ⊕ d) g

zero-term : (c z : ℤ) → T (is_zero c) → c *ℤ z ≡ pos 0
zero-term (pos zero) z t = same (is_mul (is (pos 0)) (is z)) (is (pos 0)) (omega arith)
zero-term (pos (suc n)) z t = absurd t
zero-term (negsuc n) z t = absurd t

term-stays : (c : ℤ) (m : List ℕ) (ρ : List ℤ) → T (may_stay c m) → pos 0 ≤ℤ (c *ℤ monomial m ρ)
term-stays (pos n) [] ρ t = nat_le (pos 0) (pos n *ℤ pos 1) (omega arith)
term-stays (negsuc n) [] ρ t = absurd t
term-stays c (i ∷ m) ρ t = omega (zarith, zero-term c (monomial (i ∷ m) ρ) t)

not_negative-holds : (s : Sum) (ρ : List ℤ) → T (not_negative s) → pos 0 ≤ℤ total s ρ
not_negative-holds none ρ t = omega zarith
not_negative-holds (more c m s) ρ t = let b = and_both (may_stay c m) (not_negative s) t in
    omega (zarith, term-stays c m ρ b.0, not_negative-holds s ρ b.1, add-fact (c *ℤ monomial m ρ) (total s ρ))

all_zero-holds : (s : Sum) (ρ : List ℤ) → T (all_zero s) → total s ρ ≡ pos 0
all_zero-holds none ρ t = refl
all_zero-holds (more c m s) ρ t = let b = and_both (is_zero c) (all_zero s) t in
    omega (zarith, zero-term c (monomial m ρ) b.0, all_zero-holds s ρ b.1, add-fact (c *ℤ monomial m ρ) (total s ρ))

normal-nonneg : (e : Expr) (ρ : List ℤ) → T (not_negative (normal e)) → pos 0 ≤ℤ value e ρ
normal-nonneg e ρ t = subst (λ (x : ℤ). pos 0 ≤ℤ x) (sym (normal-sound e ρ)) (not_negative-holds (normal e) ρ t)

slack-nonneg : (ρ : List ℤ) (r : Claim) → Holds ρ r → pos 0 ≤ℤ value (slack r) ρ
slack-nonneg ρ (a ⊑ b) h = omega (zarith, h, sub-fact (value b ρ) (value a ρ))
slack-nonneg ρ (a ⊏ b) h = omega (zarith, h, sub-fact (value b ρ) (value a ρ), sub-fact (value b ρ -ℤ value a ρ) (pos 1))
slack-nonneg ρ (a ≐ b) h = omega (zarith, h, sub-fact (value b ρ) (value a ρ))
slack-nonneg ρ (h ⟶ g) f = omega zarith
slack-nonneg ρ (h & g) p = omega (zarith, slack-nonneg ρ h p.0, slack-nonneg ρ g p.1, add-fact (value (slack h) ρ) (value (slack g) ρ))
slack-nonneg ρ (q ▹ h ⟹ g) f = omega zarith
slack-nonneg ρ (q ▸ h ⟹ g) f = omega zarith

more-slack : (ρ : List ℤ) (h : Claim) (d : Expr) → Holds ρ h → pos 0 ≤ℤ value d ρ → pos 0 ≤ℤ value (slack h ⊕ d) ρ
more-slack ρ h d p z = omega (zarith, z, slack-nonneg ρ h p, add-fact (value (slack h) ρ) (value d ρ))

from-slack : (ρ : List ℤ) (r : Claim) (d : Expr) → pos 0 ≤ℤ value d ρ → Certified d r → Holds ρ r
from-slack ρ (a ⊑ b) d z t = omega (
  zarith,
  z,
  normal-nonneg (b ⊖ a ⊖ d) ρ t,
  sub-fact (value b ρ) (value a ρ),
  sub-fact (value b ρ -ℤ value a ρ)
      (value d ρ),
)
from-slack ρ (a ⊏ b) d z t = omega (
  zarith,
  z,
  normal-nonneg (b ⊖ a ⊖ # 1 ⊖ d) ρ t,
  sub-fact (value b ρ) (value a ρ),
  sub-fact (value b ρ -ℤ value a ρ) (pos 1),
  sub-fact (value b ρ -ℤ value a ρ -ℤ pos 1) (value d ρ),
)
from-slack ρ (a ≐ b) d z t = omega (zarith, normal-sound (b ⊖ a) ρ ∙ all_zero-holds (normal (b ⊖ a)) ρ t, sub-fact (value b ρ) (value a ρ))
from-slack ρ (h ⟶ g) d z t = λ p. from-slack ρ g (slack h ⊕ d) (more-slack ρ h d p z) t
from-slack ρ (h & g) d z t = (from-slack ρ h d z t.0, from-slack ρ g d z t.1)
from-slack ρ (q ▹ h ⟹ g) d z t = λ n p. from-slack ρ g (slack (times q h) ⊕ d) (more-slack ρ (times q h) d (times-holds ρ q h n p) z) t
from-slack ρ (q ▸ h ⟹ g) d z t = λ p. from-slack ρ g (slack (times_equal q h) ⊕ d) (more-slack ρ (times_equal q h) d (times_equal-holds ρ q h p) z) t

pub certain : (ρ : List ℤ) (r : Claim) → Certified (# 0) r → Holds ρ r
certain ρ r t = from-slack ρ r (# 0) (omega zarith) t

pub lin : (ρ : List ℤ) (f : Over ρ) → Certified (# 0) (applied ρ 0 f) → Holds ρ (applied ρ 0 f)
lin ρ f t = certain ρ (applied ρ 0 f) t
