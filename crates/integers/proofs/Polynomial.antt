-- Expressions over a list of atoms and their normal form, a sorted sum of monomials, which the kernel computes: first expressions, then
-- monomials, then sums, then that an expression's value is its normal form's (`normal-sound`), then that value as a difference in ℕ.
-- Used through `Linear` and `Quote`.
use mathlib.Core.Path.{◌≡◌, refl, sym, ◌∙◌, ap, ap₂, subst}
use mathlib.Core.List.{List, [], ◌∷◌}
use Prim.Native.Nat.{ℕ, zero, suc, ◌+◌, ◌*◌, compare, Ordering}
use native.Mathlib.Omega.{arith}
use lib.Dec.{T, compare_is_eq, eqb→eq}
use lib.IntN.{ℤ, pos, negsuc, neg_ℤ, ◌+ℤ◌, ◌-ℤ◌, ◌*ℤ◌}
use Rattle.integers.specs.Difference.{up, down}
use Rattle.integers.proofs.DifferenceLaws.{mul-fact}
use Rattle.integers.proofs.RingLaws.{Is, is, is-neg, is-add, is_mul, same, *ℤ-assoc, *ℤ-left-comm, *ℤ-identityˡ, *ℤ-distribˡ, +ℤ-left-comm}

-- ---- expressions

infixl 80 ◌⊕◌ ◌⊖◌
infixl 90 ◌⊗◌
pub data Expr : Type 0 where
  atom : ℕ → Expr
  lit : ℤ → Expr
  ◌⊕◌ ◌⊖◌ ◌⊗◌ : Expr → Expr → Expr
  ⊝ : Expr → Expr

abbrev pub # : ℕ → Expr
# n = lit (pos n)

abbrev pub nth : List ℤ → ℕ → ℤ
nth [] i = pos 0
nth (x ∷ ρ) zero = x
nth (x ∷ ρ) (suc i) = nth ρ i

abbrev pub value : Expr → List ℤ → ℤ
value (atom i) ρ = nth ρ i
value (lit z) ρ = z
value (a ⊕ b) ρ = value a ρ +ℤ value b ρ
value (a ⊖ b) ρ = value a ρ -ℤ value b ρ
value (a ⊗ b) ρ = value a ρ *ℤ value b ρ
value (⊝ a) ρ = neg_ℤ (value a ρ)

-- ---- monomials: the places of the factors, sorted

abbrev pub product : ℕ → List ℕ → List ℤ → ℤ
product i [] ρ = nth ρ i
product i (j ∷ m) ρ = nth ρ i *ℤ product j m ρ

-- with no factor 1 at the end, so that a single atom stays itself
abbrev pub monomial : List ℕ → List ℤ → ℤ
monomial [] ρ = pos 1
monomial (i ∷ m) ρ = product i m ρ

abbrev pub pick : Ordering → List ℕ → List ℕ → List ℕ
pick Ordering.lt x y = x
pick Ordering.eq x y = x
pick Ordering.gt x y = y

abbrev pub insert : ℕ → List ℕ → List ℕ
insert i [] = i ∷ []
insert i (j ∷ m) = pick (compare i j) (i ∷ j ∷ m) (j ∷ insert i m)

abbrev pub merge : List ℕ → List ℕ → List ℕ
merge [] n = n
merge (i ∷ m) n = insert i (merge m n)

-- ---- sums: coefficient and monomial, sorted by the monomials

pub data Sum : Type 0 where
  none : Sum
  more : ℤ → List ℕ → Sum → Sum

abbrev pub then : Ordering → Ordering → Ordering
then Ordering.lt o = Ordering.lt
then Ordering.eq o = o
then Ordering.gt o = Ordering.gt

abbrev pub order : List ℕ → List ℕ → Ordering
order [] [] = Ordering.eq
order [] (j ∷ n) = Ordering.lt
order (i ∷ m) [] = Ordering.gt
order (i ∷ m) (j ∷ n) = then (compare i j) (order m n)

abbrev pub place : Ordering → ℤ → List ℕ → ℤ → List ℕ → Sum → Sum → Sum
place Ordering.lt c m c' m' s r = more c m (more c' m' s)
place Ordering.eq c m c' m' s r = more (c +ℤ c') m' s
place Ordering.gt c m c' m' s r = more c' m' r

abbrev pub plus : ℤ → List ℕ → Sum → Sum
plus c m none = more c m none
plus c m (more c' m' s) = place (order m m') c m c' m' s (plus c m s)

abbrev pub add_sums : Sum → Sum → Sum
add_sums none t = t
add_sums (more c m s) t = plus c m (add_sums s t)

abbrev pub neg_sum : Sum → Sum
neg_sum none = none
neg_sum (more c m s) = more (neg_ℤ c) m (neg_sum s)

abbrev pub scaled : ℤ → List ℕ → Sum → Sum
scaled c m none = none
scaled c m (more c' m' s) = plus (c *ℤ c') (merge m m') (scaled c m s)

abbrev pub mul_sums : Sum → Sum → Sum
mul_sums none t = none
mul_sums (more c m s) t = add_sums (scaled c m t) (mul_sums s t)

abbrev pub normal : Expr → Sum
normal (atom i) = more (pos 1) (i ∷ []) none
normal (lit z) = more z [] none
normal (a ⊕ b) = add_sums (normal a) (normal b)
normal (a ⊖ b) = add_sums (normal a) (neg_sum (normal b))
normal (a ⊗ b) = mul_sums (normal a) (normal b)
normal (⊝ a) = neg_sum (normal a)

abbrev pub total : Sum → List ℤ → ℤ
total none ρ = pos 0
total (more c m s) ρ = c *ℤ monomial m ρ +ℤ total s ρ

-- ---- soundness of monomials

monomial-cons : (i : ℕ) (m : List ℕ) (ρ : List ℤ) → monomial (i ∷ m) ρ ≡ nth ρ i *ℤ monomial m ρ
monomial-cons i [] ρ = same (is (nth ρ i)) (is_mul (is (nth ρ i)) (is (pos 1))) (omega arith)
monomial-cons i (j ∷ m) ρ = refl

monomial-pick : (o : Ordering) (x y : List ℕ) (ρ : List ℤ) (v : ℤ) → monomial x ρ ≡ v → monomial y ρ ≡ v → monomial (pick o x y) ρ ≡ v
monomial-pick Ordering.lt x y ρ v p q = p
monomial-pick Ordering.eq x y ρ v p q = p
monomial-pick Ordering.gt x y ρ v p q = q

monomial-insert : (i : ℕ) (m : List ℕ) (ρ : List ℤ) → monomial (insert i m) ρ ≡ nth ρ i *ℤ monomial m ρ
monomial-insert i [] ρ = monomial-cons i [] ρ
monomial-insert i (j ∷ m) ρ = monomial-pick (compare i j) (i ∷ j ∷ m) (j ∷ insert i m) ρ (nth ρ i *ℤ monomial (j ∷ m) ρ) refl
    (monomial-cons j (insert i m) ρ
    ∙ ap (λ t. nth ρ j *ℤ t) (monomial-insert i m ρ)
    ∙ *ℤ-left-comm (nth ρ j) (nth ρ i) (monomial m ρ)
    ∙ ap (λ t. nth ρ i *ℤ t) (sym (monomial-cons j m ρ)))

monomial-merge : (m n : List ℕ) (ρ : List ℤ) → monomial (merge m n) ρ ≡ monomial m ρ *ℤ monomial n ρ
monomial-merge [] n ρ = sym (*ℤ-identityˡ (monomial n ρ))
monomial-merge (i ∷ m) n ρ =
    monomial-insert i (merge m n) ρ
    ∙ ap (λ t. nth ρ i *ℤ t) (monomial-merge m n ρ)
    ∙ sym (*ℤ-assoc (nth ρ i) (monomial m ρ) (monomial n ρ))
    ∙ ap (λ t. t *ℤ monomial n ρ) (sym (monomial-cons i m ρ))

then-eq : (o p : Ordering) → T (compare_is_eq (then o p)) → T (compare_is_eq o) × T (compare_is_eq p)
then-eq Ordering.lt p t = absurd t
then-eq Ordering.eq p t = (tt, t)
then-eq Ordering.gt p t = absurd t

order-eq : (m n : List ℕ) → T (compare_is_eq (order m n)) → m ≡ n
order-eq [] [] t = refl
order-eq [] (j ∷ n) t = absurd t
order-eq (i ∷ m) [] t = absurd t
order-eq (i ∷ m) (j ∷ n) t = let e = then-eq (compare i j) (order m n) t in ap₂ ◌∷◌ (eqb→eq i j e.0) (order-eq m n e.1)

-- ---- soundness of sums

total-place : (o : Ordering) (c : ℤ) (m : List ℕ) (c' : ℤ) (m' : List ℕ) (s r : Sum) (ρ : List ℤ) → (T (compare_is_eq o) → m ≡ m')
    → total r ρ ≡ c *ℤ monomial m ρ +ℤ total s ρ
    → total (place o c m c' m' s r) ρ ≡ c *ℤ monomial m ρ +ℤ (c' *ℤ monomial m' ρ +ℤ total s ρ)
total-place Ordering.lt c m c' m' s r ρ f e = refl
total-place Ordering.eq c m c' m' s r ρ f e = joined c c' (monomial m' ρ) (total s ρ)
    ∙ ap (λ t. c *ℤ monomial t ρ +ℤ (c' *ℤ monomial m' ρ +ℤ total s ρ)) (sym (f tt))
  where
    joined : (c c' M Σ : ℤ) → (c +ℤ c') *ℤ M +ℤ Σ ≡ c *ℤ M +ℤ (c' *ℤ M +ℤ Σ)
    joined c c' M Σ = same (is-add (is_mul (is-add (is c) (is c')) (is M)) (is Σ))
        (is-add (is_mul (is c) (is M)) (is-add (is_mul (is c') (is M)) (is Σ))) (omega arith)
total-place Ordering.gt c m c' m' s r ρ f e = ap (λ t. c' *ℤ monomial m' ρ +ℤ t) e
    ∙ +ℤ-left-comm (c' *ℤ monomial m' ρ) (c *ℤ monomial m ρ) (total s ρ)

total-plus : (c : ℤ) (m : List ℕ) (s : Sum) (ρ : List ℤ) → total (plus c m s) ρ ≡ c *ℤ monomial m ρ +ℤ total s ρ
total-plus c m none ρ = refl
total-plus c m (more c' m' s) ρ = total-place (order m m') c m c' m' s (plus c m s) ρ (order-eq m m') (total-plus c m s ρ)

total-add : (s t : Sum) (ρ : List ℤ) → total (add_sums s t) ρ ≡ total s ρ +ℤ total t ρ
total-add none t ρ = same (is (total t ρ)) (is-add (is (pos 0)) (is (total t ρ))) (omega arith)
total-add (more c m s) t ρ = total-plus c m (add_sums s t) ρ ∙ ap (λ u. c *ℤ monomial m ρ +ℤ u) (total-add s t ρ)
    ∙ regrouped (c *ℤ monomial m ρ) (total s ρ) (total t ρ)
  where
    regrouped : (a b c : ℤ) → a +ℤ (b +ℤ c) ≡ a +ℤ b +ℤ c
    regrouped a b c = same (is-add (is a) (is-add (is b) (is c))) (is-add (is-add (is a) (is b)) (is c)) (omega arith)

total-neg : (s : Sum) (ρ : List ℤ) → total (neg_sum s) ρ ≡ neg_ℤ (total s ρ)
total-neg none ρ = refl
total-neg (more c m s) ρ = ap (λ u. neg_ℤ c *ℤ monomial m ρ +ℤ u) (total-neg s ρ) ∙ outside c (monomial m ρ) (total s ρ)
  where
    outside : (c M Σ : ℤ) → neg_ℤ c *ℤ M +ℤ neg_ℤ Σ ≡ neg_ℤ (c *ℤ M +ℤ Σ)
    outside c M Σ = same (is-add (is_mul (is-neg (is c)) (is M)) (is-neg (is Σ))) (is-neg (is-add (is_mul (is c) (is M)) (is Σ))) (omega arith)

total-scaled : (c : ℤ) (m : List ℕ) (t : Sum) (ρ : List ℤ) → total (scaled c m t) ρ ≡ c *ℤ monomial m ρ *ℤ total t ρ
total-scaled c m none ρ = same (is (pos 0)) (is_mul (is (c *ℤ monomial m ρ)) (is (pos 0))) (omega arith)
total-scaled c m (more c' m' s) ρ =
    total-plus (c *ℤ c') (merge m m') (scaled c m s) ρ
    ∙ ap₂ (λ x y. c *ℤ c' *ℤ x +ℤ y) (monomial-merge m m' ρ) (total-scaled c m s ρ)
    ∙ outside c c' (monomial m ρ) (monomial m' ρ) (total s ρ)
  where
    crossed : (a b c d : ℤ) → a *ℤ b *ℤ (c *ℤ d) ≡ a *ℤ c *ℤ (b *ℤ d)
    crossed a b c d = same (is_mul (is_mul (is a) (is b)) (is_mul (is c) (is d))) (is_mul (is_mul (is a) (is c)) (is_mul (is b) (is d))) (omega arith)

    outside : (c c' M M' Σ : ℤ) → c *ℤ c' *ℤ (M *ℤ M') +ℤ c *ℤ M *ℤ Σ ≡ c *ℤ M *ℤ (c' *ℤ M' +ℤ Σ)
    outside c c' M M' Σ = ap (λ t. t +ℤ c *ℤ M *ℤ Σ) (crossed c c' M M') ∙ sym (*ℤ-distribˡ (c *ℤ M) (c' *ℤ M') Σ)

total-mul : (s t : Sum) (ρ : List ℤ) → total (mul_sums s t) ρ ≡ total s ρ *ℤ total t ρ
total-mul none t ρ = same (is (pos 0)) (is_mul (is (pos 0)) (is (total t ρ))) (omega arith)
total-mul (more c m s) t ρ =
    total-add (scaled c m t) (mul_sums s t) ρ
    ∙ ap₂ ◌+ℤ◌ (total-scaled c m t ρ) (total-mul s t ρ)
    ∙ joined (c *ℤ monomial m ρ) (total s ρ) (total t ρ)
  where
    joined : (a b c : ℤ) → a *ℤ c +ℤ b *ℤ c ≡ (a +ℤ b) *ℤ c
    joined a b c = same (is-add (is_mul (is a) (is c)) (is_mul (is b) (is c))) (is_mul (is-add (is a) (is b)) (is c)) (omega arith)

pub normal-sound : (e : Expr) (ρ : List ℤ) → value e ρ ≡ total (normal e) ρ
normal-sound (atom i) ρ = same (is (nth ρ i)) (is-add (is_mul (is (pos 1)) (is (nth ρ i))) (is (pos 0))) (omega arith)
normal-sound (lit z) ρ = same (is z) (is-add (is_mul (is z) (is (pos 1))) (is (pos 0))) (omega arith)
normal-sound (a ⊕ b) ρ = ap₂ ◌+ℤ◌ (normal-sound a ρ) (normal-sound b ρ) ∙ sym (total-add (normal a) (normal b) ρ)
normal-sound (a ⊖ b) ρ =
    ap₂ ◌-ℤ◌ (normal-sound a ρ) (normal-sound b ρ)
    ∙ ap (λ t. total (normal a) ρ +ℤ t) (sym (total-neg (normal b) ρ))
    ∙ sym (total-add (normal a) (neg_sum (normal b)) ρ)
normal-sound (a ⊗ b) ρ = ap₂ ◌*ℤ◌ (normal-sound a ρ) (normal-sound b ρ) ∙ sym (total-mul (normal a) (normal b) ρ)
normal-sound (⊝ a) ρ = ap neg_ℤ (normal-sound a ρ) ∙ sym (total-neg (normal a) ρ)

-- ---- a sum as the difference of two naturals, in which each monomial is two atoms for `omega`

abbrev pub term_up : ℤ → ℤ → ℕ
term_up (pos n) z = n * up z
term_up (negsuc n) z = suc n * down z

abbrev pub term_down : ℤ → ℤ → ℕ
term_down (pos n) z = n * down z
term_down (negsuc n) z = suc n * up z

abbrev pub sum_up : Sum → List ℤ → ℕ
sum_up none ρ = 0
sum_up (more c m s) ρ = term_up c (monomial m ρ) + sum_up s ρ

abbrev pub sum_down : Sum → List ℤ → ℕ
sum_down none ρ = 0
sum_down (more c m s) ρ = term_down c (monomial m ρ) + sum_down s ρ

is-term : (c z : ℤ) → Is (c *ℤ z) (term_up c z) (term_down c z)
is-term (pos n) z = omega (arith, mul-fact (pos n) z)
is-term (negsuc n) z = omega (arith, mul-fact (negsuc n) z)

is-total : (s : Sum) (ρ : List ℤ) → Is (total s ρ) (sum_up s ρ) (sum_down s ρ)
is-total none ρ = is (pos 0)
is-total (more c m s) ρ = is-add (is-term c (monomial m ρ)) (is-total s ρ)

pub is-value : (e : Expr) (ρ : List ℤ) → Is (value e ρ) (sum_up (normal e) ρ) (sum_down (normal e) ρ)
is-value e ρ = subst (λ (z : ℤ). Is z (sum_up (normal e) ρ) (sum_down (normal e) ρ)) (sym (normal-sound e ρ)) (is-total (normal e) ρ)
