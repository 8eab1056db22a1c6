-- Laws of `some`: as a statement; numbers that do not pass; the marks that a loop gathers.
use mathlib.Core.Path.{◌≡◌, sym, ap, ◌∙◌, subst}
use mathlib.Core.Bool.{Bool, false, ◌||◌, or-false, or_assoc, or_comm}
use mathlib.Core.Logic.{◌⊎◌, inl, inr, ⊎_elim}
use mathlib.Core.List.{List}
use Prim.Native.Nat.{ℕ, zero, suc, ◌+◌, ◌≤◌, ◌<◌}
use native.Mathlib.Nat.{add-zero, add-suc, eq-or-lt_of_le, le_of_suc-le-suc}
use native.Mathlib.Omega.{arith}
use native.Mathlib.Numerals.{add-one}
use lib.Dec.{T}
use lib.ListN.{length, get_or}
use Rattle.lists.proofs.TestLaws.{T-same, or_cases, or_left, or_right}
use Rattle.dependence_pair_search.specs.Search.{some, Adds}

-- ---- as a statement

pub some-there : (n : ℕ) (p : ℕ → Bool) → T (some n p) → (k : ℕ) × (k < n) × T (p k)
unfolding some
some-there zero p h = absurd h
some-there (suc n) p h = ⊎_elim (λ g. (n, omega arith, g)) (λ g. let r = some-there n p g in let l = r.1 in (r.0, omega arith, r.2))
    (or_cases (p n) (some n p) h)

pub there-some : (n k : ℕ) (p : ℕ → Bool) → k < n → T (p k) → T (some n p)
unfolding some
there-some zero k p l h = absurd (omega arith)
there-some (suc n) k p l h = ⊎_elim (λ e. or_left (p n) (some n p) (subst (λ m. T (p m)) e h))
    (λ g. or_right (p n) (some n p) (there-some n k p g h)) (eq-or-lt_of_le (le_of_suc-le-suc l))

pub some-none : (n : ℕ) → some n (λ k. false) ≡ false
unfolding some
some-none zero = λ _. false
some-none (suc n) = some-none n

-- numbers that do not pass
pub some-past : (n k : ℕ) (p : ℕ → Bool) → ((i : ℕ) → n ≤ i → i < n + k → p i ≡ false) → some (n + k) p ≡ some n p
unfolding some
some-past n zero p h = rw (add-zero n)
some-past n (suc k) p h = rw (add-suc n k) (ap (◌|| some (n + k) p) (h (n + k) (omega arith) (omega arith))
    ∙ some-past n k p (λ i a b. h i a (omega arith)))

-- ---- the marks that a loop gathers

or-last : (a b c : Bool) → ((a || b) || c) ≡ (a || (c || b))
or-last a b c = or_assoc a b c ∙ ap (a ||◌) (or_comm b c)

pub or-implied : (a b : Bool) → (T b → T a) → a ≡ a || b
or-implied a b h = T-same a (a || b) (or_left a b) (λ g. ⊎_elim (λ k. k) h (or_cases a b g))

-- what the numbers below n set
abbrev pub Gathered : List Bool → List Bool → ℕ → (ℕ → ℕ → Bool) → Type 0
Gathered m₀ m n p = Adds m₀ m (λ j. some n (λ i. p i j))

pub gathered_none : (m : List Bool) (p : ℕ → ℕ → Bool) → Gathered m m 0 p
unfolding some
gathered_none m p j = sym (or-false (get_or m j false))

pub gathered-more : (m₀ m m' : List Bool) (n : ℕ) (p : ℕ → ℕ → Bool) → Gathered m₀ m n p → Adds m m' (p n) → Gathered m₀ m' (n + 1) p
unfolding some
gathered-more m₀ m m' n p g h j = rw (add-one n) (h j ∙ ap (◌|| p n j) (g j) ∙ or-last (get_or m₀ j false) (some n (λ i. p i j)) (p n j))

-- one that sets no more than an earlier one
pub gathered-again : (m₀ m : List Bool) (n k : ℕ) (p : ℕ → ℕ → Bool) → k < n → ((j : ℕ) → p k j ≡ p n j) → Gathered m₀ m n p → Gathered m₀ m (n + 1) p
gathered-again m₀ m n k p l e g = gathered-more m₀ m m n p g (λ j. or-implied (get_or m j false) (p n j)
    (λ h. subst T (sym (g j)) (or_right (get_or m₀ j false) (some n (λ i. p i j)) (there-some n k (λ i. p i j) l (subst T (sym (e j)) h)))))

-- what a turn has done: the number n set its marks, or a lesser one k sets the same
pub record Done (m m' : List Bool) (p : ℕ → Bool) : Type 0 where
  pub same_length : length m' ≡ length m
  pub adds : Adds m m' p

pub gathered-turn : (m₀ m m' : List Bool) (n k : ℕ) (p : ℕ → ℕ → Bool) → Gathered m₀ m n p → length m ≡ length m₀
    → Done m m' (p n) ⊎ ((m' ≡ m) × (k < n) × ((j : ℕ) → p k j ≡ p n j)) → (length m' ≡ length m₀) × Gathered m₀ m' (n + 1) p
gathered-turn m₀ m m' n k p g l (inl d) = (d.same_length ∙ l, gathered-more m₀ m m' n p g d.adds)
gathered-turn m₀ m m' n k p g l (inr d) = subst (λ z. (length z ≡ length m₀) × Gathered m₀ z (n + 1) p) (sym d.0)
    (l, gathered-again m₀ m n k p d.1 d.2 g)
