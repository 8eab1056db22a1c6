-- The digits of a vector under the changes that the steps make. In order: one sign read and replaced; turned and exchanged; two joined to one;
-- the test of a sum.
use mathlib.Core.Path.{◌≡◌, refl, sym, ◌∙◌, ap, ap₂}
use mathlib.Core.Bool.{true, false, cond, ◌||◌}
use mathlib.Core.List.{List, [], ◌∷◌, ◌++◌}
use Prim.Native.Nat.{ℕ, zero, suc, ◌+◌, ◌-◌, ◌≤◌, ◌<◌}
use native.Mathlib.Omega.{arith}
use lib.Dec.{eqb}
use lib.ListN.{length, get_or, set, length-set}
use Rattle.integers.specs.Sign.{Sign, less, equal, greater, turned}
use Rattle.lists.specs.Place.{under, on_head, swapped}
use Rattle.lists.specs.Tests.{any}
use Rattle.lists.proofs.MembershipLaws.{all_set}
use Rattle.lists.proofs.PlaceLaws.{under-on_head, under-swapped}
use Rattle.model.specs.Directions.{by_sign, same_sign}
use Rattle.model.specs.Steps.{any_sign, sum_signs}
use Rattle.dependence_vectors.specs.Numbers.{digit, digits_in}
use Rattle.step_preimages.specs.Numbers.{Digits}
use Rattle.step_preimages.specs.Sources.{joined, joined_digit, may_be, may_be_digit}

-- ---- one sign

pub digit_at : (k : ℕ) (v : List Sign) (a : ℕ) → a < length v → length v ≤ k → get_or (digits_in k v) a 0 ≡ digit (get_or v a equal)
unfolding digits_in
digit_at k [] a h l = absurd (omega arith)
digit_at zero (s ∷ v) a h l = absurd (omega arith)
digit_at (suc k) (s ∷ v) zero h l = refl
digit_at (suc k) (s ∷ v) (suc a) h l = digit_at k v a (omega arith) (omega arith)

pub digit_set : (k : ℕ) (v : List Sign) (a : ℕ) (t : Sign) → a < length v → length v ≤ k → set (digits_in k v) a (digit t) ≡ digits_in k (set v a t)
unfolding digits_in
digit_set k [] a t h l = absurd (omega arith)
digit_set zero (s ∷ v) a t h l = absurd (omega arith)
digit_set (suc k) (s ∷ v) zero t h l = refl
digit_set (suc k) (s ∷ v) (suc a) t h l = ap (λ d. digit s ∷ d) (digit_set k v a t (omega arith) (omega arith))

pub set-digits : (d : List ℕ) (a x : ℕ) → Digits d → x < 3 → Digits (set d a x)
set-digits d a x h k = record { six = length-set d a x ∙ h.six; small = all_set (λ y. y < 3) d a x k h.small }

-- ---- turned and exchanged

pub digit-turned : (s : Sign) → 2 - digit s ≡ digit (turned s)
unfolding digit
digit-turned less = refl
digit-turned equal = refl
digit-turned greater = refl

pub turned-digits : (k : ℕ) (v : List Sign) (a : ℕ) → a < length v → length v ≤ k
    → set (digits_in k v) a (2 - get_or (digits_in k v) a 0) ≡ digits_in k (under a (on_head turned) v)
turned-digits k v a h l =
    ap (λ x. set (digits_in k v) a (2 - x)) (digit_at k v a h l) ∙ ap (set (digits_in k v) a) (digit-turned (get_or v a equal))
    ∙ digit_set k v a (turned (get_or v a equal)) h l ∙ ap (digits_in k) (sym (under-on_head turned a v equal))

pub swapped-digits : (k : ℕ) (v : List Sign) (a : ℕ) → suc a < length v → length v ≤ k
    → set (set (digits_in k v) a (get_or (digits_in k v) (suc a) 0)) (suc a) (get_or (digits_in k v) a 0) ≡ digits_in k (under a swapped v)
swapped-digits k v a h l =
    let x = get_or v a equal in
    let y = get_or v (suc a) equal in
    ap₂ (λ p q. set (set (digits_in k v) a p) (suc a) q) (digit_at k v (suc a) h l) (digit_at k v a (omega arith) l)
    ∙ ap (λ d. set d (suc a) (digit x)) (digit_set k v a y (omega arith) l)
    ∙ digit_set k (set v a y) (suc a) x (rw (length-set v a y) h) (rw (length-set v a y) l) ∙ ap (digits_in k) (sym (under-swapped a v equal h))

-- ---- two joined to one

digits_in-longer : (k : ℕ) (v : List Sign) → length v ≤ k → digits_in k v ++ (1 ∷ []) ≡ digits_in (suc k) v
unfolding digits_in
digits_in-longer zero [] l = refl
digits_in-longer zero (s ∷ v) l = absurd (omega arith)
digits_in-longer (suc k) [] l = ap (λ d. 1 ∷ d) (digits_in-longer k [] (omega arith))
digits_in-longer (suc k) (s ∷ v) l = ap (λ d. digit s ∷ d) (digits_in-longer k v (omega arith))

-- the two digits at a place joined to one, and the digit of = at the end
unfoldable closed : ℕ → List ℕ → List ℕ
closed a [] = []
closed zero (x ∷ []) = x ∷ []
closed zero (x ∷ y ∷ d) = cond (eqb x 1) y x ∷ (d ++ (1 ∷ []))
closed (suc a) (x ∷ d) = x ∷ closed a d

digit-joined : (x y : Sign) → cond (eqb (digit x) 1) (digit y) (digit x) ≡ digit (by_sign x less y greater)
unfolding digit
digit-joined less y = refl
digit-joined equal y = refl
digit-joined greater y = refl

closed-digits : (k : ℕ) (v : List Sign) (a : ℕ) → suc a < length v → length v ≤ k → closed a (digits_in k v) ≡ digits_in k (under a joined v)
unfolding closed digits_in under joined
closed-digits k [] a h l = absurd (omega arith)
closed-digits zero (x ∷ v) a h l = absurd (omega arith)
closed-digits (suc k) (x ∷ []) zero h l = absurd (omega arith)
closed-digits (suc zero) (x ∷ y ∷ v) zero h l = absurd (omega arith)
closed-digits (suc (suc k)) (x ∷ y ∷ v) zero h l = ap₂ ◌∷◌ (digit-joined x y) (digits_in-longer k v (omega arith))
closed-digits (suc k) (x ∷ v) (suc a) h l = ap (λ d. digit x ∷ d) (closed-digits k v a (omega arith) (omega arith))

-- as the code has them
abbrev pub joined_digits : List ℕ → ℕ → List ℕ
joined_digits d a = joined_digit d a 0 ∷ joined_digit d a 1 ∷ joined_digit d a 2 ∷ joined_digit d a 3 ∷ joined_digit d a 4 ∷ 1 ∷ []

six-closed : (d : List ℕ) (a : ℕ) → length d ≡ 6 → a < 5 → joined_digits d a ≡ closed a d
unfolding closed
six-closed (x ∷ y ∷ z ∷ u ∷ v ∷ w ∷ []) zero e h = refl
six-closed (x ∷ y ∷ z ∷ u ∷ v ∷ w ∷ []) (suc zero) e h = refl
six-closed (x ∷ y ∷ z ∷ u ∷ v ∷ w ∷ []) (suc (suc zero)) e h = refl
six-closed (x ∷ y ∷ z ∷ u ∷ v ∷ w ∷ []) (suc (suc (suc zero))) e h = refl
six-closed (x ∷ y ∷ z ∷ u ∷ v ∷ w ∷ []) (suc (suc (suc (suc zero)))) e h = refl
six-closed (x ∷ y ∷ z ∷ u ∷ v ∷ w ∷ []) (suc (suc (suc (suc (suc a))))) e h = absurd (omega arith)
six-closed [] a e h = absurd (omega arith)
six-closed (x ∷ []) a e h = absurd (omega arith)
six-closed (x ∷ y ∷ []) a e h = absurd (omega arith)
six-closed (x ∷ y ∷ z ∷ []) a e h = absurd (omega arith)
six-closed (x ∷ y ∷ z ∷ u ∷ []) a e h = absurd (omega arith)
six-closed (x ∷ y ∷ z ∷ u ∷ v ∷ []) a e h = absurd (omega arith)
six-closed (x ∷ y ∷ z ∷ u ∷ v ∷ w ∷ r ∷ d) a e h = absurd (omega arith)

pub joined-digits : (v : List Sign) (a : ℕ) → a + 2 ≤ length v → length v ≤ 6 → length (digits_in 6 v) ≡ 6
    → joined_digits (digits_in 6 v) a ≡ digits_in 6 (under a joined v)
joined-digits v a h l e = six-closed (digits_in 6 v) a e (omega arith) ∙ closed-digits 6 v a (omega arith) l

-- ---- the test of a sum

pub same-digit : (r s : Sign) → eqb (digit r) (digit s) ≡ (same_sign r s || false)
unfolding digit
same-digit less less = refl
same-digit less equal = refl
same-digit less greater = refl
same-digit equal less = refl
same-digit equal equal = refl
same-digit equal greater = refl
same-digit greater less = refl
same-digit greater equal = refl
same-digit greater greater = refl

every-digit : (r : Sign) → true ≡ any (same_sign r) any_sign
unfolding any any_sign
every-digit less = refl
every-digit equal = refl
every-digit greater = refl

pub may_be-digits : (t s r : Sign) → may_be_digit (digit t) (digit s) (digit r) ≡ may_be t s r
unfolding may_be_digit sum_signs any digit
may_be-digits equal s r = same-digit r s
may_be-digits less equal r = same-digit r less
may_be-digits less less r = same-digit r less
may_be-digits less greater r = every-digit r
may_be-digits greater equal r = same-digit r greater
may_be-digits greater less r = every-digit r
may_be-digits greater greater r = same-digit r greater
