-- Where a mark of the set after a step is pulled from: the vectors before the step that give the vector with number n.
use Rattle.std.specs.Prelude.{◌≡◌, Bool, true, false, cond, ◌&&◌, List, [], ◌∷◌, ℕ, ◌+◌, ◌≤◌, ◌<◌, eqb, ltb, length, get_or, set}
use Rattle.integers.specs.Sign.{Sign, less, equal, greater, turned}
use Rattle.lists.specs.Tests.{any}
use Rattle.model.specs.Directions.{by_sign, same_sign, vector_count}
use Rattle.model.specs.Steps.{any_sign, sum_signs}
use Rattle.dependence_vectors.specs.Numbers.{digit, number, base3}
use Rattle.step_preimages.specs.Numbers.{Digits, marked}

-- a number, and a nest of at most six loops that has the loops named
pub record SourceIn (n loops : ℕ) : Type 0 where
  pub below : n < vector_count
  pub few : loops ≤ 6

-- r is the number of what g makes of a vector with number n, which has at least the loops named
pub record Source (g : List Sign → List Sign) (loops n r : ℕ) : Type 0 where
  pub below : r < vector_count
  pub same : (v : List Sign) → loops ≤ length v → length v ≤ 6 → number v ≡ n → r ≡ number (g v)

-- ---- section

-- the one sign that the two came from
unfoldable pub joined : List Sign → List Sign
joined [] = []
joined (x ∷ []) = x ∷ []
joined (x ∷ y ∷ v) = by_sign x less y greater ∷ v

-- places in the digits after the step, with a place more to their right
pub record JoinedIn (a i : ℕ) : Type 0 where
  pub joint : a < 5
  pub place : i < 5

-- the digit at place i of the vector before, from the digits after
abbrev pub joined_digit : List ℕ → ℕ → ℕ → ℕ
joined_digit d a i = cond (ltb i a) (get_or d i 0) (cond (ltb a i) (get_or d (i + 1) 0) (cond (eqb (get_or d a 0) 1) (get_or d (a + 1) 0) (get_or d a 0)))

-- ---- skew

-- r is among the signs that the sum of t and s may have
abbrev pub may_be : Sign → Sign → Sign → Bool
may_be t s r = any (same_sign r) (sum_signs t s)

-- the same of digits
unfoldable pub may_be_digit : ℕ → ℕ → ℕ → Bool
may_be_digit t s r = cond (eqb t 1) (eqb r s) (cond (eqb s 1) (eqb r t) (cond (eqb s t) (eqb r t) true))

-- the sign that is added: as it is by a factor above 0 (true), else turned over
abbrev pub added_sign : Bool → Sign → Sign
added_sign true s = s
added_sign false s = turned s

-- the vector with t at b was marked and may have given v, s the sign that is added at b
abbrev pub gave : List Bool → List Sign → ℕ → Sign → Sign → Bool
gave old v b s t = may_be t s (get_or v b equal) && marked old (set v b t)

-- some vector gave v
unfoldable pub skew_source : List Bool → ℕ → ℕ → Bool → List Sign → Bool
skew_source old a b c v = any (gave old v b (added_sign c (get_or v a equal))) any_sign

pub record SkewSourceIn (a b n : ℕ) : Type 0 where
  pub below : n < vector_count
  pub outer : a < b
  pub few : b < 6

-- r says so of a vector with number n
abbrev pub SkewSource : List Bool → ℕ → ℕ → Bool → ℕ → Bool → Type 0
SkewSource old a b c n r = (v : List Sign) → b < length v → length v ≤ 6 → number v ≡ n → r ≡ skew_source old a b c v

-- s is the digit of the sign that is added
pub record Signed (c : Bool) (x s : ℕ) : Type 0 where
  pub small : s < 3
  pub same : (t : Sign) → x ≡ digit t → s ≡ digit (added_sign c t)

-- what the code holds of it: digits, the sign that is added at b, and t
pub record GaveIn (d : List ℕ) (b s t : ℕ) : Type 0 where
  pub digits : Digits d
  pub inside : b < 6
  pub added : s < 3
  pub replaced : t < 3

unfoldable pub gave_digits : List Bool → List ℕ → ℕ → ℕ → ℕ → Bool
gave_digits old d b s t = may_be_digit t s (get_or d b 0) && get_or old (base3 (set d b t)) false
