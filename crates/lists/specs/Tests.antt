-- Tests of a list that compute, from a test of its elements, and the list without what the test finds twice.
-- The statements that they decide are in `Membership`.
use Rattle.std.specs.Prelude.{◌≡◌, Bool, true, false, cond, ◌&&◌, ◌||◌, List, [], ◌∷◌, T}

-- the test passes at equal elements, and at no others
pub record Decides {A : Type 0} (t : A → A → Bool) : Type 0 where
  pub equal : (x y : A) → T (t x y) → x ≡ y
  pub itself : (x : A) → T (t x x)

unfoldable pub all {ℓ} : {A : Type ℓ} → (A → Bool) → List A → Bool
all t [] = true
all t (x ∷ l) = t x && all t l

unfoldable pub any {ℓ} : {A : Type ℓ} → (A → Bool) → List A → Bool
any t [] = false
any t (x ∷ l) = t x || any t l

-- the elements that pass
unfoldable pub select {ℓ} : {A : Type ℓ} → (A → Bool) → List A → List A
select t [] = []
select t (x ∷ l) = cond (t x) (x ∷ select t l) (select t l)

-- equal lists, by a test of elements
unfoldable pub same_by {ℓ} : {A : Type ℓ} → (A → A → Bool) → List A → List A → Bool
same_by t [] [] = true
same_by t [] (y ∷ ys) = false
same_by t (x ∷ xs) [] = false
same_by t (x ∷ xs) (y ∷ ys) = t x y && same_by t xs ys

-- the elements that x does not pass the test with
unfoldable pub without {ℓ} : {A : Type ℓ} → (A → A → Bool) → A → List A → List A
without t x [] = []
without t x (y ∷ l) = cond (t x y) (without t x l) (y ∷ without t x l)

-- the list with each element once, where it first stands
unfoldable pub unique {ℓ} : {A : Type ℓ} → (A → A → Bool) → List A → List A
unique t [] = []
unique t (x ∷ l) = x ∷ without t x (unique t l)
