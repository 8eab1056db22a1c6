-- Changes of a list at a place, counted from 0: what stands before the place stays.
-- A list that ends before the place stays as it is.
use Rattle.std.specs.Prelude.{List, [], ◌∷◌, ◌++◌, map, ℕ, zero, suc, take, drop}

-- a change that begins at place n
unfoldable pub under {ℓ} : {A : Type ℓ} → ℕ → (List A → List A) → List A → List A
under zero f l = f l
under (suc n) f [] = []
under (suc n) f (x ∷ l) = x ∷ under n f l

-- a change with several results that begins at place n
unfoldable pub under_each {ℓ} : {A : Type ℓ} → ℕ → (List A → List (List A)) → List A → List (List A)
under_each zero f l = f l
under_each (suc n) f [] = [] ∷ []
under_each (suc n) f (x ∷ l) = map (λ t. x ∷ t) (under_each n f l)

unfoldable pub on_head {ℓ} : {A : Type ℓ} → (A → A) → List A → List A
on_head f [] = []
on_head f (x ∷ l) = f x ∷ l

-- the first two exchanged
unfoldable pub swapped {ℓ} : {A : Type ℓ} → List A → List A
swapped [] = []
swapped (x ∷ []) = x ∷ []
swapped (x ∷ y ∷ l) = y ∷ x ∷ l

-- neighbours exchanged at each of these places, one after another
unfoldable pub swap_all {ℓ} : {A : Type ℓ} → List ℕ → List A → List A
swap_all [] l = l
swap_all (k ∷ ks) l = swap_all ks (under k swapped l)

-- and back, the last first
unfoldable pub swap_back {ℓ} : {A : Type ℓ} → List ℕ → List A → List A
swap_back [] l = l
swap_back (k ∷ ks) l = under k swapped (swap_back ks l)

-- the item at place a goes to place b, and those between close up
unfoldable pub moved_to {ℓ} : {A : Type ℓ} → ℕ → ℕ → List A → List A
moved_to a b l = under b (λ t. take 1 (drop a l) ++ t) (under a (drop 1) l)
