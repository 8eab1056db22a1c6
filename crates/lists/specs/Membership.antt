-- What a list holds: its members, a property of them all, no member twice, the same members as another.
-- Their order is in `Order`, the tests that compute are in `Tests`.
use mathlib.Core.List.{List, [], ◌∷◌, Memᴰ}

-- a place in the list at which the element stands
abbrev pub Mem {ℓ} : {A : Type ℓ} → A → List A → Type ℓ
Mem x l = Memᴰ x l

abbrev pub All : {A : Type 0} → (A → Type 0) → List A → Type 0
All {A} P l = (x : A) → Mem x l → P x

abbrev pub Distinct : {A : Type 0} → List A → Type 0
Distinct [] = Unit {0}
Distinct (x ∷ l) = (Mem x l → ⊥) × Distinct l

pub record SameMembers {A : Type 0} (xs ys : List A) : Type 0 where
  pub into : (x : A) → Mem x xs → Mem x ys
  pub from : (x : A) → Mem x ys → Mem x xs
