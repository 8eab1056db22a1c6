-- The order in which a list has its elements.
use Rattle.std.specs.Prelude.{◌≡◌, ◌⊎◌, List, [], ◌∷◌}
use Rattle.lists.specs.Membership.{Mem, All}

-- every element is in R with every later one
abbrev pub Ordered : {A : Type 0} → (A → A → Type 0) → List A → Type 0
Ordered R [] = Unit {0}
Ordered R (x ∷ l) = All (R x) l × Ordered R l

-- x stands before y
abbrev pub Precedes : {A : Type 0} → List A → A → A → Type 0
Precedes [] x y = ⊥
Precedes (z ∷ l) x y = ((x ≡ z) × Mem y l) ⊎ Precedes l x y
