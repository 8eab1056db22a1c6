-- Parts of a flat list: its rows, and a list with a part overwritten.
use Rattle.std.specs.Prelude.{List, [], ◌∷◌, ◌++◌, ℕ, zero, suc, ◌+◌, length, take, drop}

-- the first n rows of w elements
unfoldable pub rows {ℓ} : {A : Type ℓ} → ℕ → ℕ → List A → List (List A)
rows w zero l = []
rows w (suc n) l = take w l ∷ rows w n (drop w l)

-- o with xs written over it from place p on
unfoldable pub put {ℓ} : {A : Type ℓ} → List A → ℕ → List A → List A
put o p xs = take p o ++ (xs ++ drop (p + length xs) o)
