-- Flat slices with rows laid over them, and the row of an array (`nest_flat`, specs/Layout).
use Rattle.std.specs.Prelude.{List, [], ◌∷◌, ℕ, suc, ◌*◌, length}
use Rattle.lists.specs.Parts.{put}

-- rows of at most w elements, from row j on
unfoldable pub lay_rows : {A : Type 0} → ℕ → List A → ℕ → List (List A) → List A
lay_rows w s j [] = s
lay_rows w s j (x ∷ xs) = lay_rows w (put s (j * w) x) (suc j) xs

-- an array's words
unfoldable pub shape_words : List ℕ → List ℕ
shape_words a = length a ∷ a
