-- Words put over a list: they stay small, and the front stays.
use mathlib.Core.Path.{◌≡◌, sym, ap, ◌∙◌}
use mathlib.Core.List.{List, [], ◌∷◌, ◌++◌}
use Prim.Native.Nat.{ℕ, ◌+◌, ◌<◌}
use lib.IntN.{ℤ}
use lib.ListN.{length, get_or, take, drop}
use lib.Seq.{get_or-take}
use Rattle.lists.specs.Parts.{put}
use Rattle.integers.specs.Affine.{Within}
use Rattle.integers.proofs.AffineLaws.{within-take}
use Rattle.nest_index_range.proofs.LimitLaws.{within-drop}

pub within-append : (n : ℕ) (l m : List ℤ) → Within n l → Within n m → Within n (l ++ m)
within-append n [] m p q = q
within-append n (x ∷ l) m p q = (p.0, within-append n l m p.1 q)

pub within-put : (n : ℕ) (o : List ℤ) (p : ℕ) (xs : List ℤ) → Within n o → Within n xs → Within n (put o p xs)
unfolding put
within-put n o p xs g h =
    within-append n (take p o) (xs ++ drop (p + length xs) o) (within-take n o p g)
    (within-append n xs (drop (p + length xs) o) h (within-drop n o (p + length xs) g))

-- lists with one front
pub get_d_front : {A : Type 0} (m : ℕ) (s t : List A) (i : ℕ) (d : A) → take m s ≡ take m t → i < m → get_or s i d ≡ get_or t i d
get_d_front m s t i d e h = sym (get_or-take m s i d h) ∙ ap (λ l. get_or l i d) e ∙ get_or-take m t i d h
