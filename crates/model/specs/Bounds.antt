-- Refusals 7, 8 and 9 on the points; 13 is 7 and 8 with other bounds.
use Rattle.std.specs.Prelude.{Bool, false, not, ◌||◌, List, [], ◌∷◌, ◌++◌, map, ℕ, zero, suc, leb, ltb, ℤ, pos, nat_abs, length}
use Rattle.std.specs.Int.Signed.{lt_z, le_z}
use Rattle.integers.specs.Affine.{affine}
use Rattle.lists.specs.Tests.{any}
use Rattle.model.specs.Answer.{Answer, accepted, require, ◌>>◌}
use Rattle.model.specs.Ticket.{Loop, Subscript, Access, Statement, Nest}
use Rattle.model.specs.Grammar.{extents, most_points}
use Rattle.model.specs.Points.{partial_points, iterations}

-- the last index of a point
unfoldable pub last_of : List ℤ → ℤ
last_of [] = pos 0
last_of (x ∷ []) = x
last_of (x ∷ y ∷ p) = last_of (y ∷ p)

-- beyond ±m
unfoldable pub beyond : ℕ → ℤ → Bool
beyond m x = ltb m (nat_abs x)

-- from loop k on, n loops: refused with `far` if a partial point of that depth has its last index beyond ±m, then with `many` if there
-- are more than `most` of them
unfoldable pub survey : ℕ → ℕ → ℕ → ℕ → List Loop → ℕ → ℕ → Answer (Unit {0})
survey far many m most N k zero = accepted tt
survey far many m most N k (suc n) =
    require (not (any (λ p. beyond m (last_of p)) (partial_points k N))) far k
    >> require (leb (length (partial_points k N)) most) many k
    >> survey far many m most N (suc k) n

-- 7, far index, and 8, crowded
unfoldable pub space : List Loop → Answer (Unit {0})
space N = survey 7 8 32767 most_points N 1 (length N)

-- 13, sprawl, of a new nest
unfoldable pub new_space : List Loop → Answer (Unit {0})
new_space N = survey 13 13 100000 65536 N 1 (length N)

-- ---- 9, off the array

unfoldable pub subscript_at : List ℤ → Subscript → ℤ
subscript_at p s = affine s.constant s.coefficients p

-- some subscript is not from 0 to its extent − 1
unfoldable pub outside : List ℕ → List ℤ → Bool
outside [] xs = false
outside (n ∷ ns) [] = false
outside (n ∷ ns) (x ∷ xs) = (lt_z x (pos 0) || le_z (pos n) x) || outside ns xs

unfoldable pub violates : List (List ℕ) → List ℤ → Access → Bool
violates as' p a = outside (extents as' a.array) (map (subscript_at p) a.subscripts)

-- the accesses of a statement in ticket order
unfoldable pub accesses_of : Statement → List Access
accesses_of s = s.writes ++ s.reads

-- statements from number k on
unfoldable pub in_arrays : List (List ℕ) → List (List ℤ) → ℕ → List Statement → Answer (Unit {0})
in_arrays as' ps k [] = accepted tt
in_arrays as' ps k (s ∷ ss) =
    require (not (any (λ p. any (violates as' p) (accesses_of s)) ps)) 9 k
    >> in_arrays as' ps (suc k) ss

-- 7, 8 and 9
unfoldable pub admitted : Nest → Answer (Unit {0})
admitted N = space N.loops >> in_arrays N.arrays (iterations N.loops) 1 N.statements
