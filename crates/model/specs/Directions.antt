-- Conflicts and their directions: kinds, sign vectors, the lines of a listing, the set of vectors.
use Rattle.std.specs.Prelude.{Bool, true, false, cond, ◌&&◌, ◌||◌, ℕ, zero, suc, ltb, ℤ}
use mathlib.Core.List.{List, [], ◌∷◌, ◌++◌, map, flat_map}
use Rattle.integers.specs.Sign.{Sign, less, equal, greater, sign, eq_z}
use Rattle.lists.specs.Tests.{any, select, same_by}
use Rattle.model.specs.Machine.{Instance, Accesses, meet}

-- ---- signs

unfoldable pub signs : List ℤ → List ℤ → List Sign
signs [] q = []
signs (x ∷ p) [] = []
signs (x ∷ p) (y ∷ q) = sign x y ∷ signs p q

-- by the first sign other than =
abbrev pub by_sign : {A : Type 0} → Sign → A → A → A → A
by_sign less a b c = a
by_sign equal a b c = b
by_sign greater a b c = c

-- the first sign other than = is >
unfoldable pub backwards : List Sign → Bool
backwards [] = false
backwards (s ∷ v) = by_sign s false (backwards v) true

-- by rising first index, then second and so on
unfoldable pub earlier : List ℤ → List ℤ → Bool
earlier [] q = false
earlier (x ∷ p) [] = false
earlier (x ∷ p) (y ∷ q) = by_sign (sign x y) true (earlier p q) false

-- ---- conflicts

-- flow (F): write then read; anti (A): read then write; output (O): write then write
pub data Kind : Type 0 where
  flow anti output : Kind

abbrev pub kind_count : ℕ
kind_count = 3

-- the vectors of most_loops signs
abbrev pub vector_count : ℕ
vector_count = 729

unfoldable pub kinds : List Kind
kinds = flow ∷ anti ∷ output ∷ []

-- an access of the source i and an access of the sink j name one element, in the way of the kind
unfoldable pub conflict_of : Kind → Accesses → Instance → Instance → Bool
conflict_of flow A i j = meet (A.writes i) (A.reads j)
conflict_of anti A i j = meet (A.reads i) (A.writes j)
conflict_of output A i j = meet (A.writes i) (A.writes j)

unfoldable pub conflict : Accesses → Instance → Instance → Bool
conflict A i j = any (λ k. conflict_of k A i j) kinds

-- ---- the set of vectors, kinds merged: of every instance with every later one that it conflicts with

unfoldable pub vectors_from : Accesses → Instance → List Instance → List (List Sign)
vectors_from A i [] = []
vectors_from A i (j ∷ xs) = cond (conflict A i j) (signs i.iteration j.iteration ∷ []) [] ++ vectors_from A i xs

unfoldable pub directions : Accesses → List Instance → List (List Sign)
directions A [] = []
directions A (i ∷ xs) = vectors_from A i xs ++ directions A xs

-- ---- the lines of a listing

pub record Line : Type 0 where
  pub kind : Kind
  pub source : ℕ
  pub sink : ℕ
  pub vector : List Sign

-- the earlier instance is the source: of an earlier iteration, or of the same one and earlier in the body. In the order of a nest that is the one
-- that stands before the other, so that the vectors of the lines are those of `step_directions` (`kinds-merged` in `proofs/Demands`)
unfoldable pub comes_first : Instance → Instance → Bool
comes_first i j = earlier i.iteration j.iteration || (same_by eq_z i.iteration j.iteration && ltb i.statement j.statement)

abbrev pub same_sign : Sign → Sign → Bool
same_sign less less = true
same_sign less equal = false
same_sign less greater = false
same_sign equal less = false
same_sign equal equal = true
same_sign equal greater = false
same_sign greater less = false
same_sign greater equal = false
same_sign greater greater = true

-- two conflicting accesses have it, at some two of the points
unfoldable pub occurs : Accesses → List (List ℤ) → Line → Bool
occurs A ps l = any (λ p. any (λ q. found (record { statement = l.source; iteration = p }) (record { statement = l.sink; iteration = q })) ps) ps
  where
    found : Instance → Instance → Bool
    found i j = comes_first i j && (conflict_of l.kind A i j && same_by same_sign (signs i.iteration j.iteration) l.vector)

-- 0, 1, .. (n of them, from k)
unfoldable pub up_from : ℕ → ℕ → List ℕ
up_from k zero = []
up_from k (suc n) = k ∷ up_from (suc k) n

-- all vectors of d signs, by signs < = >
unfoldable pub sign_vectors : ℕ → List (List Sign)
sign_vectors zero = [] ∷ []
sign_vectors (suc d) = flat_map (λ s. map (λ v. s ∷ v) (sign_vectors d)) (less ∷ equal ∷ greater ∷ [])

-- every line that there could be, by source, sink, kind F A O, then signs
unfoldable pub all_lines : ℕ → ℕ → List Line
all_lines n d =
    flat_map (λ s.
    flat_map (λ t.
    flat_map (λ k. map (λ v. record { kind = k; source = s; sink = t; vector = v }) (sign_vectors d)) kinds)
    (up_from 0 n)) (up_from 0 n)

-- n statements, d loops
unfoldable pub lines : Accesses → ℕ → ℕ → List (List ℤ) → List Line
lines A n d ps = select (occurs A ps) (all_lines n d)
