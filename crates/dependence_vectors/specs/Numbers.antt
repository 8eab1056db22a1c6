-- The number of a vector: its six signs as base-three digits, the outermost most significant; and the place of a line's mark.
use Rattle.std.specs.Prelude.{◌≡◌, List, [], ◌∷◌, ℕ, zero, suc, ◌+◌, ◌*◌, ◌^◌, ◌≤◌, ℤ, length, drop}
use Rattle.integers.specs.Sign.{Sign, less, equal, greater}
use Rattle.model.specs.Directions.{Kind, flow, anti, output, kind_count, Line, vector_count, signs}
use Rattle.model.specs.Grammar.{most_loops}

-- < = > as 0, 1, 2
unfoldable pub digit : Sign → ℕ
digit less = 0
digit equal = 1
digit greater = 2

-- the first k signs; a sign that is missing counts as =
unfoldable pub digits_in : ℕ → List Sign → List ℕ
digits_in zero v = []
digits_in (suc k) [] = 1 ∷ digits_in k []
digits_in (suc k) (s ∷ v) = digit s ∷ digits_in k v

-- the first most significant
unfoldable pub base3 : List ℕ → ℕ
base3 [] = 0
base3 (x ∷ d) = x * 3 ^ length d + base3 d

unfoldable pub number : List Sign → ℕ
number v = base3 (digits_in 6 v)

-- what a loop over the signs makes of n
unfoldable pub number_after : ℕ → List Sign → ℕ
number_after n [] = n
number_after n (s ∷ v) = number_after (n * 3 + digit s) v

-- below kind_count, which as a number says that there is no kind
abbrev pub kind_number : Kind → ℕ
kind_number flow = 0
kind_number anti = 1
kind_number output = 2

-- by source, sink, kind and vector: n statements
abbrev pub place_of : ℕ → ℕ → ℕ → ℕ → ℕ → ℕ
place_of n s t k v = ((s * n + t) * kind_count + k) * vector_count + v

-- the marks of a pair of statements, then of n statements: all places are below
abbrev pub pair_marks : ℕ
pair_marks = kind_count * vector_count

abbrev pub marks_for : ℕ → ℕ
marks_for n = n * n * pair_marks

unfoldable pub place : ℕ → Line → ℕ
place n l = place_of n l.source l.sink (kind_number l.kind) (number l.vector)

-- ---- signs read one after another

-- two points of as many indices, at most six
pub record SignsIn (p q : List ℤ) : Type 0 where
  pub few : length p ≤ most_loops
  pub both : length p ≡ length q

-- what the signs that are left after k make of v is the number of all
unfoldable pub Left : List ℤ → List ℤ → ℕ → ℕ → Type 0
Left p q k v = number_after v (signs (drop k p) (drop k q)) ≡ number_after 0 (signs p q)
