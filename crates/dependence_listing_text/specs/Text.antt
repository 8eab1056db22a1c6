-- The lines whose marks are set, and their listing; then what the functions that write it ask and give.
use Rattle.std.specs.Prelude.{◌≡◌, Bool, false, cond, ℕ, ◌*◌, ◌≤◌, leb, length, get_or, take, Option, Some, None}
use mathlib.Core.List.{List, [], ◌∷◌, ◌++◌, flat_map}
use Rattle.lists.specs.Parts.{put}
use Rattle.lists.specs.Tests.{select}
use Rattle.model.specs.Directions.{Line, flow, all_lines, kind_count}
use Rattle.model.specs.Listing.{decimal, line_text, head_text}
use Rattle.model.specs.Grammar.{most_statements, most_loops}
use Rattle.dependence_vectors.specs.Numbers.{place, marks_for}
use Rattle.dependence_vectors.specs.Candidates.{stride}

unfoldable pub marked : List Bool → ℕ → Line → Bool
marked m n l = get_or m (place n l) false

-- of n statements and d loops
unfoldable pub shown : List Bool → ℕ → ℕ → List Line
shown m n d = select (marked m n) (all_lines n d)

unfoldable pub text : List Bool → ℕ → ℕ → ℕ → List ℕ
text m n d points = head_text d points (length (shown m n d)) ++ flat_map line_text (shown m n d)

-- how many lines there could be
abbrev pub line_count : ℕ → ℕ → ℕ
line_count n d = n * n * kind_count * stride d

-- line i of all
unfoldable pub line_at : ℕ → ℕ → ℕ → Line
line_at n d i = get_or (all_lines n d) i (record { kind = flow; source = 0; sink = 0; vector = [] })

-- n statements, d loops, and a mark for each line
pub record Marks (m : List Bool) (n d : ℕ) : Type 0 where
  pub statements : n ≤ most_statements
  pub shallow : d ≤ most_loops
  pub room : marks_for n ≤ length m

-- a number and the byte after it, in the first bytes of six
pub record Field (bytes : List ℕ) (len n end : ℕ) : Type 0 where
  pub six : length bytes ≡ 6
  pub short : len ≤ 6
  pub is : take len bytes ≡ decimal n ++ (end ∷ [])

-- the text t written and its length, or nothing written where the buffer is short
pub record Written (t out out' : List ℕ) (r : Option ℕ) : Type 0 where
  pub count : r ≡ cond (leb (length t) (length out)) (Some (length t)) None
  pub bytes : out' ≡ cond (leb (length t) (length out)) (put out 0 t) out
