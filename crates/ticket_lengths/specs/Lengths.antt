-- How many words a nest has when it is written, by its counts and numbers of dimensions alone.
use Rattle.std.specs.Prelude.{◌≡◌, List, ℕ, zero, suc, ◌+◌, ◌*◌, ◌/◌, ◌≤◌, ◌<◌, length, get_or}
use Rattle.model.specs.Grammar.{most_statements, most_accesses, most_dimensions, most_loops, most_limits, most_sides, array_room, most_extents}

-- f j, f (j + 1), .. of n numbers
unfoldable pub sums : (ℕ → ℕ) → ℕ → ℕ → ℕ
sums f j zero = 0
sums f j (suc n) = f j + sums f (suc j) n

-- loop k: the counts of both sides, and limits of k + 2 words
unfoldable pub loop_length : List ℕ → ℕ → ℕ
loop_length c k = (get_or c (k * 2) 0 + get_or c (k * 2 + 1) 0) * (k + 2) + 2

-- array i: the number of dimensions, the extents
unfoldable pub array_length : List ℕ → ℕ → ℕ
array_length a i = get_or a (i * array_room) 0 + 1

-- access k of all, in a nest of n loops: the array's number, and subscripts of n + 1 words
unfoldable pub access_length : List ℕ → List ℕ → ℕ → ℕ → ℕ
access_length o a n k = get_or a (get_or o k 0 * array_room) 0 * (n + 1) + 1

-- all sections behind their counts, m statements with rule, constant and count of reads each, and the count of steps; the arrays on v are
-- written, and the extents on a say how many subscripts an access has
unfoldable pub nest_length : List ℕ → ℕ → List ℕ → List ℕ → List ℕ → ℕ → ℕ
nest_length c depth v a o m =
    sums (loop_length c) 0 depth + sums (array_length v) 0 (length v / array_room) + sums (access_length o a depth) 0 (length o) + (m * 3 + 4)

-- ---- what is asked

pub record CountsIn (c : List ℕ) (depth : ℕ) : Type 0 where
  pub counts : length c ≡ most_sides
  pub shallow : depth ≤ most_loops
  pub lower : (k : ℕ) → k < depth → get_or c (k * 2) 0 ≤ most_limits
  pub upper : (k : ℕ) → k < depth → get_or c (k * 2 + 1) 0 ≤ most_limits

pub record ArraysIn (a : List ℕ) : Type 0 where
  pub few : length a ≤ most_extents
  pub dimensions : (i : ℕ) → i < length a / array_room → get_or a (i * array_room) 0 ≤ most_dimensions

pub record AccessedIn (o a : List ℕ) (n : ℕ) : Type 0 where
  pub arrays : ArraysIn a
  pub many : length o ≤ most_accesses
  pub shallow : n ≤ most_loops
  pub there : (k : ℕ) → k < length o → get_or o k 0 < length a / array_room

pub record LengthIn (c : List ℕ) (depth : ℕ) (v a o : List ℕ) (m : ℕ) : Type 0 where
  pub loops : CountsIn c depth
  pub written : ArraysIn v
  pub accessed : AccessedIn o a depth
  pub few : m ≤ most_statements
