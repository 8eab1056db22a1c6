-- Sides on flat words, changed limit by limit: what is asked, and what is left.
use Rattle.std.specs.Prelude.{◌≡◌, Bool, true, ◌⊎◌, List, map, ℕ, ◌+◌, ◌*◌, ◌≤◌, ◌<◌, ℤ, pos, length, get_or}
use Rattle.lists.specs.Tests.{all}
use Rattle.integers.specs.Affine.{Within}
use Rattle.model.specs.Ticket.{Limit}
use Rattle.model.specs.Judge.{small_limit}
use Rattle.model.specs.Grammar.{most_loops}
use Rattle.nest_flat.specs.Flat.{limits_at, Positive}
use Rattle.step_limits.specs.Change.{change_of, outer_after, Allowed}
use Rattle.step_limits.specs.declared.Change.{Change}

-- of t, what stands before place a and from place b on is as it was in s
pub record Beside {A : Type 0} (d : A) (s t : List A) (a b : ℕ) : Type 0 where
  pub before : (p : ℕ) → p < a → get_or t p d ≡ get_or s p d
  pub after : (p : ℕ) → b ≤ p → get_or t p d ≡ get_or s p d

-- ---- count limits from limit `from` on, of a loop with n loops outside, put from limit `to` on with m loops outside

pub record SideIn (change : Change) (s : List ℤ) (from n to m count : ℕ) : Type 0 where
  pub allowed : Allowed change n
  pub outer : outer_after change n ≡ m
  pub shallow : (n ≤ most_loops) × (m ≤ most_loops)
  pub reads : (from + count) * 8 ≤ length s
  pub writes : (to + count) * 8 ≤ length s
  -- no limit is written before it is read
  pub clear : (to ≤ from) ⊎ (from + count ≤ to)
  pub small : Within 32767 s
  pub positive : Positive s from count

-- ---- the limits ls, put from limit `to` on with m loops outside

pub record SideIs (s : List ℤ) (to m count : ℕ) (ls : List Limit) (t : List ℤ) : Type 0 where
  pub made : limits_at t m to count ≡ ls
  pub positive : Positive t to count
  pub small : Within 32767 t
  pub kept : Beside (pos 0) s t (to * 8) ((to + count) * 8)

pub record SideMade (s : List ℤ) (to m count : ℕ) (ls : List Limit) (r : Bool) (t : List ℤ) : Type 0 where
  pub room : length t ≡ length s
  pub tested : r ≡ all small_limit ls
  pub whole : r ≡ true → SideIs s to m count ls t

-- as the change makes them
unfoldable pub changed_side : Change → List ℤ → ℕ → ℕ → ℕ → List Limit
changed_side change s from n count = map (change_of change) (limits_at s n from count)
