-- A loop whose two sides trade places.
use Rattle.std.specs.Prelude.{◌≡◌, List, ℕ, ◌+◌, ◌≤◌, ◌<◌, ℤ, pos, length, get_or}
use Rattle.integers.specs.Affine.{Within}
use Rattle.model.specs.Ticket.{Loop}
use Rattle.model.specs.Grammar.{most_loops, most_sides, nest_room}
use Rattle.nest_flat.specs.Flat.{loop_at}
use Rattle.step_limits.specs.Words.{LoopOk}
use Rattle.step_changes.specs.Sides.{Beside}
use Rattle.step_changes.specs.Loops.{LoopIs}

-- ---- words

pub record TradeIn (s : List ℤ) (a b many : ℕ) : Type 0 where
  pub apart : a + many ≤ b
  pub room : b + many ≤ length s
  pub small : Within 32767 s

pub record Traded (s : List ℤ) (a b many : ℕ) (t : List ℤ) : Type 0 where
  pub room : length t ≡ length s
  pub small : Within 32767 t
  pub first : (i : ℕ) → i < many → get_or t (a + i) (pos 0) ≡ get_or s (b + i) (pos 0)
  pub second : (i : ℕ) → i < many → get_or t (b + i) (pos 0) ≡ get_or s (a + i) (pos 0)
  pub between : (p : ℕ) → a + many ≤ p → p < b → get_or t p (pos 0) ≡ get_or s p (pos 0)
  pub kept : Beside (pos 0) s t a (b + many)

-- ---- a loop

pub record FlipIn (s : List ℤ) (c : List ℕ) (k : ℕ) : Type 0 where
  pub words : length s ≡ nest_room
  pub counts : length c ≡ most_sides
  pub deep : k < most_loops
  pub small : Within 32767 s
  pub there : LoopOk s c k

unfoldable pub flipped : Loop → Loop
flipped L = record { lower = L.upper; upper = L.lower }

pub record Flipped (s : List ℤ) (c : List ℕ) (k : ℕ) (t : List ℤ) (d : List ℕ) : Type 0 where
  pub words : length t ≡ length s
  pub counts : length d ≡ length c
  pub whole : LoopIs s c k (flipped (loop_at s c k)) t d
