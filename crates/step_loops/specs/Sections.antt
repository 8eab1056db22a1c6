-- The two loops of a section: S in the place of loop L, and E inside it.
use Rattle.std.specs.Prelude.{List, ◌∷◌, map, ℕ, ◌+◌, ◌*◌, ◌-◌, ◌≤◌, ◌<◌, ◌≡◌, ℤ, length, get_or}
use Rattle.step_limits.specs.Words.{LoopOk}
use Rattle.integers.specs.Affine.{Within}
use Rattle.model.specs.Ticket.{Limit, Loop}
use Rattle.model.specs.Limits.{element_limit, constant_limit}
use Rattle.model.specs.Grammar.{most_loops, most_limits, most_sides, nest_room}
use Rattle.nest_flat.specs.Flat.{Positive}

-- a side of E: the constant v, then each old limit with w × S moved across
unfoldable pub element_side : ℕ → ℕ → ℕ → List Limit → List Limit
element_side n w v ls = constant_limit n v ∷ map (element_limit w) ls

unfoldable pub element_loop : ℕ → ℕ → Loop → Loop
element_loop n w L = record { lower = element_side n w 0 L.lower; upper = element_side n w (w - 1) L.upper }

-- count limits from limit `from` on, with n loops outside, give a side of E from limit `to` on
pub record ElementSideIn (s : List ℤ) (from n to count w v : ℕ) : Type 0 where
  pub shallow : n < most_loops
  pub apart : from + count ≤ to
  pub room : (to + 1 + count) * 8 ≤ length s
  pub narrow : (w ≤ 256) × (v ≤ 256)
  pub small : Within 32767 s
  pub positive : Positive s from count

-- loop a gives E, loop a + 1
pub record ElementLoopIn (s : List ℤ) (c : List ℕ) (a w : ℕ) : Type 0 where
  pub words : length s ≡ nest_room
  pub counts : length c ≡ most_sides
  pub deep : a + 1 < most_loops
  pub positive : 1 ≤ w
  pub narrow : w ≤ 256
  pub small : Within 32767 s
  pub there : LoopOk s c a
  pub few : (get_or c (a * 2) 0 < most_limits) × (get_or c (a * 2 + 1) 0 < most_limits)
