-- Loops on flat slices, changed in place or put further in: what is asked, and what is left.
use Rattle.std.specs.Prelude.{◌≡◌, Bool, true, List, map, ℕ, ◌+◌, ◌*◌, ◌≤◌, ◌<◌, ℤ, pos, length, get_or}
use Rattle.lists.specs.Tests.{all}
use Rattle.integers.specs.Affine.{Within}
use Rattle.model.specs.Ticket.{Loop}
use Rattle.model.specs.Limits.{on_limits}
use Rattle.model.specs.Judge.{small_loop}
use Rattle.model.specs.Grammar.{most_loops, most_sides, nest_room}
use Rattle.nest_flat.specs.Flat.{loop_at, loops_from}
use Rattle.step_limits.specs.Change.{change_of, outer_after, Allowed}
use Rattle.step_changes.specs.Sides.{Beside}
use Rattle.step_limits.specs.declared.Change.{Change}
use Rattle.step_limits.specs.Words.{LoopOk}

-- ---- loop `to` becomes L

pub record LoopIs (s : List ℤ) (c : List ℕ) (to : ℕ) (L : Loop) (t : List ℤ) (d : List ℕ) : Type 0 where
  pub made : loop_at t d to ≡ L
  pub ok : LoopOk t d to
  pub small : Within 32767 t
  pub words-kept : Beside (pos 0) s t (to * 256) (to * 256 + 256)
  pub counts-kept : Beside 0 c d (to * 2) (to * 2 + 2)

pub record LoopMade (s : List ℤ) (c : List ℕ) (to : ℕ) (L : Loop) (r : Bool) (t : List ℤ) (d : List ℕ) : Type 0 where
  pub words : length t ≡ length s
  pub counts : length d ≡ length c
  pub tested : r ≡ small_loop L
  pub whole : r ≡ true → LoopIs s c to L t d

-- ---- loop k, its lower limits changed by lo and its upper ones by hi, becomes loop `to`

unfoldable pub on_sides : Change → Change → Loop → Loop
on_sides lo hi L = record { lower = map (change_of lo) L.lower; upper = map (change_of hi) L.upper }

pub record LoopIn (lo hi : Change) (s : List ℤ) (c : List ℕ) (k to : ℕ) : Type 0 where
  pub words : length s ≡ nest_room
  pub counts : length c ≡ most_sides
  pub further : (k ≤ to) × (to < most_loops)
  pub allowed : Allowed lo k × Allowed hi k
  pub outer : (outer_after lo k ≡ to) × (outer_after hi k ≡ to)
  pub small : Within 32767 s
  pub there : LoopOk s c k

-- ---- many loops from loop `start` on, put `by` places further in

pub record LoopsIn (change : Change) (s : List ℤ) (c : List ℕ) (start many by : ℕ) : Type 0 where
  pub words : length s ≡ nest_room
  pub counts : length c ≡ most_sides
  pub room : start + many + by ≤ most_loops
  pub allowed : (j : ℕ) → j < many → Allowed change (start + j)
  pub outer : (j : ℕ) → j < many → outer_after change (start + j) ≡ start + j + by
  pub small : Within 32767 s
  pub there : (j : ℕ) → j < many → LoopOk s c (start + j)

pub record LoopsAre (change : Change) (s : List ℤ) (c : List ℕ) (start many by : ℕ) (t : List ℤ) (d : List ℕ) : Type 0 where
  pub made : loops_from t d (start + by) many ≡ map (on_limits (change_of change)) (loops_from s c start many)
  pub ok : (j : ℕ) → j < many → LoopOk t d (start + j + by)
  pub small : Within 32767 t
  pub words-kept : (p : ℕ) → p < (start + by) * 256 → get_or t p (pos 0) ≡ get_or s p (pos 0)
  pub counts-kept : (p : ℕ) → p < (start + by) * 2 → get_or d p 0 ≡ get_or c p 0

pub record LoopsMade (change : Change) (s : List ℤ) (c : List ℕ) (start many by : ℕ) (r : Bool) (t : List ℤ) (d : List ℕ) : Type 0 where
  pub words : length t ≡ length s
  pub counts : length d ≡ length c
  pub tested : r ≡ all small_loop (map (on_limits (change_of change)) (loops_from s c start many))
  pub whole : r ≡ true → LoopsAre change s c start many by t d
