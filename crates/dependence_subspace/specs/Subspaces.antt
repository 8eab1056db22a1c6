-- A nest on flat slices, and another one with no other points.
use Rattle.std.specs.Prelude.{◌≡◌, List, ℕ, ◌<◌, ℤ, length}
use Rattle.model.specs.Inside.{InLimits}
use Rattle.model.specs.Grammar.{most_sides, nest_room, most_loops}
use Rattle.nest_flat.specs.Flat.{loop_at, NestOk}

-- every index within the limits of a loop of the second nest is within those of the same loop of the first
pub record Narrower (s : List ℤ) (c : List ℕ) (depth : ℕ) (t : List ℤ) (d : List ℕ) : Type 0 where
  pub nest : NestOk t d depth
  pub inside : (i : ℕ) → i < depth → (outer : List ℤ) (x : ℤ) → InLimits (loop_at t d i) outer x → InLimits (loop_at s c i) outer x

pub record ShortenIn (s : List ℤ) (c : List ℕ) (k : ℕ) : Type 0 where
  pub words : length s ≡ nest_room
  pub counts : length c ≡ most_sides
  pub deep : k < most_loops

-- so it is in every nest that has loop k
abbrev pub Shortens : List ℤ → List ℕ → ℕ → List ℤ → List ℕ → Type 0
Shortens s c k t d = (depth : ℕ) → k < depth → NestOk s c depth → Narrower s c depth t d
