-- What the writers of limits and loops ask of the slices on which a nest stands.
use Rattle.std.specs.Prelude.{◌≡◌, List, ℕ, ◌+◌, ◌≤◌, ◌<◌, ℤ, length}
use Rattle.model.specs.Grammar.{most_loops, nest_room}
use Rattle.nest_flat.specs.Flat.{Positive, NestOk}

-- n limits from limit j on, of a loop with `outer` loops outside
pub record LimitsIn (s : List ℤ) (outer j n : ℕ) : Type 0 where
  pub words : length s ≡ nest_room
  pub outside : outer ≤ most_loops
  pub inside : j + n ≤ 192
  pub positive : Positive s j n

-- loop k of a nest
pub record LoopIn (s : List ℤ) (c : List ℕ) (k : ℕ) : Type 0 where
  pub depth : ℕ
  pub nest : NestOk s c depth
  pub there : k < depth
