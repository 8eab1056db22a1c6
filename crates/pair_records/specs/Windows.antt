-- A window on a list of records: so many are passed over, then as many as there is room for are kept.
use Rattle.std.specs.Prelude.{◌≡◌, List, ◌++◌, ℕ, ◌-◌, min, ℤ, length, take, drop}
use Rattle.lists.specs.Parts.{rows}
use Rattle.pair_records.specs.Conflicts.{record_room}
use Rattle.pair_records.specs.declared.Window.{Window}

-- the records that a window keeps
abbrev pub batch : ℕ
batch = 32

abbrev pub batch_room : ℕ
batch_room = 352

-- the records rs have come by, of which `skip` are passed over; those kept stand in `found`, row by row
pub record Windowed (skip : ℕ) (rs : List (List ℤ)) (w : Window) (found : List ℤ) : Type 0 where
  pub left : w.skip ≡ skip - length rs
  pub got : w.got ≡ min batch (length rs - skip)
  pub kept : rows record_room w.got found ≡ take batch (drop skip rs)
  pub room : length found ≡ batch_room

-- the records rs come by, whatever came before
abbrev pub Passes : Window → List ℤ → Window → List ℤ → List (List ℤ) → Type 0
Passes w found w' found' rs = (skip : ℕ) (before : List (List ℤ)) → Windowed skip before w found → Windowed skip (before ++ rs) w' found'
