-- Flat slices (`nest_flat`, specs/Layout) with accesses laid over them.
use mathlib.Core.List.{List, [], ◌∷◌, map, flat_map}
use Rattle.std.specs.Prelude.{ℕ, suc, ◌*◌, ℤ, length}
use Rattle.model.specs.Ticket.{Access, Statement}
use Rattle.model.specs.Bounds.{accesses_of}
use Rattle.model.specs.Grammar.{most_dimensions, row_room}
use Rattle.ticket_arrays.specs.Laid.{lay_rows}
use Rattle.ticket_loops.specs.Laid.{affine_words}

unfoldable pub lay_access : List ℤ → ℕ → Access → List ℤ
lay_access s k a = lay_rows row_room s (k * most_dimensions) (map affine_words a.subscripts)

-- accesses from access k on
unfoldable pub lay_accesses : List ℤ → ℕ → List Access → List ℤ
lay_accesses s k [] = s
lay_accesses s k (a ∷ as') = lay_accesses (lay_access s k a) (suc k) as'

abbrev pub array_numbers : List Access → List ℕ
array_numbers as' = map (λ (a : Access). a.array) as'

-- the accesses of all statements, in ticket order
unfoldable pub accesses_in : List Statement → List Access
accesses_in ss = flat_map accesses_of ss

-- the number of a statement's accesses
abbrev pub size_of : Statement → ℕ
size_of s = length (accesses_of s)
