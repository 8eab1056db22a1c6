-- What reading one array and all of them gives: the model's answer, and slices that it is laid over. Of a refused section the arrays before
-- the refusal are laid.
use Rattle.std.specs.Prelude.{◌≡◌, List, map, ℕ, ◌*◌, ◌≤◌, length, take, Result, IfOk}
use Rattle.lists.specs.Membership.{All}
use Rattle.model.specs.Grammar as Grammar
use Rattle.model.specs.Grammar.{total, most_arrays, array_room, most_elements}
use Rattle.model.specs.Ranges.{ArrayRanges}
use Rattle.ticket_refusals.specs.declared.Refusal.{Refusal}
use Rattle.ticket_words.specs.Reads.{Reads}
use Rattle.ticket_words.specs.declared.Words.{Words}
use Rattle.nest_flat.specs.Layout.{arrays_of}
use Rattle.ticket_arrays.specs.Laid.{lay_rows, shape_words}
use Rattle.ticket_arrays.specs.declared.shapes.Shape.{Shape}

-- an array's extents
unfoldable pub shape_of : Shape → List ℕ
shape_of a = take a.dimensions a.extents

-- arrays laid over the extents e, which became e'
pub record LaidArrays (e e' : List ℕ) (arrays : List (List ℕ)) : Type 0 where
  pub few : length arrays ≤ most_arrays
  pub ranges : All ArrayRanges arrays
  pub room : total arrays ≤ most_elements
  pub laid : e' ≡ lay_rows array_room e 0 (map shape_words arrays)
  -- as they stand on the slice
  pub same : arrays_of (take (length arrays * array_room) e') ≡ arrays

-- the section read from the words o, which leaves the words w
pub record ReadsArrays (o : Words) (e e' : List ℕ) (r : Result ℕ Refusal) (w : Words) : Type 0 where
  pub arrays : List (List ℕ)
  pub reads : Reads (λ n. arrays) Grammar.arrays o r w
  pub count : IfOk r (λ n. length arrays ≡ n)
  pub laid : LaidArrays e e' arrays
