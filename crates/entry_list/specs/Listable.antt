-- What a listing is written from, and what the stages after the count of the points answer.
use Rattle.std.specs.Prelude.{◌≡◌, Bool, List, ℕ, ◌<◌, length, Result}
use Rattle.model.specs.Answer.{accepted, ◌>>◌}
use Rattle.model.specs.Ticket.{Nest}
use Rattle.model.specs.Points.{iterations}
use Rattle.model.specs.Bounds.{admitted}
use Rattle.model.specs.Listing.{listing}
use Rattle.model.specs.Entries.{Outcome, hand_out}
use Rattle.ticket_refusals.specs.declared.Refusal.{Refusal}
use Rattle.nest_flat.specs.FlatNests.{FlatNest, nest_of}
use Rattle.nest_admission.specs.Admission.{PointsCounted}
use Rattle.dependence_marks.specs.Lines.{LinesAre}
use Rattle.dependence_directions.specs.SearchResults.{Finds}

-- the marks of a nest's lines, and the count of its iterations
pub record Listable (P : FlatNest) (n : ℕ) (marks : List Bool) : Type 0 where
  pub lines : LinesAre P marks
  pub count : n ≡ length (iterations (nest_of P).loops)
  pub few : n < 100000

-- a nest of n points, refusal 9 of it, and the marks of its lines where it is passed
pub record FoundIn (P : FlatNest) (n : ℕ) (s : Result (Unit {0}) Refusal) (marks : List Bool) : Type 0 where
  pub points-counted : PointsCounted P n
  pub finds : Finds P s marks

-- 7 to 9 of a nest, then its listing
unfoldable pub list_nest : Nest → List ℕ → Outcome
list_nest N buffer = hand_out (admitted N >> accepted (listing N)) buffer
