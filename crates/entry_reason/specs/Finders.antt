-- A finder of records: what it holds, and what its functions ask and give.
use Rattle.std.specs.Prelude.{◌≡◌, List, [], ℕ, ◌+◌, ◌*◌, ◌≤◌, ◌<◌, min, ℤ, pos, length, get_or, take, drop, replicate}
use Rattle.lists.specs.Parts.{rows}
use Rattle.model.specs.Answer.{accepted, refused}
use Rattle.model.specs.Ticket as Model
use Rattle.model.specs.Grammar.{ticket_loops}
use Rattle.model.specs.Points.{iterations}
use Rattle.model.specs.Judge.{admit}
use Rattle.model.specs.Entries.{judge}
use Rattle.model.specs.Pairs.{Record, reason}
use Rattle.pair_records.specs.Conflicts.{record_room}
use Rattle.pair_records.specs.Windows.{batch_room}
use Rattle.pair_records.specs.declared.Walked.{Walked}
use Rattle.pair_search.specs.Searches.{record_words_of, words_from, words_before, Searched}
use Rattle.entry_reason.specs.Records.{found_in, packed_reason}
use Rattle.entry_reason.specs.declared.Pair.{Pair}
use Rattle.entry_reason.specs.declared.Finder.{Finder}

-- ---- a ticket that is refused with 10 at this step

pub record TenAt (b : List ℕ) (step : ℕ) : Type 0 where
  pub ticket : Model.Ticket
  pub admits : admit b ≡ accepted ticket
  pub refuses : judge b ≡ refused 10 step

abbrev pub nest_in : {b : List ℕ} {step : ℕ} → TenAt b step → Model.Nest
nest_in t = t.ticket.nest

-- its steps up to the refused one
abbrev pub steps_in : {b : List ℕ} {step : ℕ} → TenAt b step → List Model.Step
steps_in {b} {step} t = take step t.ticket.steps

-- and one of its points, from which to search
pub record SearchFrom (b : List ℕ) (step from : ℕ) : Type 0 where
  pub ten : TenAt b step
  pub there : from ≤ length (iterations (nest_in ten).loops)

abbrev pub SearchedAt : {b : List ℕ} {step : ℕ} → TenAt b step → ℕ → ℕ → Walked → List ℤ → Type 0
SearchedAt t from skip r found = Searched (steps_in t) (nest_in t) from skip r found

-- ---- words

-- row k of the words is this record
pub record RecordAt (words : List ℤ) (k : ℕ) (r : Record) : Type 0 where
  pub room : k * record_room + record_room ≤ length words
  pub few : length words ≤ batch_room
  pub is : take record_room (drop (k * record_room) words) ≡ record_words_of r
  pub source : length r.source ≡ ticket_loops
  pub sink : length r.sink ≡ ticket_loops

-- ---- the finder

-- its words are `got` records from record `first` on; so many records have the points before `source`, and none of them is still to be found
pub record Finding (b : List ℕ) (f : Finder) : Type 0 where
  pub ten : TenAt b f.step
  pub room : length f.words ≡ batch_room
  pub fits : f.got * record_room ≤ batch_room
  pub kept : rows record_room f.got f.words ≡ take f.got (drop f.first (words_from (steps_in ten) (nest_in ten) 0))
  pub inside : f.source ≤ length (iterations (nest_in ten).loops)
  pub before : f.before ≡ length (words_before (steps_in ten) (nest_in ten) f.source)
  pub passed : f.before ≤ f.first + f.got
  pub first : f.first ≤ f.given
  pub last : f.given ≤ f.first + f.got

-- where there is a record to give
abbrev pub Ready : List ℕ → Finder → Type 0
Ready b f = f.given < length (found_in b) → Finding b f

-- before the first record, for a list of so many
pub record Begun (b : List ℕ) (lent : ℕ) (r : Finder) : Type 0 where
  pub answer : r.answer ≡ packed_reason (reason b []).answer
  pub most : r.most ≡ min (length (found_in b)) lent
  pub given : r.given ≡ 0
  pub ready : Ready b r

abbrev pub no_pair : Pair
no_pair = record { source = replicate 4 (pos 0); sink = replicate 4 (pos 0); source_statement = 0; sink_statement = 0; kind = 0 }

-- one record more
pub record Given (b : List ℕ) (f r : Finder) : Type 0 where
  pub answer : r.answer ≡ f.answer
  pub given : r.given ≡ f.given + 1
  pub pair : r.pair ≡ get_or (found_in b) f.given no_pair
  pub ready : Ready b r

-- the same records given, and the next one, if there is one, among the words
pub record Refilled (b : List ℕ) (f r : Finder) : Type 0 where
  pub answer : r.answer ≡ f.answer
  pub given : r.given ≡ f.given
  pub finding : Finding b r
  pub some : f.given < length (found_in b) → r.given < r.first + r.got

-- a finder that has given this pair
abbrev pub gave : Finder → Pair → Finder
gave f p = record {
  answer = f.answer;
  most = f.most;
  given = f.given + 1;
  pair = p;
  step = f.step;
  source = f.source;
  before = f.before;
  first = f.first;
  got = f.got;
  words = f.words;
}
