-- What reading accesses and statements gives: the model's answer, and slices that an accepted one is laid over.
use Rattle.std.specs.Prelude.{◌≡◌, List, [], ◌∷◌, map, ℕ, ◌+◌, ◌≤◌, ℤ, length, take, replicate, Result, IfOk}
use Rattle.lists.specs.Parts.{put}
use Rattle.model.specs.Ticket as Model
use Rattle.model.specs.Bounds.{accesses_of}
use Rattle.model.specs.Grammar as Grammar
use Rattle.model.specs.Grammar.{Reader, ◌>>=◌, count, times, most_statements, most_writes, most_reads, most_accesses}
use Rattle.ticket_refusals.specs.declared.Refusal.{Refusal}
use Rattle.ticket_words.specs.Reads.{Reads}
use Rattle.ticket_words.specs.declared.Words.{Words}
use Rattle.nest_flat.specs.Layout.{arrays_of}
use Rattle.ticket_statements.specs.Laid.{lay_accesses, array_numbers, accesses_in, size_of}
use Rattle.ticket_statements.specs.declared.accesses.Nest.{Nest}
use Rattle.ticket_statements.specs.declared.accesses.Accesses.{Accesses}
use Rattle.ticket_statements.specs.declared.Statement.{Statement}
use Rattle.ticket_statements.specs.declared.StatementsRead.{StatementsRead}

-- ---- accesses from access k on

pub record Laid (k : ℕ) (as' : List Model.Access) (w w' : List ℤ) (o o' : List ℕ) : Type 0 where
  pub words : w' ≡ lay_accesses w k as'
  pub named : o' ≡ put o k (array_numbers as')

-- laid over w behind those of a, which became w' and b
pub record Lays (as' : List Model.Access) (w w' : List ℤ) (a b : Accesses) : Type 0 where
  pub laid : Laid a.count as' w w' a.accessed b.accessed
  pub count : b.count ≡ a.count + length as'

-- from the words o, which become e
pub record ReadsAccess (n : Nest) (o : Words) (w w' : List ℤ) (a b : Accesses) (r : Result (Unit {0}) Refusal) (e : Words) : Type 0 where
  pub access : Model.Access
  pub reads : Reads (λ (u : Unit {0}). access) (Grammar.access n.depth (arrays_of n.extents.now)) o r e
  pub laid : IfOk r (λ u. Lays (access ∷ []) w w' a b)

-- a count from lo on and as many accesses
unfoldable pub accesses : ℕ → ℕ → List (List ℕ) → Reader (List Model.Access)
accesses lo n as' = do
  m ← count lo most_reads
  times m (Grammar.access n as')

pub record ReadsAccesses (lo : ℕ) (n : Nest) (o : Words) (w w' : List ℤ) (a b : Accesses) (r : Result ℕ Refusal) (e : Words) : Type 0 where
  pub list : List Model.Access
  pub reads : Reads (λ (m : ℕ). list) (accesses lo n.depth (arrays_of n.extents.now)) o r e
  pub few : IfOk r (λ m. m ≤ most_reads)
  pub count : IfOk r (λ m. length list ≡ m)
  pub laid : IfOk r (λ m. Lays list w w' a b)

-- ---- statements

pub record StatementLaid (m : Model.Statement) (w w' : List ℤ) (a b : Accesses) (s : Statement) : Type 0 where
  pub laid : Lays (accesses_of m) w w' a b
  pub few : s.size ≤ most_writes + most_reads
  pub size : s.size ≡ size_of m
  pub rule : s.rule ≡ m.rule
  pub constant : s.constant ≡ m.constant

pub record ReadsStatement (n : Nest) (o : Words) (w w' : List ℤ) (a b : Accesses) (r : Result Statement Refusal) (e : Words) : Type 0 where
  pub statement : Model.Statement
  pub reads : Reads (λ (s : Statement). statement) (Grammar.statement n.depth (arrays_of n.extents.now)) o r e
  pub laid : IfOk r (StatementLaid statement w w' a b)

-- over w, which became w'; with sizes, rules and constants beside the accesses
pub record StatementsLaid (ss : List Model.Statement) (w w' : List ℤ) (r : StatementsRead) : Type 0 where
  pub laid : Laid 0 (accesses_in ss) w w' (replicate most_accesses 0) r.accessed
  pub count : length ss ≡ r.count
  pub accesses : r.accesses ≡ length (accesses_in ss)
  pub few : r.count ≤ most_statements
  pub few-accesses : r.accesses ≤ most_accesses
  pub sizes : take r.count r.sizes ≡ map size_of ss
  pub rules : take r.count r.rules ≡ map (λ (s : Model.Statement). s.rule) ss
  pub constants : take r.count r.constants ≡ map (λ (s : Model.Statement). s.constant) ss
  pub sizes-room : length r.sizes ≡ most_statements
  pub rules-room : length r.rules ≡ most_statements
  pub constants-room : length r.constants ≡ most_statements
  pub accessed-room : length r.accessed ≡ most_accesses

pub record ReadsStatements (n : Nest) (o : Words) (w w' : List ℤ) (r : Result StatementsRead Refusal) (e : Words) : Type 0 where
  pub statements : List Model.Statement
  pub reads : Reads (λ (s : StatementsRead). statements) (Grammar.statements n.depth (arrays_of n.extents.now)) o r e
  pub laid : IfOk r (StatementsLaid statements w w')
