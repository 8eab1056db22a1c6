-- What is promised, in propositions that `proofs/Demands` speaks of. In order: lines of a listing; steps and trades; pairs that trade places; the
-- quick test; elements and the store; what is handed out; demand 3. Why a ticket is refused is in `Reasons`.
use Rattle.std.specs.Prelude.{◌≡◌, ◌⊎◌, List, [], ◌∷◌, ◌++◌, map, ℕ, ◌≤◌, ◌<◌, T, ℤ, pos, ◌+ℤ◌, ◌*ℤ◌, ◌≤ℤ◌, ◌<ℤ◌, length, take, drop, get_or}
use Rattle.integers.specs.Sign.{Sign, less, equal, greater}
use Rattle.lists.specs.Membership.{Mem, All, Distinct, SameMembers}
use Rattle.lists.specs.Order.{Precedes}
use Rattle.model.specs.Answer.{Answer, accepted, refused}
use Rattle.model.specs.Ticket.{Loop, Subscript, Access, Statement, Step, exchange, reversal, skew, section, circulation, Nest, Ticket}
use Rattle.model.specs.Grammar.{total, extents, decode_nest}
use Rattle.model.specs.Points.{iterations}
use Rattle.model.specs.Machine.{Element, element, Instance, State, Rules, body_at, accesses, order, exec, originally}
use Rattle.model.specs.Directions.{Kind, flow, anti, output, signs, conflict_of, conflict, Line}
use Rattle.model.specs.Steps.{forward, undo, forward_all, undo_all}
use Rattle.model.specs.Limits.{loops_after, nest_after_all}
use Rattle.model.specs.Judge.{Judged, admit_of, judged_of}
use Rattle.model.specs.Encode.{encode}
use Rattle.model.specs.Quick.{Range, least_sum, greatest_sum, ranges, difference}
use Rattle.model.specs.Store.{place_of, run_nest, own_rules}
use Rattle.model.specs.Entries.{judge_of, write_of, run_of, all_accesses, access_number}
use Rattle.model.specs.Pairs.{Pair, Reason, verdict, table_alone, pairs}
use Rattle.model.specs.Inside.{Earlier}

-- ---- lines of a listing

-- a line that a nest of n statements and d loops could have
pub record Fitting (n d : ℕ) (l : Line) : Type 0 where
  pub source : l.source < n
  pub sink : l.sink < n
  pub signs : length l.vector ≡ d

-- F is write then read, A read then write, O write then write
abbrev pub source_accesses : Kind → Statement → List Access
source_accesses flow s = s.writes
source_accesses anti s = s.reads
source_accesses output s = s.writes

abbrev pub sink_accesses : Kind → Statement → List Access
sink_accesses flow s = s.reads
sink_accesses anti s = s.writes
sink_accesses output s = s.writes

-- two iterations, the source earlier or of the same one and earlier in the body, and an access of each that name one element
pub record Dependence (N : Nest) (l : Line) : Type 0 where
  pub early : List ℤ
  pub late : List ℤ
  pub early-there : Mem early (iterations N.loops)
  pub late-there : Mem late (iterations N.loops)
  pub order : Earlier early late ⊎ ((early ≡ late) × (l.source < l.sink))
  pub from : Access
  pub to : Access
  pub from-there : Mem from (source_accesses l.kind (body_at N.statements l.source))
  pub to-there : Mem to (sink_accesses l.kind (body_at N.statements l.sink))
  pub meet : element early from ≡ element late to
  pub vector : signs early late ≡ l.vector

-- < before = before >
abbrev pub sign_rank : Sign → ℕ
sign_rank less = 0
sign_rank equal = 1
sign_rank greater = 2

-- by the first sign in which they differ
abbrev pub VectorBefore : List Sign → List Sign → Type 0
VectorBefore [] w = ⊥
VectorBefore (s ∷ v) [] = ⊥
VectorBefore (s ∷ v) (t ∷ w) = (sign_rank s < sign_rank t) ⊎ ((s ≡ t) × VectorBefore v w)

-- F before A before O
abbrev pub kind_rank : Kind → ℕ
kind_rank flow = 0
kind_rank anti = 1
kind_rank output = 2

-- by source, then sink, then kind, then signs
abbrev pub LineBefore : Line → Line → Type 0
LineBefore l m =
    (l.source < m.source)
    ⊎ ((l.source ≡ m.source) × ((l.sink < m.sink)
    ⊎ ((l.sink ≡ m.sink) × ((kind_rank l.kind < kind_rank m.kind)
    ⊎ ((l.kind ≡ m.kind) × VectorBefore l.vector m.vector)))))

-- ---- steps

-- the step takes the points of the nest one to one onto those of the nest that it makes, and `undo` takes them back
pub record KeepsPoints (t : Step) (N : List Loop) : Type 0 where
  pub onto : (p : List ℤ) → Mem p (iterations N) → Mem (forward t p) (iterations (loops_after t N)) × (undo t (forward t p) ≡ p)
  pub back : (q : List ℤ) → Mem q (iterations (loops_after t N)) → Mem (undo t q) (iterations N) × (forward t (undo t q) ≡ q)

-- exchanges, reversals and circulations: their tables give one vector
abbrev pub Turns : Step → Type 0
Turns (exchange a) = Unit {0}
Turns (reversal a) = Unit {0}
Turns (skew a d c) = ⊥
Turns (section a w) = ⊥
Turns (circulation a b) = Unit {0}

-- no circulation
abbrev pub AtOnce : Step → Type 0
AtOnce (exchange a) = Unit {0}
AtOnce (reversal a) = Unit {0}
AtOnce (skew a d c) = Unit {0}
AtOnce (section a w) = Unit {0}
AtOnce (circulation a b) = ⊥

-- two points have the signs v, and the signs w after the step
pub record Attained (t : Step) (v w : List Sign) : Type 0 where
  pub first : List ℤ
  pub second : List ℤ
  pub size : length first ≡ length second
  pub had : signs first second ≡ v
  pub has : signs (forward t first) (forward t second) ≡ w

-- an instance where the steps take it
abbrev pub moved : List Step → Instance → Instance
moved ts i = record { statement = i.statement; iteration = forward_all ts i.iteration }

-- the same by the iterations alone: the steps before t leave no sink before its source, and with t the sink comes first
pub record Crossed (N : Nest) (front : List Step) (t : Step) : Type 0 where
  pub source : Instance
  pub sink : Instance
  pub old : Precedes (order N) source sink
  pub clash : T (conflict (accesses N.statements) source sink)
  pub kept : Earlier (forward_all front sink.iteration) (forward_all front source.iteration) → ⊥
  pub crossed : Earlier (forward_all (front ++ t ∷ []) sink.iteration) (forward_all (front ++ t ∷ []) source.iteration)

-- two conflicting instances trade places at the step t, which is reached after the steps `front`: in the old order and in that of the nest before
-- the step the source comes before the sink, in that of the nest after it the sink comes before the source
pub record Trade (N : Nest) (front : List Step) (t : Step) : Type 0 where
  pub source : Instance
  pub sink : Instance
  pub clash : T (conflict (accesses N.statements) source sink)
  pub old : Precedes (order N) source sink
  pub before : Precedes (order (nest_after_all front N)) (moved front source) (moved front sink)
  pub after : Precedes (order (nest_after_all (front ++ t ∷ []) N)) (moved (front ++ t ∷ []) sink) (moved (front ++ t ∷ []) source)

-- ---- pairs that trade places

-- a conflict of the pair's kind: the source comes before the sink in the old order, and where the steps take them the sink comes first
pub record TradesAt (ts : List Step) (N : Nest) (r : Pair) : Type 0 where
  pub old : Precedes (order N) r.source r.sink
  pub clash : T (conflict_of r.kind (accesses N.statements) r.source r.sink)
  pub crossed : Earlier (forward_all ts r.sink.iteration) (forward_all ts r.source.iteration)

-- by source statement, then sink statement, then kind
abbrev pub StatementsBefore : Pair → Pair → Type 0
StatementsBefore r u =
    (r.source.statement < u.source.statement)
    ⊎ ((r.source.statement ≡ u.source.statement) × ((r.sink.statement < u.sink.statement)
    ⊎ ((r.sink.statement ≡ u.sink.statement) × (kind_rank r.kind < kind_rank u.kind))))

-- by source iteration, then sink iteration, then these
abbrev pub PairBefore : Pair → Pair → Type 0
PairBefore r u =
    Earlier r.source.iteration u.source.iteration
    ⊎ ((r.source.iteration ≡ u.source.iteration) × (Earlier r.sink.iteration u.sink.iteration
    ⊎ ((r.sink.iteration ≡ u.sink.iteration) × StatementsBefore r u)))

-- ---- the quick test: the accesses numbered a and b name no common element, in two iterations or in one

pub record NeverMeet (d : Answer Ticket) (a b : ℕ) : Type 0 where
  pub ticket : Ticket
  pub admits : admit_of d ≡ accepted ticket
  pub first : Access
  pub second : Access
  pub first-number : access_number (all_accesses ticket.nest) a ≡ accepted first
  pub second-number : access_number (all_accesses ticket.nest) b ≡ accepted second
  pub never : (p q : List ℤ) → Mem p (iterations ticket.nest.loops) → Mem q (iterations ticket.nest.loops)
      → element p first ≡ element q second → ⊥

-- g divides c
pub record Divides (g : ℕ) (c : ℤ) : Type 0 where
  pub quotient : ℤ
  pub equal : c ≡ pos g *ℤ quotient

-- the greatest common divisor of all coefficients fails to divide the constant: some common divisor fails to
pub record NotDivided (d : Subscript) : Type 0 where
  pub divisor : ℕ
  pub common : All (Divides divisor) d.coefficients
  pub fails : Divides divisor d.constant → ⊥

-- 0 lies outside the least and the greatest value over the ranges rs
abbrev pub ZeroOutside : List Range → Subscript → Type 0
ZeroOutside rs d =
    (pos 0 <ℤ (d.constant +ℤ least_sum d.coefficients rs)) ⊎ ((d.constant +ℤ greatest_sum d.coefficients rs) <ℤ pos 0)

-- the rule by which the quick test says 'apart', else 'perhaps'
pub data QuickRule (N : List Loop) (u v : Access) : Type 0 where
  other_array : (u.array ≡ v.array → ⊥) → QuickRule N u v
  -- a loop's least exceeds its greatest
  no_index : (r : Range) → Mem r (ranges N) → r.greatest <ℤ r.least → QuickRule N u v
  -- in some dimension, of the two subscripts f and g subtracted over two free iterations
  dimension : (before after before' after' : List Subscript) (f g : Subscript)
      → u.subscripts ≡ before ++ f ∷ after → v.subscripts ≡ before' ++ g ∷ after'
      → length before ≡ length before' → NotDivided (difference f g) ⊎ ZeroOutside (ranges N ++ ranges N) (difference f g) → QuickRule N u v

-- ---- elements and the store

-- as many subscripts as extents, each from 0 to its extent − 1
abbrev pub InExtents : List ℕ → List ℤ → Type 0
InExtents [] [] = Unit {0}
InExtents [] (x ∷ xs) = ⊥
InExtents (n ∷ ns) [] = ⊥
InExtents (n ∷ ns) (x ∷ xs) = (pos 0 ≤ℤ x) × (x <ℤ pos n) × InExtents ns xs

-- an element of one of the arrays
pub record Valid (as' : List (List ℕ)) (e : Element) : Type 0 where
  pub there : e.array < length as'
  pub inside : InExtents (extents as' e.array) e.subscripts

-- arrays share no storage: every element has a place of its own, and every word of the store is an element's
pub record OneToOne (as' : List (List ℕ)) : Type 0 where
  pub below : (e : Element) → Valid as' e → place_of as' e < total as'
  pub distinct : (e f : Element) → Valid as' e → Valid as' f → place_of as' e ≡ place_of as' f → e ≡ f
  pub onto : (k : ℕ) → k < total as' → (e : Element) × Valid as' e × (place_of as' e ≡ k)

-- the words of a store as a state: each element has the value of the word in its place
unfoldable pub state_of : List (List ℕ) → List ℕ → State
state_of as' w e = pos (get_or w (place_of as' e) 0)

-- ---- text handed out: an accepted count is its length, and the bytes beyond it keep their values

pub record HandedOut (text buffer : List ℕ) (c : ℕ) (memory : List ℕ) : Type 0 where
  pub count : c ≡ length text
  pub fits : length text ≤ length buffer
  pub whole : memory ≡ text ++ drop (length text) buffer
  pub front : take c memory ≡ text
  pub rest : drop c memory ≡ drop c buffer
  pub size : length memory ≡ length buffer

-- ---- what an answer is handed out in: a number below 2^8, a place below 2^24, a count below 2^32

-- each part of the answer is below its field's bound
abbrev pub FitsFields : Answer ℕ → Type 0
FitsFields (accepted c) = c < 4294967296
FitsFields (refused n p) = (n < 256) × (p < 16777216)

-- of the reason tool, with the step as a place
abbrev pub ReasonFits : Reason → Type 0
ReasonFits (verdict a) = FitsFields a
ReasonFits (table_alone k) = k < 16777216
ReasonFits (pairs k c) = (k < 16777216) × (c < 4294967296)

-- ---- demand 3

-- the original iterations of the new order are those of the old, each once, and both orders, fed the same values and rules, end with equal
-- values in every element
pub record Promise (ts : List Step) (old new : Nest) : Type 0 where
  pub same-iterations : SameMembers (iterations old.loops) (map (undo_all ts) (iterations new.loops))
  pub once : Distinct (map (undo_all ts) (iterations new.loops))
  pub count : length (iterations new.loops) ≡ length (iterations old.loops)
  pub equal-values : (rules : Rules) (s : State) (x : Element)
      → exec (accesses old.statements) rules (order old) s x ≡ exec (accesses new.statements) (originally (undo_all ts) rules) (order new) s x

-- the store that run leaves, lent `words`
pub record Left (N : Nest) (words memory : List ℕ) : Type 0 where
  -- word for word what the old order leaves
  pub as-old : memory ≡ run_nest N words
  -- and what the plain machine leaves, fed the words and the ticket's own rules
  pub as_plain : (e : Element) → Valid N.arrays e
      → exec (accesses N.statements) (own_rules N.statements) (order N) (state_of N.arrays words) e
      ≡ pos (get_or memory (place_of N.arrays e) 0)
  pub size : length memory ≡ length words

-- one of judge, write and run gives 0
abbrev pub SomeAccepts : Answer Ticket → List ℕ → List ℕ → Type 0
SomeAccepts d buffer words =
    ((c : ℕ) × (judge_of d ≡ accepted c))
    ⊎ (((c : ℕ) × ((write_of d buffer).answer ≡ accepted c)) ⊎ ((c : ℕ) × ((run_of d words).answer ≡ accepted c)))

-- all of demand 3, of the ticket and the new nest j
pub record Whole (d : Answer Ticket) (buffer words : List ℕ) (j : Judged) : Type 0 where
  pub verdict : judged_of d ≡ accepted j
  -- the ticket is what was decoded, the new nest what its steps make of its nest
  pub ticket : d ≡ accepted j.ticket
  pub new : j.new ≡ nest_after_all j.ticket.steps j.ticket.nest
  -- the new order runs each iteration of the old exactly once, and both end with equal values in every element, for all starting values and rules
  pub orders : Promise j.ticket.steps j.ticket.nest j.new
  -- judge counts these iterations, and so does run
  pub counts : judge_of d ≡ accepted (length (iterations j.ticket.nest.loops))
  pub run-counts : {c : ℕ} → (run_of d words).answer ≡ accepted c → c ≡ length (iterations j.ticket.nest.loops)
  -- what write hands out is that nest
  pub written : {c : ℕ} → (write_of d buffer).answer ≡ accepted c
      → HandedOut (encode j.new) buffer c (write_of d buffer).memory × (decode_nest (encode j.new) ≡ accepted j.new)
  -- what run leaves is the store that the old order leaves
  pub left : {c : ℕ} → (run_of d words).answer ≡ accepted c → Left j.ticket.nest words (run_of d words).memory
