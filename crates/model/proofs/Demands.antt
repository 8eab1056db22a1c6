-- WHAT IS PROMISED of the definitions in `specs/`, in the order of document 01. Each statement speaks of `specs/` alone (`tests/demands` tests it);
-- behind its '=' stands the proof. How to read one:
--   `(x : A) → B` for every x; `A → B` if A then B; `A ↔ B` exactly if; `{x : A} → B` for every x, which the checker finds by itself
--   `(x : A) × B` there is an x with B; `A × B` both; `A ⊎ B` one or the other; `A → ⊥` not A; `Unit` and `tt` what is always true
--   `a ≡ b` they are equal; `T t` the test t passes; `Mem x l` x stands in l; `All P l` every x in l has P; `Ordered R l` each R every later one
--   `accepted v` the number 0 with the value v; `refused n p` the number n with the place p
--   a record (`specs/Promises`, `specs/Reasons`) is the list of what holds together; `r.field` is one of these
--   `pos n` is the integer n, `negsuc n` is −1 − n; `lt_z x y` the test x < y
--   `List ℕ` are bytes, or the words of a store; `decode b` is what the grammar makes of a ticket's bytes b
use mathlib.Core.Path.{◌≡◌}
use mathlib.Core.Logic.{◌↔◌, ◌⊎◌}
use mathlib.Core.List.{List, [], ◌∷◌, ◌++◌, map}
use Prim.Native.Nat.{ℕ, suc, ◌+◌, ◌≤◌, ◌<◌}
use lib.Dec.{T}
use lib.IntN.{ℤ, pos, negsuc, ◌-ℤ◌}
use lib.Signed.{◌<ℤ◌, lt_z}
use lib.ListN.{length, take, get_or}
use Rattle.integers.specs.Sign.{Sign, sign, sign_value, yes_no}
use Rattle.lists.specs.Membership.{Mem, All, Distinct, SameMembers}
use Rattle.lists.specs.Order.{Ordered, Precedes}
use Rattle.lists.specs.Place.{swap_all, moved_to}
use Rattle.model.specs.Answer.{accepted, refused}
use Rattle.model.specs.Words.{bytes_of}
use Rattle.model.specs.Ticket.{Loop, Access, Step, Nest, Ticket}
use Rattle.model.specs.Grammar.{decode, decode_nest}
use Rattle.model.specs.Points.{partial_points, iterations}
use Rattle.model.specs.Machine.{Instance, Accesses, accesses, order, State, Rules, perform, run}
use Rattle.model.specs.Directions.{signs, backwards, earlier, conflict_of, conflict, Line}
use Rattle.model.specs.Steps.{chain, forward, undo_all, vectors, vectors_after, vectors_after_all, some_points_back}
use Rattle.model.specs.Limits.{nest_after_all}
use Rattle.model.specs.Judge.{Judged, judged, admit, judge_steps, judge_ticket, expanded, expanded_ticket, directions_of}
use Rattle.model.specs.Encode.{encode, ticket_words}
use Rattle.model.specs.Listing.{lines_of, listing}
use Rattle.model.specs.Quick.{apart}
use Rattle.model.specs.Entries.{judge, write, list, quick, run_entry, all_accesses, access_number}
use Rattle.model.specs.Pairs.{Pair, traded, Record, record_of, fill, verdict, table_alone, pairs, reason}
use Rattle.model.specs.Cases.{cases, AllHold}
use Rattle.model.specs.Readings.{readings, further_cases}
use Rattle.model.specs.ReasonCases.{reason_cases}
use Rattle.model.specs.Inside.{Inside, Earlier}
use Rattle.model.specs.Shape.{Shaped, Runs, Proper, WellFormed}
use Rattle.model.specs.Ranges.{StepThere, TicketRanges}
use Rattle.model.specs.Roles.{Wrong}
use Rattle.model.specs.Reasons.{StepsPass, NotAdmitted, Because, Short, NoAccess, NotRun}
use Rattle.model.specs.Promises.{Fitting, Dependence, LineBefore, KeepsPoints, Turns, AtOnce, Attained, moved, Crossed, Trade, NeverMeet}
use Rattle.model.specs.Promises.{TradesAt, PairBefore, QuickRule, HandedOut, OneToOne, FitsFields, ReasonFits, Promise, Left, SomeAccepts}
use Rattle.model.specs.Promises.{Whole}
use Rattle.integers.proofs.SignLaws as SignLaws
use Rattle.model.proofs.CaseLaws as CaseLaws
use Rattle.model.proofs.Grammar.TicketLaws as TicketLaws
use Rattle.model.proofs.Grammar.GrammarLaws.{decode-sound}
use Rattle.model.proofs.Grammar.WrongLaws as WrongLaws
use Rattle.model.proofs.Grammar.BriefLaws as BriefLaws
use Rattle.model.proofs.Grammar.CutLaws as CutLaws
use Rattle.model.proofs.Points.PointLaws as PointLaws
use Rattle.model.proofs.Points.EarlierLaws as EarlierLaws
use Rattle.model.proofs.Steps.StepLaws as StepLaws
use Rattle.model.proofs.Steps.VectorLaws as VectorLaws
use Rattle.model.proofs.Steps.AttainLaws as AttainLaws
use Rattle.model.proofs.Steps.ChainLaws as ChainLaws
use Rattle.model.proofs.Quick.QuickRuleLaws as QuickRuleLaws
use Rattle.model.proofs.Machine.CommuteLaws as CommuteLaws
use Rattle.model.proofs.Store.PlaceLaws as PlaceLaws
use Rattle.model.proofs.Listing.ListingLaws as ListingLaws
use Rattle.model.proofs.Verdict.EntryLaws as EntryLaws
use Rattle.model.proofs.Verdict.RunLaws as RunLaws
use Rattle.model.proofs.Verdict.JudgeLaws as JudgeLaws
use Rattle.model.proofs.Verdict.StageLaws as StageLaws
use Rattle.model.proofs.Promise.TradeLaws as TradeLaws
use Rattle.model.proofs.Promise.CirculationLaws as CirculationLaws
use Rattle.model.proofs.Promise.EntryStepLaws as EntryStepLaws
use Rattle.model.proofs.Promise.PairLaws as PairLaws
use Rattle.model.proofs.Promise.ReasonLaws as ReasonLaws
use Rattle.model.proofs.Promise.ReasonToolLaws as ReasonToolLaws
use Rattle.model.proofs.Promise.PromiseLaws as PromiseLaws
use Rattle.model.proofs.Promise.WholeLaws as WholeLaws
use Rattle.model.proofs.Promise.FitLaws as FitLaws

-- ---- the worked cases, and the ticket: the grammar accepts just the bytes of one whose numbers are in range and whose lists fit

pub worked-cases : AllHold cases
worked-cases = CaseLaws.cases-hold

pub readings-hold : AllHold readings
readings-hold = CaseLaws.readings-hold

-- of what no theorem says
pub further-cases : AllHold further_cases
further-cases = CaseLaws.further-hold

-- of the tool that shows the pairs that trade places
pub reason-cases : AllHold reason_cases
reason-cases = CaseLaws.reasons-hold

pub grammar-exact : (b : List ℕ) (K : Ticket) → All (λ x. x < 256) b
    → (decode b ≡ accepted K) ↔ ((b ≡ bytes_of (ticket_words K)) × TicketRanges K × WellFormed K.nest)
grammar-exact = TicketLaws.decode-iff

-- ---- points; the count that judge answers is that of the partial points of full depth

pub points-rise : (N : List Loop) → Ordered Earlier (iterations N)
points-rise = PointLaws.iterations-rise

pub points-inside : (k : ℕ) (N : List Loop) → All Runs N → (y : List ℤ) → Mem y (partial_points k N) ↔ Inside (take k N) [] y
points-inside = PointLaws.partial-inside

pub iterations-counted : (b : List ℕ) {c : ℕ} → judge b ≡ accepted c
    → (j : Judged) × (judged b ≡ accepted j) × (c ≡ length (partial_points (length j.ticket.nest.loops) j.ticket.nest.loops))
iterations-counted b = PromiseLaws.judge-counts (decode b)

-- ---- steps: `undo` maps the new points one to one onto the old

pub step-keeps-points : (t : Step) → Proper t → (N : List Loop) → Shaped 0 N → All Runs N → KeepsPoints t N
step-keeps-points = StepLaws.keeps-points

-- ---- the sign of two indices (document 02, L3): as a number −1, 0 or 1, exactly as the first is below, equal to or above the second

pub sign-exact : (x y : ℤ)
    → ((sign_value (sign x y) ≡ negsuc 0) ↔ (x <ℤ y)) × ((sign_value (sign x y) ≡ pos 0) ↔ (x ≡ y)) × ((sign_value (sign x y) ≡ pos 1) ↔ (y <ℤ x))
sign-exact = SignLaws.sign-exact

-- it is a difference of two yes/no numbers
pub sign-difference : (x y : ℤ) → sign_value (sign x y) ≡ yes_no (lt_z y x) -ℤ yes_no (lt_z x y)
sign-difference = SignLaws.sign-difference

-- ---- signs, for a general loop number

pub signs-after : (t : Step) → Proper t → (p q : List ℤ) → length p ≡ length q → Mem (signs (forward t p) (forward t q)) (vectors t (signs p q))
signs-after = VectorLaws.step-signs

-- and a table has no vector that no two points can have
pub signs-attained : (m : ℕ) (t : Step) → StepThere m t → (v w : List Sign) → Mem w (vectors t v) → Attained t v w
signs-attained = AttainLaws.table-attained

-- for exchange, reversal and circulation exactly that one
pub turns-exact : (t : Step) → Turns t → (p q : List ℤ) → length p ≡ length q → vectors t (signs p q) ≡ signs (forward t p) (forward t q) ∷ []
turns-exact = TradeLaws.turns-signs

pub backwards-means : (p q : List ℤ) → backwards (signs p q) ≡ earlier q p
backwards-means = EarlierLaws.backwards-earlier

-- ---- circulations (document 02, L1)

-- the loop at place a comes to place b, and those between close up
pub circulation-places : {A : Type 0} (a b : ℕ) (l : List A) → a < length l → b < length l → swap_all (chain a b) l ≡ moved_to a b l
circulation-places = ChainLaws.chain-moves

-- a ticket is accepted exactly when the one with every circulation written out as its exchanges is, the number of steps aside, with the same new nest
pub circulation-chain : (K : Ticket) (M : Nest)
    → (judge_ticket K ≡ accepted (record { ticket = K; new = M }))
    ↔ (judge_ticket (expanded_ticket K) ≡ accepted (record { ticket = expanded_ticket K; new = M }))
circulation-chain = CirculationLaws.circulation-chain

-- that ticket has no circulation
pub circulations-written-out : (ts : List Step) → All AtOnce (expanded ts)
circulations-written-out = StageLaws.expanded-at-once

-- and the same undoing
pub circulation-undone : (ts : List Step) (p : List ℤ) → undo_all (expanded ts) p ≡ undo_all ts p
circulation-undone = StageLaws.expanded-undo

-- in bytes, where the longer list of steps still is a ticket's
pub circulation-bytes : (b : List ℕ) {K : Ticket} → decode b ≡ accepted K → length (expanded K.steps) ≤ 8
    → (c : ℕ) → (judge b ≡ accepted c) ↔ (judge (bytes_of (ticket_words (expanded_ticket K))) ≡ accepted c)
circulation-bytes = CirculationLaws.circulation-bytes

-- ---- demand 2

pub line-exact : (N : Nest) (l : Line) → Mem l (lines_of N) ↔ (Fitting (length N.statements) (length N.loops) l × Dependence N l)
line-exact = ListingLaws.lines_of-exact

pub lines-once-in-order : (N : Nest) → Ordered LineBefore (lines_of N) × Distinct (lines_of N)
lines-once-in-order N = (ListingLaws.lines_of-ordered N, ListingLaws.lines_of-distinct N)

pub kinds-merged : (N : Nest) (v : List Sign) → Mem v (map (λ l. l.vector) (lines_of N)) ↔ Mem v (directions_of N)
kinds-merged = ListingLaws.lines_of-merged

-- a reached step is refused with 10 exactly if a vector of the set then points backwards, whatever the set and the nest
pub ten-exact : (k : ℕ) (front : List Step) (t : Step) (back : List Step) (vs : List (List Sign)) (N : Nest) → StepsPass front vs N
    → (judge_steps k (front ++ t ∷ back) vs N ≡ refused 10 (k + length front)) ↔ T (some_points_back (vectors_after t (vectors_after_all front vs)))
ten-exact = JudgeLaws.ten-exact

-- while all steps so far exchange or reverse, exactly if the iterations of two conflicting instances cross at it, in any nest
pub ten-crosses : (N : Nest) (front : List Step) (t : Step) → All Turns (front ++ t ∷ []) → StepsPass front (directions_of N) N
    → (k : ℕ) (back : List Step)
    → (judge_steps k (front ++ t ∷ back) (directions_of N) N ≡ refused 10 (k + length front)) ↔ Crossed N front t
ten-crosses = TradeLaws.ten-crossed

-- so a step that judge reaches is refused with 10 exactly if a direction then points backwards
pub judge-ten : (b : List ℕ) (K : Ticket) → admit b ≡ accepted K
    → (front : List Step) (t : Step) (back : List Step) → K.steps ≡ front ++ t ∷ back
    → StepsPass front (directions_of K.nest) K.nest
    → (judge b ≡ refused 10 (1 + length front)) ↔ T (some_points_back (vectors_after t (vectors_after_all front (directions_of K.nest))))
judge-ten b = EntryStepLaws.judge-ten (decode b)

-- while all steps so far exchange or reverse, exactly if two conflicting instances trade places at it
pub judge-trades : (b : List ℕ) (K : Ticket) → admit b ≡ accepted K
    → (front : List Step) (t : Step) (back : List Step) → K.steps ≡ front ++ t ∷ back
    → StepsPass front (directions_of K.nest) K.nest → All Turns (front ++ t ∷ [])
    → (judge b ≡ refused 10 (1 + length front)) ↔ Trade K.nest front t
judge-trades b K a front t back e pass = EntryStepLaws.judge-trades (decode b) K a front t back e pass (decode-sound b)

-- the quick test says 'apart' exactly on its rule
pub quick-rule : (b : List ℕ) (K : Ticket) → admit b ≡ accepted K → (m n : ℕ) (u v : Access)
    → access_number (all_accesses K.nest) m ≡ accepted u → access_number (all_accesses K.nest) n ≡ accepted v
    → (quick b m n ≡ accepted apart) ↔ QuickRule K.nest.loops u v
quick-rule b = QuickRuleLaws.quick-rule (decode b)

pub apart-never-meet : (b : List ℕ) (m n : ℕ) → quick b m n ≡ accepted apart → NeverMeet (decode b) m n
apart-never-meet b = ReasonLaws.apart-never (decode b) (decode-sound b)

-- ---- which two instances trade places (document 02, L2)

-- the pairs found are exactly those that trade places
pub pair-exact : (ts : List Step) (N : Nest) (r : Pair) → Mem r (traded ts N) ↔ TradesAt ts N r
pair-exact = PairLaws.pair-exact

-- and that is, in the order of the nest that the steps make, that the sink stands before the source
pub pair-new-order : (ts : List Step) (N : Nest) → WellFormed N → All Proper ts → (r : Pair) → TradesAt ts N r
    ↔ (Precedes (order N) r.source r.sink × T (conflict_of r.kind (accesses N.statements) r.source r.sink)
    × Precedes (order (nest_after_all ts N)) (moved ts r.sink) (moved ts r.source))
pair-new-order = PairLaws.pair-new-order

pub pairs-once-in-order : (ts : List Step) (N : Nest) → Ordered PairBefore (traded ts N) × Distinct (traded ts N)
pairs-once-in-order ts N = (PairLaws.pairs-ordered ts N, PairLaws.pairs-distinct ts N)

-- at a step that judge refuses with 10: how many pairs have traded places then, if there are any
pub reason-pairs : (b : List ℕ) (l : List Record) (k c : ℕ)
    → ((reason b l).answer ≡ pairs k c)
    ↔ ((K : Ticket) × (admit b ≡ accepted K) × (judge b ≡ refused 10 k) × (c ≡ length (traded (take k K.steps) K.nest)) × (0 < c))
reason-pairs b l = ReasonToolLaws.reason-pairs (decode b) l (λ n p e. (BriefLaws.wrong-place b (WrongLaws.decode-wrong b e)).0)

-- and as many of their records as were lent
pub pairs-filled : (b : List ℕ) (l : List Record) (k c : ℕ) (K : Ticket) → (reason b l).answer ≡ pairs k c → admit b ≡ accepted K
    → (reason b l).list ≡ fill (map record_of (traded (take k K.steps) K.nest)) l
pairs-filled b l = ReasonToolLaws.pairs-filled (decode b) l (λ n p e. (BriefLaws.wrong-place b (WrongLaws.decode-wrong b e)).0)

-- records beyond the pairs found keep their contents
pub records-beyond-kept : (rs l : List Record) (i : ℕ) (r : Record) → length rs ≤ i → get_or (fill rs l) i r ≡ get_or l i r
records-beyond-kept = ReasonToolLaws.fill-rest

pub records-filled : (rs l : List Record) (i : ℕ) (r : Record) → i < length l → i < length rs → get_or (fill rs l) i r ≡ get_or rs i r
records-filled = ReasonToolLaws.fill-front

-- by the table alone exactly if there is none
pub reason-table : (b : List ℕ) (l : List Record) (k : ℕ)
    → ((reason b l).answer ≡ table_alone k)
    ↔ ((K : Ticket) × (admit b ≡ accepted K) × (judge b ≡ refused 10 k) × ((r : Pair) → TradesAt (take k K.steps) K.nest r → ⊥))
reason-table b l = ReasonToolLaws.reason-table (decode b) l (λ n p e. (BriefLaws.wrong-place b (WrongLaws.decode-wrong b e)).0)

-- a ticket without a 10 gets the judge's answer
pub reason-judge : (b : List ℕ) (l : List Record) → ((k : ℕ) → judge b ≡ refused 10 k → ⊥)
    → reason b l ≡ record { answer = verdict (judge b); list = l }
reason-judge b l = ReasonToolLaws.reason-judge (decode b) l

-- on every answer without pairs the list is as it was
pub list-kept : (b : List ℕ) (l : List Record) → ((k c : ℕ) → (reason b l).answer ≡ pairs k c → ⊥) → (reason b l).list ≡ l
list-kept b l = ReasonToolLaws.list-kept (decode b) l (λ n p e. (BriefLaws.wrong-place b (WrongLaws.decode-wrong b e)).0)

-- its length stays on every answer
pub list_length : (b : List ℕ) (l : List Record) → length (reason b l).list ≡ length l
list_length b l = ReasonToolLaws.list_length (decode b) l (λ n p e. (BriefLaws.wrong-place b (WrongLaws.decode-wrong b e)).0)

-- after the steps before the refused one no pair has traded places
pub traded-now : (b : List ℕ) (k : ℕ) (K : Ticket) → admit b ≡ accepted K → judge b ≡ refused 10 (suc k)
    → (r : Pair) → TradesAt (take k K.steps) K.nest r → ⊥
traded-now b = ReasonToolLaws.traded-now (decode b) (decode-sound b)

-- ---- refusal exactly on its condition, for each number from 1 to 16; a refused entry leaves lent memory as it was

-- 1 to 6: the first offending word from the front
pub grammar-refuses : (b : List ℕ) (n p : ℕ) → (decode b ≡ refused n p) ↔ Wrong b n p
grammar-refuses = WrongLaws.decode-exact

-- 1 to 13
pub judge-refuses : (b : List ℕ) (n p : ℕ) → (judge b ≡ refused n p) ↔ Because (Wrong b) (decode b) n p
judge-refuses b = ReasonLaws.judge-exact (Wrong b) (decode b) (WrongLaws.decode-exact b)

pub write-refuses : (b buffer : List ℕ) (n p : ℕ)
    → ((write b buffer).answer ≡ refused n p)
    ↔ (Because (Wrong b) (decode b) n p ⊎ ((j : Judged) × (judged b ≡ accepted j) × Short (encode j.new) buffer n p))
write-refuses b = ReasonLaws.write-exact (Wrong b) (decode b) (WrongLaws.decode-exact b)

pub list-refuses : (b buffer : List ℕ) (n p : ℕ)
    → ((list b buffer).answer ≡ refused n p)
    ↔ (NotAdmitted (Wrong b) (decode b) n p ⊎ ((K : Ticket) × (admit b ≡ accepted K) × Short (listing K.nest) buffer n p))
list-refuses b = ReasonLaws.list-exact (Wrong b) (decode b) (WrongLaws.decode-exact b)

pub quick-refuses : (b : List ℕ) (m k n p : ℕ)
    → (quick b m k ≡ refused n p)
    ↔ (NotAdmitted (Wrong b) (decode b) n p
    ⊎ ((K : Ticket) × (admit b ≡ accepted K) × (NoAccess (all_accesses K.nest) m n p ⊎ NoAccess (all_accesses K.nest) k n p)))
quick-refuses b = ReasonLaws.quick-exact (Wrong b) (decode b) (WrongLaws.decode-exact b)

pub run-refuses : (b words : List ℕ) (n p : ℕ)
    → ((run_entry b words).answer ≡ refused n p) ↔ (Because (Wrong b) (decode b) n p ⊎ ((j : Judged) × (judged b ≡ accepted j) × NotRun j words n p))
run-refuses b = ReasonLaws.run-exact (Wrong b) (decode b) (WrongLaws.decode-exact b)

pub write_keeps : (b buffer : List ℕ) (n p : ℕ) → (write b buffer).answer ≡ refused n p → (write b buffer).memory ≡ buffer
write_keeps b buffer n p e = (EntryLaws.write-refused (decode b) buffer e).0

pub list-keeps : (b buffer : List ℕ) (n p : ℕ) → (list b buffer).answer ≡ refused n p → (list b buffer).memory ≡ buffer
list-keeps b buffer n p e = (EntryLaws.list-refused (decode b) buffer e).0

pub run-keeps : (b words : List ℕ) (n p : ℕ) → (run_entry b words).answer ≡ refused n p → (run_entry b words).memory ≡ words
run-keeps b words n p e = (RunLaws.run-refused (decode b) words e).0

-- ---- answers fit the fields that they are handed out in; no ticket needs more than 504 words, so that the first 1009 bytes of an input decide

pub judge-fits : (b : List ℕ) → FitsFields (judge b)
judge-fits b = FitLaws.judge-fits (Wrong b) (decode b) (WrongLaws.decode-exact b) (λ n p. BriefLaws.wrong-place b) (decode-sound b)

pub write-fits : (b buffer : List ℕ) → FitsFields (write b buffer).answer
write-fits b = FitLaws.write-fits (Wrong b) (decode b) (WrongLaws.decode-exact b) (λ n p. BriefLaws.wrong-place b) (decode-sound b)

pub list-fits : (b buffer : List ℕ) → FitsFields (list b buffer).answer
list-fits b = FitLaws.list-fits (Wrong b) (decode b) (WrongLaws.decode-exact b) (λ n p. BriefLaws.wrong-place b) (decode-sound b)

pub run_fits : (b words : List ℕ) → FitsFields (run_entry b words).answer
run_fits b = FitLaws.run_fits (Wrong b) (decode b) (WrongLaws.decode-exact b) (λ n p. BriefLaws.wrong-place b) (decode-sound b)

pub reason-fits : (b : List ℕ) (l : List Record) → ReasonFits (reason b l).answer
reason-fits b = FitLaws.reason-fits (Wrong b) (decode b) (WrongLaws.decode-exact b) (λ n p. BriefLaws.wrong-place b) (decode-sound b)

-- the quick test accepts with one of two values
pub quick-fits : (b : List ℕ) (m k n p : ℕ) → quick b m k ≡ refused n p → FitsFields (refused n p)
quick-fits b = FitLaws.quick-fits (Wrong b) (decode b) (WrongLaws.decode-exact b) (λ n p. BriefLaws.wrong-place b) (decode-sound b)

pub refusals-near : (b : List ℕ) (n p : ℕ) → decode b ≡ refused n p → (n ≤ 6) × (p ≤ 505)
refusals-near b n p e = BriefLaws.wrong-place b (WrongLaws.decode-wrong b e)

pub tickets-short : (b : List ℕ) (K : Ticket) → decode b ≡ accepted K → length b ≤ 1008
tickets-short b K e = CutLaws.accepted-short b e

pub first-bytes-decide : (b : List ℕ) (m : ℕ) → 1009 ≤ m → decode (take m b) ≡ decode b
first-bytes-decide = CutLaws.decode-cut

-- ---- the plain machine

pub commute : (A : Accesses) (rules : Rules) (i j : Instance) → (T (conflict A i j) → ⊥)
    → (s : State) → perform A rules i (perform A rules j s) ≡ perform A rules j (perform A rules i s)
commute = CommuteLaws.commute

pub reordering : (A : Accesses) (rules : Rules) (xs ys : List Instance) → Distinct xs → Distinct ys → SameMembers xs ys
    → ((i j : Instance) → Precedes xs i j → T (conflict A i j) → Precedes ys i j)
    → (s : State) → run (perform A rules) xs s ≡ run (perform A rules) ys s
reordering A rules = CommuteLaws.reordering A rules (CommuteLaws.commute A rules)

-- ---- the store: each element has a place of its own, and each word is an element's

pub places : (arrays : List (List ℕ)) → OneToOne arrays
places = PlaceLaws.one-to-one

-- ---- demand 3, undivided: wherever judge, write or run gives 0, the original iterations of the new order are those of the old, each once; both
-- orders end with equal values in every element, for all starting values and all rules; write's bytes are that nest; run's store is, word for
-- word, what the old order leaves under the ticket's own rules

pub demand-3 : (b buffer words : List ℕ) → SomeAccepts (decode b) buffer words → (j : Judged) × Whole (decode b) buffer words j
demand-3 b = WholeLaws.accepted-whole (decode b) (decode-sound b)

-- its parts

pub orders-agree : (b : List ℕ) {j : Judged} → judged b ≡ accepted j → Promise j.ticket.steps j.ticket.nest j.new
orders-agree b = PromiseLaws.judged-promise (decode b) (decode-sound b)

pub written-nest : (b buffer : List ℕ) {c : ℕ} → (write b buffer).answer ≡ accepted c
    → (j : Judged) × (judged b ≡ accepted j) × HandedOut (encode j.new) buffer c (write b buffer).memory
    × (decode_nest (encode j.new) ≡ accepted j.new)
written-nest b = PromiseLaws.write-hands (decode b) (decode-sound b)

pub listed-text : (b buffer : List ℕ) {c : ℕ} → (list b buffer).answer ≡ accepted c
    → (K : Ticket) × (admit b ≡ accepted K) × HandedOut (listing K.nest) buffer c (list b buffer).memory
listed-text b = EntryLaws.list-accepted (decode b)

pub run_store : (b words : List ℕ) {c : ℕ} → (run_entry b words).answer ≡ accepted c
    → (j : Judged) × (judged b ≡ accepted j) × Left j.ticket.nest words (run_entry b words).memory
run_store b = PromiseLaws.run-leaves (decode b) (decode-sound b)

-- and its count is that of the iterations
pub run-counts : (b words : List ℕ) {c : ℕ} → (run_entry b words).answer ≡ accepted c
    → (j : Judged) × (judged b ≡ accepted j) × (c ≡ length (iterations j.ticket.nest.loops))
run-counts b words e = let r = RunLaws.run-accepted (decode b) words e in (r.0, r.1.verdict, r.2)
