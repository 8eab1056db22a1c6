-- What each word of a ticket is read for, and so which of the refusals 1 to 6 falls to which word. In order: roles; the words of a ticket with their
-- roles; the first word that offends. Document 01: numbers 1 to 6 fall to the first offending word from the front.
use Rattle.std.specs.Prelude.{◌≡◌, Bool, cond, not, ◌&&◌, ◌⊎◌, ℕ, suc, ◌+◌, ◌*◌, ◌<◌, eqb, ltb, leb, ℤ, pos, negsuc, neg_ℤ, nat_abs, length}
use mathlib.Core.List.{List, [], ◌∷◌, ◌++◌, map, flat_map}
use Rattle.std.specs.Int.Signed.{lt_z}
use Rattle.integers.specs.Sign.{eq_z}
use Rattle.lists.specs.Membership.{All}
use Rattle.model.specs.Encode.{kind_of}
use Rattle.model.specs.Answer.{Answer, accepted, refused, require, ◌>>◌}
use Rattle.model.specs.Words.{word_at}
use Rattle.model.specs.Ticket.{Limit, Loop, Subscript, Access, Statement, Step, exchange, reversal, skew, section, circulation, Nest, Ticket}
use Rattle.model.specs.Grammar.{between, elements, extents, depth_after, most_factor, step_kinds}
use Rattle.model.specs.Grammar.{most_statements, most_reads, most_arrays, most_dimensions, most_extent, most_elements}
use Rattle.model.specs.Grammar.{ticket_loops, ticket_limits, most_loops}
use Rattle.model.specs.Bounds.{accesses_of}
use Rattle.model.specs.Shape.{Shaped}

-- ---- roles

-- what a word is read for
pub data Role : Type 0 where
  -- a count, from lo to hi
  count_from : ℕ → ℕ → Role
  -- another word, from lo to hi
  word_from : ℤ → ℤ → Role
  -- the factor of a skew
  factor : Role
  -- the last extent of an array, after arrays of t elements; e is the product of the extents before it
  last_extent : ℕ → ℕ → Role
  -- a loop that step k names: one that the test passes
  loop_word : ℕ → (ℤ → Bool) → Role

-- within ±32767
abbrev pub any_number : Role
any_number = word_from (negsuc 32766) (pos 32767)

-- a word that is not used
abbrev pub unused : Role
unused = word_from (pos 0) (pos 0)

-- what a role says to the word w with number p: 3 is bad count, 4 bad word, 5 overfull, 6 off the nest. In one word 4 comes before 5 or 6
unfoldable pub word_check : Role → ℕ → ℤ → Answer (Unit {0})
word_check (count_from lo hi) p w = require (between (pos lo) (pos hi) w) 3 p
word_check (word_from lo hi) p w = require (between lo hi w) 4 p
word_check factor p w = require (between (neg_ℤ (pos most_factor)) (pos most_factor) w) 4 p >> require (not (eq_z w (pos 0))) 4 p
word_check (last_extent t e) p w = require (between (pos 1) (pos most_extent) w) 4 p >> require (leb (t + e * nat_abs w) most_elements) 5 p
word_check (loop_word k ok) p w = require (between (negsuc 32766) (pos 32767) w) 4 p >> require (ok w) 6 k

-- ---- the words of a ticket with their roles

-- a word and what it is read for
pub record Slot : Type 0 where
  pub role : Role
  pub word : ℤ

abbrev pub slot : Role → ℤ → Slot
slot r w = record { role = r; word = w }

-- sections stand each after their count
unfoldable pub counted_slots : {A : Type 0} → ℕ → ℕ → (A → List Slot) → List A → List Slot
counted_slots lo hi f l = slot (count_from lo hi) (pos (length l)) ∷ flat_map f l

-- constants and coefficients
unfoldable pub number_slots : List ℤ → List Slot
number_slots l = map (slot any_number) l

-- a multiplier, a constant and coefficients
unfoldable pub limit_slots : Limit → List Slot
limit_slots l = slot (word_from (pos 1) (pos 32767)) (pos l.multiplier) ∷ number_slots (l.constant ∷ l.coefficients)

-- lower limits, then upper limits, 1 to 4 of each
unfoldable pub loop_slots : Loop → List Slot
loop_slots L = counted_slots 1 ticket_limits limit_slots L.lower ++ counted_slots 1 ticket_limits limit_slots L.upper

-- extents after arrays of t elements; e is the product of those before
unfoldable pub extent_slots : ℕ → ℕ → List ℕ → List Slot
extent_slots t e [] = []
extent_slots t e (n ∷ []) = slot (last_extent t e) (pos n) ∷ []
extent_slots t e (n ∷ m ∷ ns) = slot (word_from (pos 1) (pos most_extent)) (pos n) ∷ extent_slots t (e * n) (m ∷ ns)

-- a count of dimensions, and an extent for each
unfoldable pub array_slots : ℕ → List ℕ → List Slot
array_slots t a = slot (count_from 1 most_dimensions) (pos (length a)) ∷ extent_slots t 1 a

-- arrays after others of t elements
unfoldable pub arrays_slots : ℕ → List (List ℕ) → List Slot
arrays_slots t [] = []
arrays_slots t (a ∷ as') = array_slots t a ++ arrays_slots (t + elements a) as'

-- a constant, and one coefficient per loop
unfoldable pub subscript_slots : Subscript → List Slot
subscript_slots s = number_slots (s.constant ∷ s.coefficients)

-- an array's number, of n arrays, and subscripts
unfoldable pub access_slots : ℕ → Access → List Slot
access_slots n a = slot (word_from (pos 1) (pos n)) (pos (suc a.array)) ∷ flat_map subscript_slots a.subscripts

-- a rule, a constant (0 under rule 3), what is written, and the reads (one at least under rule 3)
unfoldable pub statement_slots : ℕ → Statement → List Slot
statement_slots n s =
    slot (word_from (pos 0) (pos 3)) (pos s.rule) ∷ slot (word_from (pos 0) (pos (cond (eqb s.rule 3) 0 32767))) (pos s.constant)
    ∷ (flat_map (access_slots n) s.writes ++ counted_slots (cond (eqb s.rule 3) 1 0) most_reads (access_slots n) s.reads)

-- a, b and c of step k, in a nest of m loops
unfoldable pub argument_slots : ℕ → ℕ → Step → List Slot
argument_slots k m (exchange a) =
    slot (loop_word k (between (pos 1) (pos m))) (pos (suc a))
    ∷ slot (loop_word k (λ w. between (pos 1) (pos m) w && eq_z w (pos (suc (suc a))))) (pos (suc (suc a))) ∷ slot unused (pos 0) ∷ []
argument_slots k m (reversal a) = slot (loop_word k (between (pos 1) (pos m))) (pos (suc a)) ∷ slot unused (pos 0) ∷ slot unused (pos 0) ∷ []
argument_slots k m (skew a d c) =
    slot (loop_word k (between (pos 1) (pos m))) (pos (suc a))
    ∷ slot (loop_word k (λ w. between (pos 1) (pos m) w && lt_z (pos (suc a)) w)) (pos (suc (suc (a + d)))) ∷ slot factor c ∷ []
argument_slots k m (section a w) =
    slot (loop_word k (λ v. between (pos 1) (pos m) v && ltb m most_loops)) (pos (suc a))
    ∷ slot (word_from (pos 2) (pos 256)) (pos w) ∷ slot unused (pos 0) ∷ []
argument_slots k m (circulation a b) =
    slot (loop_word k (between (pos 1) (pos m))) (pos (suc a))
    ∷ slot (loop_word k (λ w. between (pos 1) (pos m) w && not (eq_z w (pos (suc a))))) (pos (suc b)) ∷ slot unused (pos 0) ∷ []

-- steps from number k on, in a nest of m loops
unfoldable pub steps_slots : ℕ → ℕ → List Step → List Slot
steps_slots k m [] = []
steps_slots k m (t ∷ ts) = (slot (word_from (pos 1) (pos step_kinds)) (pos (kind_of t)) ∷ argument_slots k m t) ++ steps_slots (suc k) (depth_after t m) ts

-- loops, arrays and statements, 1 to 4 of each
unfoldable pub nest_slots : Nest → List Slot
nest_slots N =
    counted_slots 1 ticket_loops loop_slots N.loops
    ++ ((slot (count_from 1 most_arrays) (pos (length N.arrays)) ∷ arrays_slots 0 N.arrays)
    ++ counted_slots 1 most_statements (statement_slots (length N.arrays)) N.statements)

-- and 0 to 8 steps
unfoldable pub ticket_slots : Ticket → List Slot
ticket_slots K = nest_slots K.nest ++ (slot (count_from 0 8) (pos (length K.steps)) ∷ steps_slots 1 (length K.nest.loops) K.steps)

-- ---- lists as long as the words before them say, whatever the numbers

-- as many subscripts as its array has dimensions, and a coefficient for each of n loops
pub record AccessSized (as' : List (List ℕ)) (n : ℕ) (a : Access) : Type 0 where
  pub dimensions : length a.subscripts ≡ length (extents as' a.array)
  pub wide : All (λ (s : Subscript). length s.coefficients ≡ n) a.subscripts

-- one write, and accesses of their sizes
pub record StatementSized (as' : List (List ℕ)) (n : ℕ) (s : Statement) : Type 0 where
  pub one-write : length s.writes ≡ 1
  pub each : All (AccessSized as' n) (accesses_of s)

-- a coefficient for each loop outside a limit, and statements of their sizes
pub record TicketSized (K : Ticket) : Type 0 where
  pub loops : Shaped 0 K.nest.loops
  pub statements : All (StatementSized K.nest.arrays (length K.nest.loops)) K.nest.statements

-- ---- the first word that offends

-- word k is missing or half there (1), or its role refuses it
pub data Offends (b : List ℕ) (k : ℕ) (r : Role) (n p : ℕ) : Type 0 where
  truncated : n ≡ 1 → p ≡ k → length b < k * 2 → Offends b k r n p
  bad : (w : ℤ) → word_at b k ≡ accepted w → word_check r k w ≡ refused n p → Offends b k r n p

-- word k is there, the slot's own, and its role takes it
pub record Taken (b : List ℕ) (k : ℕ) (s : Slot) : Type 0 where
  pub there : word_at b k ≡ accepted s.word
  pub passes : word_check s.role k s.word ≡ accepted tt

-- all words from k on are taken
abbrev pub AllTaken : List ℕ → ℕ → List Slot → Type 0
AllTaken b k [] = Unit {0}
AllTaken b k (s ∷ ss) = Taken b k s × AllTaken b (suc k) ss

-- some are taken, and the next one offends
abbrev pub Stops : List ℕ → ℕ → List Slot → ℕ → ℕ → Type 0
Stops b k [] n p = ⊥
Stops b k (s ∷ ss) n p = Offends b k s.role n p ⊎ (Taken b k s × Stops b (suc k) ss n p)

-- the bytes are refused with n at p
pub data Wrong (b : List ℕ) (n p : ℕ) : Type 0 where
  -- 1 and 3 to 6: the words are a ticket's, up to the first that offends
  offends : (K : Ticket) → TicketSized K → Stops b 1 (ticket_slots K) n p → Wrong b n p
  -- 2, overhang: they are a ticket's to the last, and bytes follow
  trailing : (K : Ticket) → TicketSized K → AllTaken b 1 (ticket_slots K) → length (ticket_slots K) * 2 < length b
      → n ≡ 2 → p ≡ suc (length (ticket_slots K)) → Wrong b n p
