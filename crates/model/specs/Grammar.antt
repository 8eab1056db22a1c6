-- The ticket's grammar: sections of words, each after its count, with the refusals 1 to 6. The first offending word from the front decides.
use Rattle.std.specs.Prelude.{Bool, cond, ◌&&◌, not, List, [], ◌∷◌, ℕ, zero, suc, ◌+◌, ◌*◌, ◌-◌, eqb, ltb, leb, ℤ, pos, negsuc, neg_ℤ, nat_abs, length, get_or}
use Rattle.std.specs.Int.Signed.{le_z, lt_z}
use Rattle.integers.specs.Sign.{eq_z}
use Rattle.model.specs.Answer as Answer
use Rattle.model.specs.Answer.{Answer, accepted, require}
use Rattle.model.specs.Words.{word_at}
use Rattle.model.specs.Ticket.{Limit, Loop, Subscript, Access, Statement, Step, exchange, reversal, skew, section, circulation, Nest, Ticket}

-- ---- sizes: the most that a nest has, and its words on flat slices. The code has the same names, in src

abbrev pub most_statements : ℕ
most_statements = 4

-- accesses of a statement that it writes, and that it reads
abbrev pub most_writes : ℕ
most_writes = 1

abbrev pub most_reads : ℕ
most_reads = 4

-- accesses of all statements
abbrev pub most_accesses : ℕ
most_accesses = most_statements * (most_writes + most_reads)

abbrev pub most_arrays : ℕ
most_arrays = 4

abbrev pub most_dimensions : ℕ
most_dimensions = 3

-- an extent, and the elements of all arrays
abbrev pub most_extent : ℕ
most_extent = 4096

abbrev pub most_elements : ℕ
most_elements = 16384

-- loops, of a ticket's nest and after its sections
abbrev pub ticket_loops : ℕ
ticket_loops = 4

abbrev pub most_loops : ℕ
most_loops = 6

-- limits of a side, of a ticket's nest and after its steps
abbrev pub ticket_limits : ℕ
ticket_limits = 4

abbrev pub most_limits : ℕ
most_limits = 16

-- a lower and an upper side of each loop
abbrev pub most_sides : ℕ
most_sides = most_loops * 2

-- limits of all sides
abbrev pub nest_limits : ℕ
nest_limits = most_sides * most_limits

abbrev pub most_points : ℕ
most_points = 4096

-- the words of a limit or a subscript: a coefficient for each loop, and two more
abbrev pub row_room : ℕ
row_room = most_loops + 2

-- of all limits
abbrev pub nest_room : ℕ
nest_room = nest_limits * row_room

-- of an array, how many dimensions it has and their extents; then of all arrays
abbrev pub array_room : ℕ
array_room = most_dimensions + 1

abbrev pub most_extents : ℕ
most_extents = most_arrays * array_room

-- of an access, and of all accesses
abbrev pub access_room : ℕ
access_room = most_dimensions * row_room

abbrev pub most_words : ℕ
most_words = most_accesses * access_room

-- the numbers of the elements that all accesses have at all points
abbrev pub most_numbers : ℕ
most_numbers = most_accesses * most_points

-- ---- reading: from the bytes and the number of the next word to a value and the number after it

pub record Read (A : Type 0) : Type 0 where
  pub value : A
  pub next : ℕ

abbrev pub Reader : Type 0 → Type 0
Reader A = List ℕ → ℕ → Answer (Read A)

infixl 20 ◌>>=◌ ◌>>◌
unfoldable pub ◌>>=◌ : {A B : Type 0} → Reader A → (A → Reader B) → Reader B
(m >>= f) b k = Answer.◌>>=◌ (m b k) (λ r. f r.value b r.next)

unfoldable pub ◌>>◌ : {A B : Type 0} → Reader A → Reader B → Reader B
m >> r = m >>= (λ _. r)

unfoldable pub done : {A : Type 0} → A → Reader A
done a b k = accepted (record { value = a; next = k })

unfoldable pub word : Reader ℤ
word b k = Answer.◌>>=◌ (word_at b k) (λ w. accepted (record { value = w; next = suc k }))

-- refused with n at the word read last, unless the test passes
unfoldable pub must : Bool → ℕ → Reader (Unit {0})
must t n b k = Answer.◌>>=◌ (require t n (k - 1)) (λ u. accepted (record { value = u; next = k }))

-- refused with n at place p, unless the test passes
unfoldable pub must_at : Bool → ℕ → ℕ → Reader (Unit {0})
must_at t n p b k = Answer.◌>>=◌ (require t n p) (λ u. accepted (record { value = u; next = k }))

unfoldable pub between : ℤ → ℤ → ℤ → Bool
between lo hi w = le_z lo w && le_z w hi

-- 3, bad count
unfoldable pub count : ℕ → ℕ → Reader ℕ
count lo hi = do
  w ← word
  must (between (pos lo) (pos hi) w) 3
  done (nat_abs w)

-- 4, bad word; −32768 is in no range
unfoldable pub within : ℤ → ℤ → Reader ℤ
within lo hi = do
  w ← word
  must (between lo hi w) 4
  done w

unfoldable pub natural : ℕ → ℕ → Reader ℕ
natural lo hi = do
  w ← within (pos lo) (pos hi)
  done (nat_abs w)

unfoldable pub number : Reader ℤ
number = within (negsuc 32766) (pos 32767)

unfoldable pub times : {A : Type 0} → ℕ → Reader A → Reader (List A)
times zero r = done []
times (suc n) r = do
  a ← r
  rest ← times n r
  done (a ∷ rest)

-- ---- loops

-- k is the number of loops outside
unfoldable pub limit : ℕ → Reader Limit
limit k = do
  p ← natural 1 32767
  c ← number
  cs ← times k number
  done (record { multiplier = p; constant = c; coefficients = cs })

-- at most m limits
unfoldable pub side : ℕ → ℕ → Reader (List Limit)
side m k = do
  n ← count 1 m
  times n (limit k)

unfoldable pub loop : ℕ → ℕ → Reader Loop
loop m k = do
  l ← side m k
  u ← side m k
  done (record { lower = l; upper = u })

unfoldable pub loops_from : ℕ → ℕ → ℕ → Reader (List Loop)
loops_from m k zero = done []
loops_from m k (suc n) = do
  l ← loop m k
  rest ← loops_from m (suc k) n
  done (l ∷ rest)

-- at most d loops, outermost first
unfoldable pub loops : ℕ → ℕ → Reader (List Loop)
loops d m = do
  n ← count 1 d
  loops_from m 0 n

-- ---- arrays

-- the number of elements of an array, and of all arrays
unfoldable pub elements : List ℕ → ℕ
elements [] = 1
elements (n ∷ ns) = n * elements ns

unfoldable pub total : List (List ℕ) → ℕ
total [] = 0
total (a ∷ rest) = elements a + total rest

-- the extents of one array
unfoldable pub shape : Reader (List ℕ)
shape = do
  d ← count 1 most_dimensions
  times d (natural 1 most_extent)

-- one after arrays of t elements; 5 is overfull
unfoldable pub array : ℕ → Reader (List ℕ)
array t = do
  a ← shape
  must (leb (t + elements a) most_elements) 5
  done a

unfoldable pub arrays_from : ℕ → ℕ → Reader (List (List ℕ))
arrays_from t zero = done []
arrays_from t (suc n) = do
  a ← array t
  rest ← arrays_from (t + elements a) n
  done (a ∷ rest)

unfoldable pub arrays : Reader (List (List ℕ))
arrays = do
  n ← count 1 most_arrays
  arrays_from 0 n

-- ---- statements

-- the extents of an array
unfoldable pub extents : List (List ℕ) → ℕ → List ℕ
extents as' a = get_or as' a []

unfoldable pub subscript : ℕ → Reader Subscript
subscript depth = do
  c ← number
  cs ← times depth number
  done (record { constant = c; coefficients = cs })

unfoldable pub access : ℕ → List (List ℕ) → Reader Access
access depth as' = do
  a ← natural 1 (length as')
  ss ← times (length (extents as' (a - 1))) (subscript depth)
  done (record { array = a - 1; subscripts = ss })

-- under rule 3 the constant must be 0, and there must be a read
unfoldable pub statement : ℕ → List (List ℕ) → Reader Statement
statement depth as' = do
  r ← natural 0 3
  c ← natural 0 (cond (eqb r 3) 0 32767)
  w ← access depth as'
  n ← count (cond (eqb r 3) 1 0) most_reads
  rs ← times n (access depth as')
  done (record { rule = r; constant = c; writes = w ∷ []; reads = rs })

unfoldable pub statements : ℕ → List (List ℕ) → Reader (List Statement)
statements depth as' = do
  n ← count 1 most_statements
  times n (statement depth as')

-- ---- steps: step k, from 1, of a nest that has m loops when it is reached. 6, off the nest, has the step for its place

-- a word that must name a loop by the test
unfoldable pub loop_number : ℕ → (ℤ → Bool) → Reader ℕ
loop_number k ok = do
  a ← number
  must_at (ok a) 6 k
  done (nat_abs a)

unfoldable pub exchange_step : ℕ → ℕ → Reader Step
exchange_step k m = do
  a ← loop_number k (between (pos 1) (pos m))
  b ← loop_number k (λ w. between (pos 1) (pos m) w && eq_z w (pos (suc a)))
  c ← natural 0 0
  done (exchange (a - 1))

unfoldable pub reversal_step : ℕ → ℕ → Reader Step
reversal_step k m = do
  a ← loop_number k (between (pos 1) (pos m))
  b ← natural 0 0
  c ← natural 0 0
  done (reversal (a - 1))

-- the greatest factor of a skew, on either side of 0
abbrev pub most_factor : ℕ
most_factor = 1

unfoldable pub skew_step : ℕ → ℕ → Reader Step
skew_step k m = do
  a ← loop_number k (between (pos 1) (pos m))
  b ← loop_number k (λ w. between (pos 1) (pos m) w && lt_z (pos a) w)
  c ← within (neg_ℤ (pos most_factor)) (pos most_factor)
  must (not (eq_z c (pos 0))) 4
  done (skew (a - 1) (b - a - 1) c)

-- one loop more than a nest can have shows at the word a
unfoldable pub section_step : ℕ → ℕ → Reader Step
section_step k m = do
  a ← loop_number k (λ w. between (pos 1) (pos m) w && ltb m most_loops)
  w ← natural 2 256
  c ← natural 0 0
  done (section (a - 1) w)

-- the place b, where the loop is not yet
unfoldable pub circulation_step : ℕ → ℕ → Reader Step
circulation_step k m = do
  a ← loop_number k (between (pos 1) (pos m))
  b ← loop_number k (λ w. between (pos 1) (pos m) w && not (eq_z w (pos a)))
  c ← natural 0 0
  done (circulation (a - 1) (b - 1))

-- the kinds of steps, from 1
abbrev pub step_kinds : ℕ
step_kinds = 5

unfoldable pub step_of : ℕ → ℕ → ℕ → Reader Step
step_of kind k m =
    cond (eqb kind 1) (exchange_step k m)
    (cond (eqb kind 2) (reversal_step k m)
    (cond (eqb kind 3) (skew_step k m)
    (cond (eqb kind 4) (section_step k m) (circulation_step k m))))

-- the number of loops after a step
unfoldable pub depth_after : Step → ℕ → ℕ
depth_after (exchange a) m = m
depth_after (reversal a) m = m
depth_after (skew a d c) m = m
depth_after (section a w) m = suc m
depth_after (circulation a b) m = m

unfoldable pub steps_from : ℕ → ℕ → ℕ → Reader (List Step)
steps_from k m zero = done []
steps_from k m (suc n) = do
  kind ← natural 1 step_kinds
  t ← step_of kind k m
  rest ← steps_from (suc k) (depth_after t m) n
  done (t ∷ rest)

unfoldable pub steps : ℕ → Reader (List Step)
steps depth = do
  n ← count 0 8
  steps_from 1 depth n

-- ---- the ticket

-- at most d loops and m limits a side
unfoldable pub nest : ℕ → ℕ → Reader Nest
nest d m = do
  ls ← loops d m
  as' ← arrays
  ss ← statements (length ls) as'
  done (record { loops = ls; arrays = as'; statements = ss })

-- 2, overhang: no byte follows the last step
unfoldable pub end : Reader (Unit {0})
end b k = must_at (leb (length b) ((k - 1) * 2)) 2 k b k

unfoldable pub ticket : Reader Ticket
ticket = do
  n ← nest ticket_loops ticket_limits
  ts ← steps (length n.loops)
  end
  done (record { nest = n; steps = ts })

unfoldable pub decode : List ℕ → Answer Ticket
decode b = Answer.◌>>=◌ (ticket b 1) (λ r. accepted r.value)

-- a written nest: up to most_loops loops, most_limits limits a side and step count 0
unfoldable pub written : Reader Nest
written = do
  n ← nest most_loops most_limits
  ts ← count 0 0
  end
  done n

unfoldable pub decode_nest : List ℕ → Answer Nest
decode_nest b = Answer.◌>>=◌ (written b 1) (λ r. accepted r.value)
