-- The starred worked cases, 1 to 8, as one table: a ticket, and what an entry must answer. Tickets, words and texts are quoted as document 01 has
-- them; `proofs/CaseLaws` computes the table.
use Rattle.std.specs.Prelude.{◌≡◌, cond, List, [], ◌∷◌, ◌++◌, ℕ, ◌+◌, ◌*◌, ◌-◌, eqb, ℤ, pos, neg_ℤ, replicate, length}
use Prim.Native.Char.{code}
use Prim.Native.String.{String, [] as none, ◌∷◌ as ◌then◌}
use Rattle.model.specs.Answer.{Answer, accepted, refused, ◌>>=◌}
use Rattle.model.specs.Words.{bytes_of}
use Rattle.model.specs.Points.{iterations}
use Rattle.model.specs.Judge.{judged}
use Rattle.model.specs.Quick.{Independence}
use Rattle.model.specs.Entries.{Outcome, judge, list, write, quick, run_entry}
use Rattle.model.specs.Pairs.{Record, Reason, reason}

-- ---- quoted text

-- its characters, as bytes
abbrev pub text : String → List ℕ
text none = []
text (c then s) = code c ∷ text s

-- decimal numbers parted by one space; 32 is the space, 45 the minus, 48 the digit 0
abbrev numbers_from : (ℤ → ℤ) → ℕ → List ℕ → List ℤ
numbers_from minus n [] = minus (pos n) ∷ []
numbers_from minus n (c ∷ cs) =
    let rest = numbers_from (cond (eqb c 32) (λ z. z) (cond (eqb c 45) neg_ℤ minus)) (cond (eqb c 32) 0 (cond (eqb c 45) n (n * 10 + (c - 48)))) cs in
    cond (eqb c 32) (minus (pos n) ∷ rest) rest

abbrev pub words : String → List ℤ
words s = numbers_from (λ z. z) 0 (text s)

-- the bytes of a ticket's words
abbrev pub ticket : String → List ℕ
ticket s = bytes_of (words s)

-- ---- questions

pub data Question : Type 0 where
  -- what judge answers
  judges : Answer ℕ → Question
  -- the text that list writes, whole, into a buffer of just that size
  lists : List ℕ → Question
  -- the words that write writes, whole, into a buffer of just that size
  writes : List ℤ → Question
  -- the iterations of the new nest
  visits : List (List ℤ) → Question
  -- what the quick test of two accesses answers
  tests : ℕ → ℕ → Answer Independence → Question
  -- what run answers for a store, and how it leaves the store
  runs : List ℕ → Answer ℕ → List ℕ → Question
  -- what the reason tool answers for a lent list, and how it leaves the list
  explains : List Record → Reason → List Record → Question

pub record Case : Type 0 where
  pub bytes : List ℕ
  pub question : Question

-- the bytes fill a buffer of their size
unfoldable pub filled : List ℕ → Outcome
filled bytes = record { answer = accepted (length bytes); memory = bytes }

abbrev pub Answered : List ℕ → Question → Type 0
Answered b (judges a) = judge b ≡ a
Answered b (lists t) = list b (replicate (length t) 0) ≡ filled t
Answered b (writes ws) = write b (replicate (length (bytes_of ws)) 0) ≡ filled (bytes_of ws)
Answered b (visits ps) = (judged b >>= (λ j. accepted (iterations j.new.loops))) ≡ accepted ps
Answered b (tests m n a) = quick b m n ≡ a
Answered b (runs store a left) = run_entry b store ≡ record { answer = a; memory = left }
Answered b (explains lent a left) = reason b lent ≡ record { answer = a; list = left }

abbrev pub Holds : Case → Type 0
Holds c = Answered c.bytes c.question

abbrev pub AllHold : List Case → Type 0
AllHold [] = Unit {0}
AllHold (c ∷ cs) = Holds c × AllHold cs

-- ---- the table

-- i 0..2, j 1..3, A(i,j) = A(i,j−1); the steps follow
abbrev pub nest2 : List ℕ
nest2 = ticket "2 1 1 0 1 1 2 1 1 1 0 1 1 3 0 1 2 3 4 1 3 0 1 0 1 0 0 0 1 1 1 0 1 0 -1 0 1"

-- i 1..2, j 0..2, A(i,j) = A(i−1,j+1)
abbrev pub nest3 : List ℕ
nest3 = ticket "2 1 1 1 1 1 2 1 1 0 0 1 1 2 0 1 2 3 4 1 3 0 1 0 1 0 0 0 1 1 1 -1 1 0 1 0 1"

abbrev pub case1 : List ℕ
case1 = ticket "2 1 1 0 1 1 1 1 1 0 0 1 1 2 0 2 1 4 2 2 3 1 3 0 1 0 1 1 1 2 0 1 0 0 0 1 1 1 1 2 0"

abbrev case6 : List ℕ
case6 = ticket "2 1 1 0 1 1 3 1 1 0 2 1 1 0 2 1 2 4 7 1 1 1 1 0 1 0 0 0 1 0 1 1 1 2 0"

abbrev case7 : List ℕ
case7 = ticket "1 1 1 0 1 1 6 1 1 7 1 1 1 1 0 1 0 1 4 1 4 0"

unfoldable pub cases : List Case
cases =
    -- 1. i 0..1, j 0..2, A(i+j) = B(i,j), exchange
    record { bytes = case1; question = lists (text "2 6 1\nO 1 1 <>\n") }
    ∷ record { bytes = case1; question = judges (refused 10 1) }
    -- 2. only =<; exchange, reverse 2, reverse 1
    ∷ record { bytes = nest2 ++ ticket "0"; question = lists (text "2 9 1\nF 1 1 =<\n") }
    ∷ record { bytes = nest2 ++ ticket "1 1 1 2 0"; question = judges (accepted 9) }
    ∷ record { bytes = nest2 ++ ticket "1 2 2 0 0"; question = judges (refused 10 1) }
    ∷ record { bytes = nest2 ++ ticket "1 2 1 0 0"; question = judges (accepted 9) }
    -- 3. only <>; reverse 2 then exchange; skew by 1 then exchange
    ∷ record { bytes = nest3 ++ ticket "0"; question = lists (text "2 6 1\nF 1 1 <>\n") }
    ∷ record { bytes = nest3 ++ ticket "2 2 2 0 0 1 1 2 0"; question = judges (accepted 6) }
    ∷ record { bytes = nest3 ++ ticket "2 3 1 2 1 1 1 2 0"; question = judges (refused 10 2) }
    -- 4. i 0..6, A(i) = A(6−i)
    ∷ record { bytes = ticket "1 1 1 0 1 1 6 1 1 7 1 3 0 1 0 1 1 1 6 -1 0"; question = lists (text "1 7 2\nF 1 1 <\nA 1 1 <\n") }
    -- 5. i 0..2, j i..2, exchange: j 0..2; i ≥ 0, i ≤ 2, i ≤ j
    ∷ record {
      bytes = ticket "2 1 1 0 1 1 2 1 1 0 1 1 1 2 0 1 2 3 3 1 1 1 1 0 1 0 0 0 1 0 1 1 1 2 0";
      question = writes (words "2 1 1 0 1 1 2 1 1 0 0 2 1 2 0 1 0 1 1 2 3 3 1 1 1 1 0 0 1 0 1 0 0 0");
    }
    -- 6. i 0..3, j 2i..2i, exchange: j 0..6; i ≥ 0, 2i ≥ j, i ≤ 3, 2i ≤ j; 4 iterations
    ∷ record { bytes = case6; question = writes (words "2 1 1 0 1 1 6 2 1 0 0 2 0 1 2 1 3 0 2 0 1 1 2 4 7 1 1 1 1 0 0 1 0 1 0 0 0") }
    ∷ record { bytes = case6; question = judges (accepted 4) }
    -- 7. i 0..6, section 4: S 0..1; 4 and 3 iterations
    ∷ record { bytes = case7; question = writes (words "2 1 4 -3 1 4 6 2 1 0 0 1 0 -4 2 1 3 0 1 6 -4 1 1 7 1 1 1 1 0 4 1 0 0") }
    ∷ record {
      bytes = case7;
      question = visits (words "0 0" ∷ words "0 1" ∷ words "0 2" ∷ words "0 3" ∷ words "1 0" ∷ words "1 1" ∷ words "1 2" ∷ []);
    }
    -- 8. i 0..−1
    ∷ record { bytes = ticket "1 1 1 0 1 1 -1 1 1 1 1 1 1 1 0 1 0 0"; question = judges (accepted 0) }
    ∷ []
