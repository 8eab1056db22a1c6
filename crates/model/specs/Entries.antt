-- The five entries: from what is lent to the answer and the final contents of everything lent. First of what was decoded, then of a ticket's bytes.
use Rattle.std.specs.Prelude.{not, cond, ℕ, suc, ◌-◌, eqb, leb, length, drop, get_or}
use mathlib.Core.List.{List, [], ◌∷◌, ◌++◌, flat_map}
use Rattle.model.specs.Answer.{Answer, accepted, refused, require, ◌>>=◌, ◌>>◌}
use Rattle.model.specs.Ticket.{Access, Statement, Nest, Ticket}
use Rattle.model.specs.Grammar.{total, decode}
use Rattle.model.specs.Points.{iterations}
use Rattle.model.specs.Bounds.{accesses_of}
use Rattle.model.specs.Judge.{admit_of, judged_of, Judged}
use Rattle.model.specs.Encode.{encode}
use Rattle.model.specs.Listing.{listing}
use Rattle.model.specs.Quick.{Independence, quick_test}
use Rattle.model.specs.Store.{run_nest}

-- the answer, and what the lent memory holds in the end
pub record Outcome : Type 0 where
  pub answer : Answer ℕ
  pub memory : List ℕ

-- judge: the count of iterations
unfoldable pub judge_of : Answer Ticket → Answer ℕ
judge_of d = judged_of d >>= (λ j. accepted (length (iterations j.ticket.nest.loops)))

-- text into a buffer: 14, short buffer, where it can't take it; bytes beyond those written keep their values
unfoldable pub hand_out : Answer (List ℕ) → List ℕ → Outcome
hand_out (refused n p) buffer = record { answer = refused n p; memory = buffer }
hand_out (accepted text) buffer =
    cond (leb (length text) (length buffer))
    (record { answer = accepted (length text); memory = text ++ drop (length text) buffer })
    (record { answer = refused 14 0; memory = buffer })

-- write: the new nest's bytes
unfoldable pub write_of : Answer Ticket → List ℕ → Outcome
write_of d buffer = hand_out (judged_of d >>= (λ j. accepted (encode j.new))) buffer

-- list: judges 1 to 9 only
unfoldable pub list_of : Answer Ticket → List ℕ → Outcome
list_of d buffer = hand_out (admit_of d >>= (λ T. accepted (listing T.nest))) buffer

-- accesses are numbered from 1 in ticket order
unfoldable pub all_accesses : Nest → List Access
all_accesses N = flat_map accesses_of N.statements

unfoldable pub access_number : List Access → ℕ → Answer Access
access_number l n =
    require (leb 1 n) 4 0
    >> require (leb n (length l)) 4 0
    >> accepted (get_or l (n - 1) (record { array = 0; subscripts = [] }))

-- quick: judges 1 to 9, then its access numbers
unfoldable pub quick_of : Answer Ticket → ℕ → ℕ → Answer Independence
quick_of d a b =
    admit_of d
    >>= (λ T. access_number (all_accesses T.nest) a
    >>= (λ u. access_number (all_accesses T.nest) b
    >>= (λ v. accepted (quick_test T.nest.loops u v))))

-- 15, opaque, at the first statement with rule 0, from number k on
unfoldable pub transparent : ℕ → List Statement → Answer (Unit {0})
transparent k [] = accepted tt
transparent k (s ∷ ss) = require (not (eqb s.rule 0)) 15 k >> transparent (suc k) ss

-- 15 before 16, wrong store
unfoldable pub runnable : Answer Ticket → List ℕ → Answer Judged
runnable d words =
    judged_of d
    >>= (λ j. transparent 1 j.ticket.nest.statements >> require (eqb (length words) (total j.ticket.nest.arrays)) 16 0 >> accepted j)

unfoldable pub run_outcome : Answer Judged → List ℕ → Outcome
run_outcome (refused n p) words = record { answer = refused n p; memory = words }
run_outcome (accepted j) words = record { answer = accepted (length (iterations j.ticket.nest.loops)); memory = run_nest j.new words }

-- run: the nest runs in its new order
unfoldable pub run_of : Answer Ticket → List ℕ → Outcome
run_of d words = run_outcome (runnable d words) words

-- ---- of a ticket's bytes

abbrev pub judge : List ℕ → Answer ℕ
judge bytes = judge_of (decode bytes)

abbrev pub write : List ℕ → List ℕ → Outcome
write bytes buffer = write_of (decode bytes) buffer

abbrev pub list : List ℕ → List ℕ → Outcome
list bytes buffer = list_of (decode bytes) buffer

abbrev pub quick : List ℕ → ℕ → ℕ → Answer Independence
quick bytes a b = quick_of (decode bytes) a b

abbrev pub run_entry : List ℕ → List ℕ → Outcome
run_entry bytes words = run_of (decode bytes) words
