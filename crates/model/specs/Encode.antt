-- The words of a ticket, section by section, each after its count; and of a nest, in the ticket's sections with step count 0.
use mathlib.Core.List.{List, [], ◌∷◌, ◌++◌, flat_map}
use Rattle.std.specs.Prelude.{ℕ, suc, ◌+◌, ℤ, pos, length}
use Rattle.model.specs.Ticket.{Limit, Loop, Subscript, Access, Statement, Step, exchange, reversal, skew, section, circulation, Nest, Ticket}
use Rattle.model.specs.Words.{bytes_of}

-- each after its count
unfoldable pub counted : {A : Type 0} → (A → List ℤ) → List A → List ℤ
counted f l = pos (length l) ∷ flat_map f l

unfoldable pub limit_words : Limit → List ℤ
limit_words l = pos l.multiplier ∷ l.constant ∷ l.coefficients

unfoldable pub loop_words : Loop → List ℤ
loop_words L = counted limit_words L.lower ++ counted limit_words L.upper

unfoldable pub array_words : List ℕ → List ℤ
array_words a = counted (λ n. pos n ∷ []) a

unfoldable pub access_words : Access → List ℤ
access_words a = pos (suc a.array) ∷ flat_map (λ (s : Subscript). s.constant ∷ s.coefficients) a.subscripts

unfoldable pub statement_words : Statement → List ℤ
statement_words s = pos s.rule ∷ pos s.constant ∷ (flat_map access_words s.writes ++ counted access_words s.reads)

-- the sections before the steps, then these words
abbrev pub sections_then : Nest → List ℤ → List ℤ
sections_then N rest = counted loop_words N.loops ++ (counted array_words N.arrays ++ (counted statement_words N.statements ++ rest))

-- ---- steps: kind, a, b, c

abbrev pub kind_of : Step → ℕ
kind_of (exchange a) = 1
kind_of (reversal a) = 2
kind_of (skew a d c) = 3
kind_of (section a w) = 4
kind_of (circulation a b) = 5

abbrev pub arguments : Step → List ℤ
arguments (exchange a) = pos (suc a) ∷ pos (suc (suc a)) ∷ pos 0 ∷ []
arguments (reversal a) = pos (suc a) ∷ pos 0 ∷ pos 0 ∷ []
arguments (skew a d c) = pos (suc a) ∷ pos (suc (suc (a + d))) ∷ c ∷ []
arguments (section a w) = pos (suc a) ∷ pos w ∷ pos 0 ∷ []
arguments (circulation a b) = pos (suc a) ∷ pos (suc b) ∷ pos 0 ∷ []

abbrev pub step_words : Step → List ℤ
step_words t = pos (kind_of t) ∷ arguments t

-- ---- a ticket, and a nest with step count 0

unfoldable pub ticket_words : Ticket → List ℤ
ticket_words T = sections_then T.nest (counted step_words T.steps)

unfoldable pub nest_words : Nest → List ℤ
nest_words N = sections_then N (pos 0 ∷ [])

unfoldable pub encode : Nest → List ℕ
encode N = bytes_of (nest_words N)
