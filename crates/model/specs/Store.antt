-- The store: one list of unsigned 32-bit words, arrays following one another, last subscript fastest; and the ticket's own rules on it.
use Rattle.std.specs.Prelude.{cond, List, [], ◌∷◌, map, ℕ, zero, suc, ◌+◌, ◌*◌, ◌%◌, ◌^◌, eqb, ltb, ℤ, pos, nat_abs, ◌+ℤ◌, ◌-ℤ◌, ◌*ℤ◌, get_or, set}
use Rattle.integers.specs.Division.{floor_div}
use Rattle.model.specs.Ticket.{Statement, Nest}
use Rattle.model.specs.Points.{largest}
use Rattle.model.specs.Grammar.{elements, extents}
use Rattle.model.specs.Machine.{Element, Instance, Rules, accesses, body_at, order, run}

-- where an array begins
unfoldable pub base : List (List ℕ) → ℕ → ℕ
base [] a = 0
base (ns ∷ rest) zero = 0
base (ns ∷ rest) (suc a) = elements ns + base rest a

-- the place of subscripts in an array, o the place of the first ones
unfoldable pub place_from : ℕ → List ℕ → List ℤ → ℕ
place_from o [] xs = o
place_from o (n ∷ ns) [] = o
place_from o (n ∷ ns) (x ∷ xs) = place_from (o * n + nat_abs x) ns xs

unfoldable pub place_of : List (List ℕ) → Element → ℕ
place_of as' e = base as' e.array + place_from 0 (extents as' e.array) e.subscripts

-- ---- rules

unfoldable pub sum : List ℕ → ℕ
sum [] = 0
sum (v ∷ vs) = v + sum vs

unfoldable pub most : ℕ → List ℕ → ℕ
most m [] = m
most m (v ∷ vs) = most (cond (ltb m v) v m) vs

unfoldable pub first_of : List ℕ → ℕ
first_of [] = 0
first_of (v ∷ vs) = v

-- rule 1: the sum modulo 2^32 of reads and constant; rule 2: the largest of reads and constant; rule 3: the first read
unfoldable pub make : ℕ → ℕ → List ℕ → ℕ
make r c vs = cond (eqb r 1) ((c + sum vs) % 2 ^ 32) (cond (eqb r 2) (most c vs) (cond (eqb r 3) (first_of vs) 0))

-- ---- the same of whole numbers, as the plain machine is fed them

unfoldable pub sum_whole : List ℤ → ℤ
sum_whole [] = pos 0
sum_whole (v ∷ vs) = v +ℤ sum_whole vs

unfoldable pub first_whole : List ℤ → ℤ
first_whole [] = pos 0
first_whole (v ∷ vs) = v

-- the remainder modulo 2^32, from 0 on
unfoldable pub wrapped : ℤ → ℤ
wrapped z = z -ℤ pos 4294967296 *ℤ floor_div z (pos 4294967296)

unfoldable pub make_whole : ℕ → ℕ → List ℤ → ℤ
make_whole r c vs = cond (eqb r 1) (wrapped (pos c +ℤ sum_whole vs)) (cond (eqb r 2) (largest (pos c ∷ vs)) (cond (eqb r 3) (first_whole vs) (pos 0)))

-- ---- runs

unfoldable pub store_words : List (List ℕ) → ℕ → List Element → List ℕ → List ℕ
store_words as' v [] w = w
store_words as' v (e ∷ es) w = store_words as' v es (set w (place_of as' e) v)

-- one instance on the words: fetch, make, store
unfoldable pub perform_on : List (List ℕ) → List Statement → Instance → List ℕ → List ℕ
perform_on as' ss i w =
    store_words as'
    (make (body_at ss i.statement).rule (body_at ss i.statement).constant (map (λ e. get_or w (place_of as' e) 0) ((accesses ss).reads i)))
    ((accesses ss).writes i)
    w

-- the nest in its order
unfoldable pub run_nest : Nest → List ℕ → List ℕ
run_nest N w = run (perform_on N.arrays N.statements) (order N) w

-- the ticket's own rules, as the plain machine is fed them
unfoldable pub own_rules : List Statement → Rules
own_rules ss = λ s k vs it. make_whole (body_at ss s).rule (body_at ss s).constant vs
