-- Of each access its statement, counted from 0, and whether it is the one that is written: by the sizes of the statements alone.
use Rattle.std.specs.Prelude.{◌≡◌, Bool, true, false, List, [], ◌∷◌, ◌++◌, map, ℕ, zero, suc, ◌+◌, ◌≤◌, length, take, replicate}
use Rattle.model.specs.Grammar.{most_accesses}
use Rattle.dependence_search.specs.Flat.{Use, uses}
use Rattle.nest_flat.specs.FlatNests.{FlatNest, nest_of}
use Rattle.dependence_marks.specs.declared.Uses.{Uses}

-- one statement's accesses: the first is written
unfoldable pub first_written : ℕ → List Bool
first_written zero = []
first_written (suc m) = true ∷ replicate m false

-- all accesses of statements of these sizes
unfoldable pub written_in : List ℕ → List Bool
written_in [] = []
written_in (m ∷ ms) = first_written m ++ written_in ms

-- the first statement has number k
unfoldable pub statement_numbers : ℕ → List ℕ → List ℕ
statement_numbers k [] = []
statement_numbers k (m ∷ ms) = replicate m k ++ statement_numbers (suc k) ms

pub record EnterIn (o : List ℕ) (w : List Bool) (first size : ℕ) : Type 0 where
  pub statements : first + size ≤ length o
  pub writes : first + size ≤ length w

-- the entries of the accesses in use are those of the model's statements
pub record UsesAre (P : FlatNest) (r : Uses) : Type 0 where
  pub statements : take P.accesses r.statements ≡ map (λ (u : Use). u.statement) (uses (nest_of P).statements)
  pub writes : take P.accesses r.writes ≡ map (λ (u : Use). u.writes) (uses (nest_of P).statements)
  pub statements-length : length r.statements ≡ most_accesses
  pub writes-length : length r.writes ≡ most_accesses
