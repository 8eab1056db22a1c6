-- The nest that slices stand for. Loops are laid out as `nest_flat` (specs/Flat) says, arrays and accesses as specs/Layout
-- does; a statement has a size (the number of its accesses, the written one first), a rule and a constant.
use Rattle.std.specs.Prelude.{◌≡◌, List, [], ◌∷◌, ℕ, suc, ◌+◌, ◌-◌, ◌≤◌, ℤ, length, get_or}
use Rattle.lists.specs.Membership.{All}
use Rattle.model.specs.Ticket.{Statement, Nest}
use Rattle.model.specs.Store.{sum}
use Rattle.model.specs.Grammar.{most_statements}
use Rattle.nest_flat.specs.Flat.{loops_from, NestOk}
use Rattle.nest_flat.specs.Layout.{arrays_of, access_at, accesses_from, AccessesOk}
use Rattle.ticket_lengths.specs.Lengths.{ArraysIn}

-- the statement of m accesses from access k on
unfoldable pub statement_at : List ℤ → List ℕ → List ℕ → ℕ → ℕ → ℕ → ℕ → ℕ → Statement
statement_at w o a n k m r e = record {
  rule = r;
  constant = e;
  writes = access_at w o a n k ∷ [];
  reads = accesses_from w o a n (suc k) (m - 1);
}

-- the statements of these sizes, from access k and statement i on
unfoldable pub statements_at : List ℤ → List ℕ → List ℕ → ℕ → List ℕ → List ℕ → ℕ → ℕ → List ℕ → List Statement
statements_at w o a n rs es k i [] = []
statements_at w o a n rs es k i (m ∷ ms) = statement_at w o a n k m (get_or rs i 0) (get_or es i 0) ∷ statements_at w o a n rs es (k + m) (suc i) ms

-- the arrays on v are written, and the extents on a say how the accesses stand
unfoldable pub nest_at : List ℤ → List ℕ → ℕ → List ℕ → List ℕ → List ℕ → List ℕ → List ℕ → List ℕ → List ℤ → Nest
nest_at s c n v a ms rs es o w = record {
  loops = loops_from s c 0 n;
  arrays = arrays_of v;
  statements = statements_at w o a n rs es 0 0 ms;
}

pub record SlicesIn (s : List ℤ) (c : List ℕ) (n : ℕ) (v a ms rs es o : List ℕ) (w : List ℤ) : Type 0 where
  pub nest : NestOk s c n
  pub written : ArraysIn v
  pub accesses : AccessesOk w o a n
  pub all-accesses : sum ms ≡ length o
  pub each : All (λ m. 1 ≤ m) ms
  pub few-statements : length ms ≤ most_statements
  pub rules : length ms ≤ length rs
  pub constants : length ms ≤ length es
