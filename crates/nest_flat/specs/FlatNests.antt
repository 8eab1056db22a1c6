-- The nest that a flat nest stands for. Its slices are laid out as Flat and Layout say; a statement has a size (the number of its accesses, the
-- written one first), a rule and a constant.
use Rattle.std.specs.Prelude.{◌≡◌, List, [], ◌∷◌, ℕ, suc, ◌+◌, ◌*◌, ◌-◌, ◌≤◌, ℤ, length, take, get_or}
use Rattle.lists.specs.Membership.{All}
use Rattle.model.specs.Ticket.{Access, Statement, Nest}
use Rattle.model.specs.Grammar.{total, most_accesses, access_room, most_words, most_statements, most_arrays, array_room, most_extents, most_elements}
use Rattle.model.specs.Store.{sum}
use Rattle.model.specs.Entries.{all_accesses}
use Rattle.nest_flat.specs.Flat.{loops_from, NestOk}
use Rattle.nest_flat.specs.Layout.{arrays_of, access_at, accesses_from, AccessesOk}
use Rattle.nest_flat.specs.declared.Header.{Header}
use Rattle.nest_flat.specs.declared.FlatNest as Lent

-- a header with the two large slices that are lent beside it
pub record FlatNest : Type 0 where
  pub depth : ℕ
  pub limits : List ℤ
  pub counts : List ℕ
  pub arrays : ℕ
  pub extents : List ℕ
  pub statements : ℕ
  pub sizes : List ℕ
  pub rules : List ℕ
  pub constants : List ℕ
  pub accesses : ℕ
  pub accessed : List ℕ
  pub words : List ℤ

abbrev pub flat_nest : Header → List ℤ → List ℤ → FlatNest
flat_nest O s w = record {
  depth = O.depth;
  limits = s;
  counts = O.counts;
  arrays = O.arrays;
  extents = O.extents;
  statements = O.statements;
  sizes = O.sizes;
  rules = O.rules;
  constants = O.constants;
  accesses = O.accesses;
  accessed = O.accessed;
  words = w;
}

-- that of a header and slices that stand together
abbrev pub flat : Lent.FlatNest → FlatNest
flat P = flat_nest P.header.now P.limits.now P.words.now

-- P with these loops and subscripts
abbrev pub moved : FlatNest → ℕ → List ℤ → List ℕ → List ℤ → FlatNest
moved P d l c w = record {
  depth = d;
  limits = l;
  counts = c;
  arrays = P.arrays;
  extents = P.extents;
  statements = P.statements;
  sizes = P.sizes;
  rules = P.rules;
  constants = P.constants;
  accesses = P.accesses;
  accessed = P.accessed;
  words = w;
}

-- ---- the parts of its arrays that are in use

abbrev pub extents_in : FlatNest → List ℕ
extents_in P = take (P.arrays * array_room) P.extents

abbrev pub sizes_in : FlatNest → List ℕ
sizes_in P = take P.statements P.sizes

abbrev pub accessed_in : FlatNest → List ℕ
accessed_in P = take P.accesses P.accessed

abbrev pub words_in : FlatNest → List ℤ
words_in P = take (P.accesses * access_room) P.words

-- ---- the nest

-- the statements of these sizes, from access k and statement i on
unfoldable pub statements_from : FlatNest → ℕ → ℕ → List ℕ → List Statement
statements_from P k i [] = []
statements_from P k i (m ∷ ms) =
    record {
      rule = get_or P.rules i 0;
      constant = get_or P.constants i 0;
      writes = access_at (words_in P) (accessed_in P) (extents_in P) P.depth k ∷ [];
      reads = accesses_from (words_in P) (accessed_in P) (extents_in P) P.depth (suc k) (m - 1);
    }
    ∷ statements_from P (k + m) (suc i) ms

unfoldable pub nest_of : FlatNest → Nest
nest_of P = record {
  loops = loops_from P.limits P.counts 0 P.depth;
  arrays = arrays_of (extents_in P);
  statements = statements_from P 0 0 (sizes_in P);
}

-- what every flat nest of a nest has that was judged, before or after its steps
pub record FlatNestIn (P : FlatNest) : Type 0 where
  pub nest : NestOk P.limits P.counts P.depth
  pub some : 1 ≤ P.depth
  pub accesses-ok : AccessesOk (words_in P) (accessed_in P) (extents_in P) P.depth
  pub fits : total (arrays_of (extents_in P)) ≤ most_elements
  pub all-accesses : sum (sizes_in P) ≡ P.accesses
  pub each : All (λ m. 1 ≤ m) (sizes_in P)
  pub few-arrays : P.arrays ≤ most_arrays
  pub few-statements : P.statements ≤ most_statements
  pub few-accesses : P.accesses ≤ most_accesses
  pub extents-length : length P.extents ≡ most_extents
  pub sizes-length : length P.sizes ≡ most_statements
  pub accessed-length : length P.accessed ≡ most_accesses
  pub words-length : length P.words ≡ most_words
  pub rules-length : length P.rules ≡ most_statements
  pub constants-length : length P.constants ≡ most_statements

-- ---- its accesses

abbrev pub no_access : Access
no_access = record { array = 0; subscripts = [] }

-- access k of all, from 0
abbrev pub access_of : Nest → ℕ → Access
access_of N k = get_or (all_accesses N) k no_access
