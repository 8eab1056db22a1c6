-- What a walk asks can be met: i 0..1, A(0) written once in each iteration, and the loop reversed. The two iterations trade places.
use mathlib.Core.Path.{◌≡◌, refl}
use mathlib.Core.Bool.{Bool, true, false}
use mathlib.Core.List.{List, [], ◌∷◌, flat_map}
use Prim.Native.Nat.{ℕ, zero, suc, ◌+◌, ◌≤◌, ◌<◌}
use native.Mathlib.Omega.{arith}
use lib.IntN.{ℤ, pos}
use Rattle.integers.specs.Affine.{Within}
use Rattle.integers.specs.Sign.{sign}
use Rattle.lists.specs.Parts.{rows}
use Rattle.lists.specs.Tests.{select}
use Rattle.lists.proofs.MembershipLaws.{all_nil, all_cons}
use Rattle.model.specs.Directions.{earlier, kinds, up_from}
use Rattle.model.specs.Listing.{letter}
use Rattle.model.specs.Pairs.{indices_in}
use Rattle.model.specs.Store.{sum}
use Rattle.dependence_pair_search.specs.Search.{some}
use Rattle.dependence_vectors.specs.Candidates.{row}
use Rattle.dependence_search.specs.Flat.{Flat}
use Rattle.dependence_marks.specs.Uses.{first_written, written_in, statement_numbers}
use Rattle.pair_partners.specs.Chains.{names, LinkedAt}
use Rattle.pair_partners.specs.Partners.{conflicting, row_before, between, is_partner, partners}
use Rattle.pair_records.specs.Conflicts.{block_count, block_of, meets, clashes, record_words, records_between, AccessesIn, PointsIn, sized, Ready}
use Rattle.pair_records.specs.Statements.{StatementAt, SpanIn}
use Rattle.pair_records.specs.Walks.{records_from, records_of, Walkable}

abbrev ids : List ℕ
ids = 0 ∷ 0 ∷ []

-- of one statement, of one access
abbrev pub sizes : List ℕ
sizes = 1 ∷ []

abbrev pub nest : Flat
nest = sized (pos 0 ∷ pos 1 ∷ []) 1 2 ids sizes 1

-- the indices after the reversal
abbrev pub moved : List ℤ
moved = pos 1 ∷ pos 0 ∷ []

-- from each point the next one
abbrev pub links : List ℕ
links = 1 ∷ 2 ∷ []

pub accesses-in : AccessesIn 2 ids sizes 1
unfolding sum
accesses-in = record {
  few-points = omega arith;
  few-accesses = omega arith;
  few-statements = omega arith;
  statements = refl;
  each = all_cons (λ k. 1 ≤ k) (omega arith) (all_nil (λ k. 1 ≤ k));
  table = omega arith;
}

pub statement-at-first : StatementAt sizes 0 0 1
unfolding sum
statement-at-first = record { there = omega arith; first = refl; past = refl }

pub span-in : SpanIn 2 ids (0 + 1) 1
span-in = record { rising = omega arith; few-points = omega arith; few-accesses = omega arith; table = omega arith }

pub points-in : PointsIn (pos 0 ∷ pos 1 ∷ []) 1 2
unfolding rows
points-in = record {
  few-points = omega arith;
  shallow = omega arith;
  stored = omega arith;
  near = all_cons (Within 32767) (omega arith, tt) (all_cons (Within 32767) (omega arith, tt) (all_nil (Within 32767)));
}

pub ready : Ready nest sizes
ready = record { accesses = accesses-in; points = points-in }

linked-at : (all : Bool) (y : ℕ) → y < 2 → LinkedAt ids nest.writes 2 1 all links y
unfolding names some written_in first_written
linked-at all zero h zero g = record {
  after = omega arith;
  inside = omega arith;
  passed = λ y a b. absurd (omega arith);
  there = λ _. counted all;
}
  where
    counted : (all : Bool) → names ids nest.writes 2 1 all 0 1 ≡ true
    counted true = refl
    counted false = refl
linked-at all zero h (suc k) g = absurd (omega arith)
linked-at all (suc zero) h zero g = record {
  after = omega arith;
  inside = omega arith;
  passed = λ y a b. absurd (omega arith);
  there = λ a. absurd (omega arith);
}
linked-at all (suc zero) h (suc k) g = absurd (omega arith)
linked-at all (suc (suc y)) h k g = absurd (omega arith)

pub walkable : Walkable nest sizes 1 1 moved nest.writes links links
unfolding sum written_in first_written
walkable = record {
  ready = ready;
  all-accesses = refl;
  moved = record { shallow = omega arith; few = omega arith; stored = omega arith };
  writes_are = refl;
  links-are = record {
    few-points = omega arith;
    few-accesses = omega arith;
    numbers = omega arith;
    writes = omega arith;
    named-room = omega arith;
    written-room = omega arith;
    to_named = λ y _ h. linked-at true y h;
    to-written = λ y _ h. linked-at false y h;
  };
}

-- both iterations, statement 1 with itself, an output dependence
pub records-are : records_of nest 1 moved 0 2
    ≡ (pos 0 ∷ pos 0 ∷ pos 0 ∷ pos 0 ∷ pos 1 ∷ pos 0 ∷ pos 0 ∷ pos 0 ∷ pos 1 ∷ pos 1 ∷ pos 79 ∷ []) ∷ []
unfolding records_of records_from records_between record_words clashes meets block_of block_count partners is_partner between conflicting row_before names
    some
    earlier sign kinds up_from letter indices_in row select flat_map statement_numbers written_in first_written
records-are = refl
