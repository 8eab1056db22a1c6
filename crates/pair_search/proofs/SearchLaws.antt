-- What a search asks at each stage: the points listed, moved, numbered and linked; then the walk through them, and what it found.
use mathlib.Core.Path.{◌≡◌, refl, sym, ap, ◌∙◌, subst}
use mathlib.Core.Bool.{Bool, true, false}
use mathlib.Core.List.{List}
use Prim.Native.Nat.{ℕ, zero, suc, ◌*◌, ◌≤◌}
use native.Mathlib.Nat.{mul-le-mul}
use native.Mathlib.Omega.{arith}
use lib.Dec.{leb}
use lib.IntN.{ℤ}
use lib.ListN.{length, get_or, take, replicate, length-replicate}
use borrow.Author.Tests.{leb-true}
use Rattle.lists.specs.Membership.{All}
use Rattle.integers.specs.Affine.{Within}
use Rattle.model.specs.Answer.{accepted, ◌>>◌, ◌>>=◌}
use Rattle.model.specs.Points.{iterations}
use Rattle.model.specs.Bounds.{in_arrays, admitted}
use Rattle.model.specs.Grammar.{total, ticket_loops, most_loops, most_points, most_accesses, most_elements, most_numbers}
use Rattle.model.proofs.Points.WithinLaws.{space-within}
use Rattle.dependence_vectors.specs.Numbers.{marks_for}
use Rattle.dependence_search.specs.Flat.{Flat}
use Rattle.dependence_marks.specs.Lines.{LinesIn}
use Rattle.dependence_marks.specs.Uses.{written_in, UsesAre}
use Rattle.dependence_marks.specs.declared.Uses.{Uses}
use Rattle.dependence_marks.proofs.UseLaws.{sizes-flags}
use Rattle.dependence_marks.proofs.MarkLaws.{number_in, describes-sized, numbers-at}
use Rattle.ticket_steps.specs.Steps.{steps_of}
use Rattle.ticket_steps.specs.declared.Steps.{Steps}
use Rattle.nest_flat.specs.FlatNests.{FlatNest, nest_of, FlatNestIn, sizes_in}
use Rattle.nest_flat.proofs.FlatNestLaws.{sizes-count}
use Rattle.nest_points.specs.Nests.{ListIn, PointsAre}
use Rattle.nest_elements.specs.Nests.{NestNumberIn, NumbersAre}
use Rattle.nest_admission.proofs.AdmissionLaws as Admission
use Rattle.ticket_admission.specs.CountedTickets.{Laid}
use Rattle.ticket_admission.proofs.AdmitLaws.{points-counted}
use Rattle.step_points.specs.Points.{PointsIn}
use Rattle.step_points.proofs.TicketLaws.{points-move}
use Rattle.pair_partners.specs.Chains.{Numbered}
use Rattle.dependence_search.specs.Flat.{Describes}
use Rattle.pair_records.specs.Conflicts.{sized}
use Rattle.pair_records.specs.Walks.{Walkable, Walks}
use Rattle.pair_records.proofs.StatementLaws.{number-below}
use Rattle.pair_records.specs.declared.Walked.{Walked}
use Rattle.pair_search.specs.Searches.{SearchIn, Searched}
use Rattle.pair_search.specs.Rooms.{few_points, few_numbers, Few, RoomFor, Linked}
use Rattle.pair_search.proofs.RecordLaws.{Stands, searched}

-- ---- few points, as they are tested

pub few-fits : (P : FlatNest) (n : ℕ) → FlatNestIn P → n ≤ few_points → P.accesses * n ≤ most_accesses * few_points
few-fits P n h g = numbers-at P n few_points h g

pub few-is : (P : FlatNest) (n t : ℕ) → n ≤ few_points → P.accesses * n ≤ few_numbers → t ≡ total (nest_of P).arrays → leb t few_numbers ≡ true
    → Few P n
few-is P n t a b e h = let g = leb-true t few_numbers h in record { points = a; numbers = b; elements = omega arith }

-- ---- a ticket whose points were counted and which passes 9

pub admitted-inside : {P : FlatNest} {S : Steps} {n : ℕ} → Laid P S n → admitted (nest_of P) ≡ accepted tt
    → in_arrays (nest_of P).arrays (iterations (nest_of P).loops) 1 (nest_of P).statements ≡ accepted tt
unfolding admitted ◌>>◌ ◌>>=◌
admitted-inside {P} h e = sym (ap (◌>> in_arrays (nest_of P).arrays (iterations (nest_of P).loops) 1 (nest_of P).statements) h.space-accepted) ∙ e

module _ (P : FlatNest) (S : Steps) (n step from : ℕ) (found : List ℤ) (h : SearchIn P S n step from found) where
  abbrev flat-nest : FlatNestIn P
  flat-nest = h.laid.ticket.flat-nest

  pub few-points : n ≤ most_points
  few-points = Admission.few-points P n (points-counted P S n h.laid)

  -- ---- the points

  pub list-in : (room : ℕ) → n * P.depth ≤ room → ListIn P room
  list-in room f = Admission.list-in P room (record {
    flat-nest = flat-nest;
    space-accepted = h.laid.space-accepted;
    fits = subst (λ k. k * P.depth ≤ room) h.laid.count f;
  })

  module _ (points : List ℤ) where
    pub points-listed : {r : ℕ} → PointsAre P points r → PointsAre P points n
    points-listed {r} p = subst (PointsAre P points) (p.count ∙ sym h.laid.count) p

    module _ (p : PointsAre P points n) where
      pub move_in : (room : ℕ) → n * most_loops ≤ room → PointsIn points P.depth n S step room
      move_in room f = points-move h.laid.ticket step h.steps-there p room f

      -- ---- their elements, by the laws of the marks: of none
      abbrev unmarked : List Bool
      unmarked = replicate (marks_for P.statements) false

      lines : LinesIn P points n unmarked
      lines = record {
        violation = record { flat-nest = flat-nest; points-are = p };
        formed = h.laid.ticket.formed;
        inside = h.inside;
        clear = λ j. none (marks_for P.statements) j;
        room = let e = length-replicate {A = Bool} (marks_for P.statements) false in omega arith;
      }
        where
          none : (k j : ℕ) → get_or (replicate k false) j false ≡ false
          none zero j = refl
          none (suc k) zero = refl
          none (suc k) (suc j) = none k j

      pub numbers-in : (room : ℕ) → P.accesses * n ≤ room → NestNumberIn P points n room
      numbers-in room f = number_in P points n unmarked lines room f

      pub numbered : (numbers heads : List ℕ) → NumbersAre P points n numbers → total (nest_of P).arrays ≤ length heads
          → length heads ≤ most_elements → Numbered numbers n P.accesses (length heads)
      numbered numbers heads g t f = record {
        few-points = few-points;
        few-accesses = flat-nest.few-accesses;
        few-elements = f;
        room = g.room;
        below = λ k x a b. let s = g.small k x a b in omega arith;
      }

  -- ---- the walk

  -- which accesses write
  pub writes-sized : (u : Uses) → UsesAre P u → take P.accesses u.writes ≡ written_in (sizes_in P)
  writes-sized u g = g.writes ∙ sym (sizes-flags P flat-nest)

  module _ (points : List ℤ) (numbers : List ℕ) (writes : List Bool) (named written : List ℕ) (moved : List ℤ) (depth : ℕ)
      (k : Linked P S n step points numbers writes named written moved depth) where
    abbrev F : Flat
    F = sized points P.depth n numbers (sizes_in P) (length (sizes_in P))

    as_many : length (sizes_in P) ≡ P.statements
    as_many = sizes-count P flat-nest

    near : All (Within 32767) (iterations (nest_of P).loops)
    near = space-within (nest_of P).loops h.laid.ticket.formed.runs h.laid.space-accepted

    pub walkable : Walkable F (sizes_in P) P.accesses depth moved writes named written
    walkable = let s = k.points-are.stored in let e = flat-nest.all-accesses in let t = k.numbers-are.room in record {
      ready = record {
        accesses = record {
          few-points = few-points;
          few-accesses = let f = flat-nest.few-accesses in omega arith;
          few-statements = let f = flat-nest.few-statements in let e = as_many in omega arith;
          statements = refl;
          each = flat-nest.each;
          table = omega (arith, ap (◌* n) e);
        };
        points = record {
          few-points = few-points;
          shallow = h.laid.ticket.shallow;
          stored = s.room;
          near = subst (All (Within 32767)) (sym k.points-are.are) near;
        };
      };
      all-accesses = e;
      moved = record { shallow = k.moved-are.depth-after.shallow; few = few-points; stored = k.moved-are.room };
      writes_are = k.writes_are;
      links-are = k.links-are;
    }

    stands : Stands (take step (steps_of S)) (nest_of P) F depth moved
    stands = record {
      describes = subst (λ b. Describes (nest_of P).statements (sized points P.depth n numbers (sizes_in P) b)) (sym as_many) (describes-sized P points n (unmarked points k.points-are) (lines points k.points-are) (length numbers)
          k.numbers-are.room
          numbers k.numbers-are);
      in-body = λ a l. number-below (sizes_in P) a l;
      points = k.points-are.are;
      moved = k.moved-are.are;
    }

    pub searched-is : {skip : ℕ} {w : Walked} {found' : List ℤ} → Walks F depth moved from skip w found'
        → Searched (take step (steps_of S)) (nest_of P) from skip w found'
    searched-is w = searched (take step (steps_of S)) (nest_of P) F depth moved stands w

  -- ---- rooms

  pub room-few : Few P n → RoomFor P n few_points (ticket_loops * few_points) (most_loops * few_points) few_numbers few_numbers
  room-few f = let a = f.points in record {
    points-fit = f.points;
    indices-fit = mul-le-mul {n₁ = n} {m₁ = P.depth} {n₂ = few_points} {m₂ = ticket_loops} f.points h.laid.ticket.shallow;
    moved-fit = omega arith;
    numbers-fit = f.numbers;
    elements-fit = f.elements;
    most-points = omega arith;
    most-indices = omega arith;
    most-moved = omega arith;
    most-numbers = omega arith;
    most-elements = omega arith;
  }

  pub room-many : RoomFor P n most_points (ticket_loops * most_points) (most_loops * most_points) most_numbers most_elements
  unfolding nest_of
  room-many = let f = few-points in let t = flat-nest.fits in record {
    points-fit = f;
    indices-fit = mul-le-mul {n₁ = n} {m₁ = P.depth} {n₂ = most_points} {m₂ = ticket_loops} f h.laid.ticket.shallow;
    moved-fit = omega arith;
    numbers-fit = numbers-at P n most_points flat-nest f;
    elements-fit = omega arith;
    most-points = omega arith;
    most-indices = omega arith;
    most-moved = omega arith;
    most-numbers = omega arith;
    most-elements = omega arith;
  }
