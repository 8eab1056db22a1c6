-- Refusal 9 as it was found, and what is known once it is passed: the lines by the points, or without them; then the directions.
use mathlib.Core.Path.{◌≡◌, sym, ◌∙◌, ap, subst}
use mathlib.Core.Bool.{Bool, false}
use mathlib.Core.List.{List}
use Prim.Native.Nat.{ℕ, ◌≤◌}
use native.Mathlib.Omega.{arith}
use lib.IntN.{ℤ}
use lib.ListN.{length, get_or, replicate, length-replicate}
use Rattle.std.specs.Prelude.{Result, Ok, Err}
use Rattle.model.specs.Answer.{accepted}
use Rattle.model.specs.Bounds.{admitted}
use Rattle.model.proofs.Verdict.VerdictLaws.{admitted-accepted}
use Rattle.model.specs.Directions.{vector_count}
use Rattle.dependence_vectors.specs.Numbers.{marks_for}
use Rattle.ticket_refusals.specs.declared.Refusal.{Refusal}
use Rattle.nest_flat.specs.FlatNests.{FlatNest, nest_of}
use Rattle.nest_points.specs.Nests.{PointsAre}
use Rattle.dependence_marks.specs.Lines.{Markable, LinesIn, LinesAre, Shows}
use Rattle.dependence_marks.proofs.ClearLaws.{clear-marks}
use Rattle.dependence_marks.proofs.MarkLaws.{lines-in}
use Rattle.dependence_marks.proofs.DirectionLaws.{directions-are}
use Rattle.nest_admission.specs.Admission.{passed, Admits, SpaceAccepted, PointsCounted, Enumerates}
use Rattle.dependence_bounds.specs.KnownLines.{Room, MarkIn, Marked}
use Rattle.dependence_directions.specs.SearchResults.{FindIn, Finds, Directs}

module _ (P : FlatNest) where
  -- ---- refusal 9

  module _ (s : Result (Unit {0}) Refusal) (g : Admits P s) where
    pub finds-refused : (r : Refusal) → s ≡ Err r → (m : List Bool) → Finds P (Err r) m
    finds-refused r e m = record { admits = subst (Admits P) e g; lines = λ f. absurd (cc) }

    pub finds-fine : s ≡ Ok tt → (m : List Bool) → LinesAre P m → Finds P (Ok tt) m
    finds-fine e m l = record { admits = subst (Admits P) e g; lines = λ _. l }

    passes : s ≡ Ok tt → admitted (nest_of P) ≡ accepted tt
    passes e = sym g ∙ ap passed e

    -- ---- lines by the points

    pub markable : s ≡ Ok tt → SpaceAccepted P → (m : List Bool) → ((j : ℕ) → get_or m j false ≡ false) → Room P m → Markable P m
    markable e h m c r = record {
      flat-nest = h.flat-nest;
      formed = h.formed;
      inside = (admitted-accepted (nest_of P) (passes e)).1;
      clear = c;
      room = r;
    }

  module _ (n : ℕ) (m : List Bool) (h : FindIn P n m) where
    pub enumerated-lines : (o e : List ℤ) (s : Result (Unit {0}) Refusal) → Enumerates P o e s → s ≡ Ok tt → LinesIn P e n m
    enumerated-lines o e s g f = lines-in P m (markable s g.same f h.points-counted.nest m h.clear h.room) e n
        (subst (PointsAre P e) (sym h.points-counted.count) g.points)

    -- ---- lines without them

    pub mark-in : MarkIn P m
    mark-in = record { nest = h.points-counted.nest; clear = h.clear; room = h.room }

  pub finds-known : (m : List Bool) → Marked P m → Finds P (Ok tt) m
  finds-known m k = record { admits = sym k.admitted-is; lines = λ _. k.lines }

  -- ---- directions

  module _ (s : Result (Unit {0}) Refusal) (m : List Bool) (g : Finds P s m) where
    pub directs-refused : (r : Refusal) → s ≡ Err r → (set : List Bool) → length set ≡ vector_count → Directs P (Err r) set
    directs-refused r e set l = record { room = l; admits = subst (Admits P) e g.admits; directions = λ f. absurd (cc) }

    pub directs-fine : s ≡ Ok tt → (set : List Bool) → Shows m P.statements P.depth set → Directs P (Ok tt) set
    directs-fine e set w = record { room = w.room; admits = subst (Admits P) e g.admits; directions = λ _. directions-are P m set (g.lines e) w }

  -- room for all marks
  pub find-in : (n : ℕ) → PointsCounted P n → (m : ℕ) → marks_for P.statements ≤ m → FindIn P n (replicate m false)
  find-in n h m l = record {
    points-counted = h;
    clear = clear-marks m;
    room = let q = length-replicate {A = Bool} m false in omega arith;
  }
