-- The lines of a nest are bounded from both sides: those of a part of it are among them, and they are among those that are covered. Where the marks
-- of the part's lines cover every pair of accesses, they are the marks of all lines (`bounded`). Last, what the code asks and gives on the way.
use mathlib.Core.Path.{◌≡◌, sym, ap₂, ◌∙◌, subst}
use mathlib.Core.Bool.{Bool, true, false}
use mathlib.Core.List.{List}
use Prim.Native.Nat.{ℕ}
use native.Mathlib.Omega.{arith}
use lib.Dec.{T}
use lib.IntN.{ℤ}
use lib.ListN.{length, get_or}
use Rattle.lists.specs.Membership.{Mem}
use Rattle.lists.specs.Tests.{select}
use Rattle.lists.proofs.TestLaws.{T-same, select-mem, mem-select, select-same-on}
use Rattle.model.specs.Answer.{accepted}
use Rattle.model.specs.Bounds.{admitted}
use Rattle.model.specs.Points.{iterations}
use Rattle.model.specs.Machine.{accesses}
use Rattle.model.specs.Shape.{WellFormed}
use Rattle.model.specs.Directions.{Line, occurs, all_lines, lines}
use Rattle.model.specs.Listing.{lines_of}
use Rattle.nest_flat.specs.Flat.{NestOk}
use Rattle.nest_loop_ranges.specs.declared.Range.{Range}
use Rattle.nest_loop_ranges.specs.Ranges.{RangesIn}
use Rattle.nest_loop_ranges.specs.Values.{RangesAre}
use Rattle.dependence_listing_text.specs.Text.{marked, shown}
use Rattle.dependence_subspace.specs.Subspaces.{Narrower}
use Rattle.nest_flat.specs.declared.Header.{Header}
use Rattle.nest_flat.specs.FlatNests.{FlatNest, flat_nest, nest_of, FlatNestIn}
use Rattle.nest_points.proofs.NestLaws.{depth_is}
use Rattle.dependence_marks.specs.Lines.{Markable, LinesAre}
use Rattle.dependence_marks.proofs.MarkLaws.{statement-count}
use Rattle.dependence_bounds.specs.KnownLines.{limited, Recounted, FlatNestCovered, RangesOn, CoverIn, BoundIn}
use Rattle.dependence_bounds.proofs.PartLaws.{part-flat-nest, part-formed, part-inside, part-lines}
use Rattle.dependence_bounds.proofs.CoverLaws.{covered-marked}

module _ (P : FlatNest) (t : List ℤ) (d : List ℕ) (h : FlatNestIn P) (g : Narrower P.limits P.counts P.depth t d)
    (f : WellFormed (nest_of P)) (adm : admitted (nest_of P) ≡ accepted tt)
    (rs : List Range) (on : RangesOn P rs) (m : List Bool) (seen : LinesAre (limited P t d) m) (cov : FlatNestCovered P rs m) where
  lines-in : lines_of (nest_of P) ≡ select (occurs (accesses (nest_of P).statements) (iterations (nest_of P).loops))
      (all_lines P.statements P.depth)
  unfolding lines_of lines
  lines-in = ap₂ (λ (i j : ℕ). select (occurs (accesses (nest_of P).statements) (iterations (nest_of P).loops)) (all_lines i j))
      (statement-count P h) (depth_is P)

  marked-occurs : (l : Line) → Mem l (all_lines P.statements P.depth) → T (marked m P.statements l)
      → T (occurs (accesses (nest_of P).statements) (iterations (nest_of P).loops) l)
  unfolding shown
  marked-occurs l i q =
      let a : Mem l (lines_of (nest_of (limited P t d))) = subst (Mem l) seen.lines
      (mem-select (marked m P.statements) (all_lines P.statements P.depth) i q) in
      let b : Mem l (lines_of (nest_of P)) = part-lines P t d h g l a in
      (select-mem (occurs (accesses (nest_of P).statements) (iterations (nest_of P).loops)) (all_lines P.statements P.depth)
      (subst (Mem l) lines-in b)).1

  occurs-marked : (l : Line) → Mem l (all_lines P.statements P.depth)
      → T (occurs (accesses (nest_of P).statements) (iterations (nest_of P).loops) l) → T (marked m P.statements l)
  occurs-marked l i q = covered-marked P h f adm rs on m cov l
      (subst (Mem l) (sym lines-in) (mem-select (occurs (accesses (nest_of P).statements) (iterations (nest_of P).loops))
      (all_lines P.statements P.depth) i q))

  pub bounded : LinesAre P m
  unfolding shown
  bounded = record {
    lines =
        select-same-on (marked m P.statements) (occurs (accesses (nest_of P).statements) (iterations (nest_of P).loops))
        (all_lines P.statements P.depth)
        (λ l i. T-same (marked m P.statements l) (occurs (accesses (nest_of P).statements) (iterations (nest_of P).loops) l) (marked-occurs l i)
        (occurs-marked l i))
        ∙ sym lines-in;
    marks-in = seen.marks-in;
  }

-- ---- as the code goes: the limits copied, the part cut, its few points marked, the pairs looked at

module _ (O : Header) (s w : List ℤ) (m : List Bool) (p : BoundIn (flat_nest O s w) m) (rs : List Range)
    (found : RangesAre s O.counts O.depth rs) (f : List ℤ) (copied : f ≡ s) where
  abbrev P : FlatNest
  P = flat_nest O s w

  pub cut_in : NestOk f O.counts O.depth × RangesIn O.depth rs
  cut_in = (subst (λ (l : List ℤ). NestOk l O.counts O.depth) (sym copied) p.part.flat-nest.nest, found.held)

  ranges-on : RangesOn P rs
  unfolding nest_of
  ranges-on = record { are = found.are; held = found.held }

  module _ (t : List ℤ) (d : List ℕ) (cut : Narrower f O.counts O.depth t d) (Q : Header) (recounted : Recounted O d Q) where
    narrower : Narrower s O.counts O.depth t d
    narrower = subst (λ (l : List ℤ). Narrower l O.counts O.depth t d) copied cut

    pub part_in : Markable (flat_nest Q t w) m
    part_in = subst (λ (C : FlatNest). Markable C m) (sym (recounted s t w)) (record {
      flat-nest = part-flat-nest P t d p.part.flat-nest narrower;
      formed = part-formed P t d p.part.flat-nest narrower p.part.formed;
      inside = part-inside P t d p.part.flat-nest narrower p.part.inside;
      clear = p.part.clear;
      room = p.part.room;
    })

    module _ (n : List Bool) (b : Bool) (few : (b ≡ true → LinesAre (flat_nest Q t w) n) × (length n ≡ length m)) where
      pub cover-in : CoverIn P rs n
      cover-in = let q = few.1 in let r = p.part.room in record { flat-nest = p.part.flat-nest; ranges = found.held; room = omega arith }

      pub lines-known : b ≡ true → (a : Bool) → (a ≡ true → FlatNestCovered P rs n) → a ≡ true → LinesAre P n
      lines-known e a g z = bounded P t d p.part.flat-nest narrower p.part.formed p.admitted-is rs ranges-on n
          (subst (λ (C : FlatNest). LinesAre C n) (recounted s t w) (few.0 e)) (g z)

-- the marks cleared for another part
pub bound-again : (P : FlatNest) (m n : List Bool) → BoundIn P m → ((j : ℕ) → get_or n j false ≡ false) → length n ≡ length m → BoundIn P n
bound-again P m n p f e = let r = p.part.room in record {
  part = record { flat-nest = p.part.flat-nest; formed = p.part.formed; inside = p.part.inside; clear = f; room = omega arith };
  admitted-is = p.admitted-is;
}
