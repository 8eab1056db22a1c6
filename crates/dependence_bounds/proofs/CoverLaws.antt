-- Where every pair of accesses is covered, every line of the nest's listing is marked (`covered-marked`): the two accesses of a dependence have
-- numbers, its two iterations are in the loops' ranges, and its vector is one that is covered.
use mathlib.Core.Path.{◌≡◌, sym, ap, ap₂, ◌∙◌, subst}
use mathlib.Core.Bool.{Bool, true, false}
use mathlib.Core.Logic.{◌⊎◌, inl, inr, ⊎_elim}
use mathlib.Core.List.{List, map}
use Prim.Native.Nat.{ℕ, ◌+◌, ◌*◌, ◌<◌}
use native.Mathlib.Omega.{arith}
use native.Mathlib.Nat.{zero-add, add-zero}
use lib.Dec.{T, ltb, lt→ltb}
use lib.IntN.{ℤ}
use lib.ListN.{length, get_or, get_or-map}
use Rattle.integers.specs.Sign.{Sign}
use Rattle.lists.specs.Membership.{Mem}
use Rattle.lists.proofs.MembershipLaws.{mem-get_d}
use Rattle.lists.proofs.TestLaws.{true-T, T_true}
use Rattle.model.specs.Answer.{accepted}
use Rattle.model.specs.Ticket.{Access}
use Rattle.model.specs.Bounds.{subscript_at, admitted}
use Rattle.model.specs.Points.{iterations}
use Rattle.model.specs.Machine.{Element, element, body_at}
use Rattle.model.specs.Shape.{WellFormed}
use Rattle.model.specs.Quick.{Range, InRanges}
use Rattle.model.specs.Directions.{signs, earlier, Line, kind_count, vector_count}
use Rattle.model.specs.Listing.{lines_of}
use Rattle.model.specs.Promises.{Fitting, Dependence}
use Rattle.model.proofs.Points.PointLaws.{iterations-inside}
use Rattle.model.proofs.Points.WithinLaws.{space-within}
use Rattle.model.proofs.Quick.QuickRangeLaws.{in-ranges}
use Rattle.model.proofs.Listing.ListingLaws.{lines_of-exact}
use Rattle.model.proofs.Verdict.VerdictLaws.{admitted-accepted}
use Rattle.nest_flat.specs.Layout.{forms_from, access_at}
use Rattle.nest_loop_ranges.specs.declared.Range as Code
use Rattle.nest_loop_ranges.specs.Ranges.{ranges_of}
use Rattle.dependence_vectors.specs.Numbers.{number, kind_number, place_of, place}
use Rattle.dependence_search.specs.Flat.{kind_of, Use, uses, no_use, use_at}
use Rattle.dependence_search.proofs.UseLaws.{side, of-uses}
use Rattle.dependence_search.proofs.KindLaws.{source_writes, sink_writes, kind-is, kind-small, source-side, sink-side}
use Rattle.dependence_listing_text.specs.Text.{marked}
use Rattle.nest_flat.specs.FlatNests.{FlatNest, extents_in, accessed_in, words_in, nest_of, FlatNestIn}
use Rattle.nest_flat.proofs.FlatNestLaws.{access-is, accessed-count}
use Rattle.dependence_marks.proofs.MarkLaws.{use-access, use-count}
use Rattle.dependence_bounds.specs.Covered.{kind_at}
use Rattle.dependence_bounds.specs.KnownLines.{pairs_of, FlatNestCovered, RangesOn}

-- an access of a statement, by its number
pub record Numbered (P : FlatNest) (i : ℕ) (w : Bool) (x : Access) : Type 0 where
  pub at : ℕ
  pub there : at < P.accesses
  pub statement : get_or (map (λ (u : Use). u.statement) (uses (nest_of P).statements)) at 0 ≡ i
  pub writes : get_or (map (λ (u : Use). u.writes) (uses (nest_of P).statements)) at false ≡ w
  pub is : access_at (words_in P) (accessed_in P) (extents_in P) P.depth at ≡ x

module _ (P : FlatNest) (h : FlatNestIn P) where
  numbered : (i : ℕ) (w : Bool) (x : Access) → i < length (nest_of P).statements → Mem x (side w (body_at (nest_of P).statements i)) → Numbered P i w x
  unfolding use_at
  numbered i w x l m =
      let us = uses (nest_of P).statements in
      let r = mem-get_d no_use (of-uses 0 (nest_of P).statements i w l m) in
      let c = use-count P h in
      let q = r.1 in
      let k : r.0 < P.accesses = omega arith in
      record {
        at = r.0;
        there = k;
        statement = get_or-map (λ (u : Use). u.statement) us r.0 no_use ∙ ap (λ (u : Use). u.statement) r.2 ∙ zero-add i;
        writes = get_or-map (λ (u : Use). u.writes) us r.0 no_use ∙ ap (λ (u : Use). u.writes) r.2;
        is = sym (access-is P h r.0 k) ∙ sym (use-access P h r.0) ∙ ap (λ (u : Use). u.access) r.2;
      }

  module _ (f : WellFormed (nest_of P)) (adm : admitted (nest_of P) ≡ accepted tt) (rs : List Code.Range) (on : RangesOn P rs) where
    point-ranged : (p : List ℤ) → Mem p (iterations (nest_of P).loops) → InRanges (ranges_of P.depth rs) p
    point-ranged p m = subst (λ (l : List Range). InRanges l p) (sym on.are)
        (in-ranges (nest_of P).loops p f.runs ((iterations-inside (nest_of P).loops f.runs p).0 m)
        (space-within (nest_of P).loops f.runs (admitted-accepted (nest_of P) adm).0 p m))

    module _ (m : List Bool) (cov : FlatNestCovered P rs m) (l : Line) (fit : Fitting (length (nest_of P).statements) (length (nest_of P).loops) l)
        (q : Dependence (nest_of P) l) where
      source : Numbered P l.source (source_writes l.kind) q.from
      source = numbered l.source (source_writes l.kind) q.from fit.source
          (subst (Mem q.from) (source-side l.kind (body_at (nest_of P).statements l.source)) q.from-there)

      sink : Numbered P l.sink (sink_writes l.kind) q.to
      sink = numbered l.sink (sink_writes l.kind) q.to fit.sink (subst (Mem q.to)
          (sink-side l.kind (body_at (nest_of P).statements l.sink)) q.to-there)

      abbrev a : ℕ
      a = source.at

      abbrev b : ℕ
      b = sink.at

      one-element : element q.early (access_at (words_in P) (accessed_in P) (extents_in P) P.depth a) ≡ element q.late
          (access_at (words_in P) (accessed_in P) (extents_in P) P.depth b)
      one-element = ap (element q.early) source.is ∙ q.meet ∙ sym (ap (element q.late) sink.is)

      one-array : get_or (accessed_in P) a 0 ≡ get_or (accessed_in P) b 0
      unfolding element access_at
      one-array = ap (λ (e : Element). e.array) one-element

      dims : ℕ
      dims = get_or (extents_in P) (get_or (accessed_in P) a 0 * 4) 0

      one_place : map (subscript_at q.early) (forms_from (words_in P) P.depth (a * 3) (get_or (extents_in P) (get_or (accessed_in P) a 0 * 4) 0))
          ≡ map (subscript_at q.late) (forms_from (words_in P) P.depth (b * 3) (get_or (extents_in P) (get_or (accessed_in P) a 0 * 4) 0))
      unfolding element access_at
      one_place = ap (λ (e : Element). e.subscripts) one-element
          ∙ ap (λ (o : ℕ). map (subscript_at q.late) (forms_from (words_in P) P.depth (b * 3) (get_or (extents_in P) (o * 4) 0))) (sym one-array)

      kind-here : kind_at (pairs_of P rs) a b ≡ kind_number l.kind
      kind-here = ap₂ kind_of source.writes sink.writes ∙ kind-is l.kind

      in_order : (earlier q.early q.late ≡ true) ⊎ ((ltb (get_or (pairs_of P rs).statements a 0) (get_or (pairs_of P rs).statements b 0) ≡ true)
          × (q.early ≡ q.late))
      in_order = ⊎_elim (λ e. inl (T_true (earlier q.early q.late) e))
          (λ e. inr (
            ap₂ ltb source.statement sink.statement
                ∙ T_true (ltb l.source l.sink) (lt→ltb l.source l.sink e.1),
            e.0,
          )) q.order

      covered-here : get_or m (place_of P.statements (get_or (pairs_of P rs).statements a 0) (get_or (pairs_of P rs).statements b 0)
          (kind_at (pairs_of P rs) a b) 0 + number (signs q.early q.late)) false ≡ true
      covered-here =
          let k = kind-small l.kind in
          let e = kind-here in
          let c = accessed-count P h in
          let v = sink.there in
          cov a source.there b (omega arith) (omega arith) one-array q.early q.late (point-ranged q.early q.early-there)
          (point-ranged q.late q.late-there) in_order one_place

      place_here : place_of P.statements (get_or (pairs_of P rs).statements a 0) (get_or (pairs_of P rs).statements b 0) (kind_at (pairs_of P rs) a b) 0
          + number (signs q.early q.late) ≡ place P.statements l
      unfolding place
      place_here =
          ap₂ (λ (x y : ℕ). ((x * P.statements + y) * kind_count + kind_at (pairs_of P rs) a b) * vector_count + 0 + number
          (signs q.early q.late)) source.statement sink.statement
          ∙ ap₂ (λ (x : ℕ) (v : List Sign). ((l.source * P.statements + l.sink) * kind_count + x) * vector_count + 0 + number v)
          kind-here q.vector
          ∙ ap (◌+ number l.vector) (add-zero (((l.source * P.statements + l.sink) * kind_count + kind_number l.kind) * vector_count))

      marked-here : T (marked m P.statements l)
      unfolding marked
      marked-here = true-T (get_or m (place P.statements l) false) (ap (λ (i : ℕ). get_or m i false) (sym place_here) ∙ covered-here)

    pub covered-marked : (m : List Bool) → FlatNestCovered P rs m → (l : Line) → Mem l (lines_of (nest_of P)) → T (marked m P.statements l)
    covered-marked m cov l i = let r = (lines_of-exact (nest_of P) l).0 i in marked-here m cov l r.0 r.1
