-- A subscript that is enclosed by the ranges stays within its extent at every point in them; so does every access at every iteration, and
-- there is no refusal 9: a nest without refusals 7 and 8 is admitted.
use mathlib.Core.Path.{◌≡◌, sym, ◌∙◌, ap, subst}
use mathlib.Core.Bool.{Bool, true}
use mathlib.Core.Logic.{inl, inr}
use mathlib.Core.List.{List, map}
use Prim.Native.Nat.{ℕ, ◌+◌, ◌*◌, ◌<◌}
use native.Mathlib.Omega.{arith}
use lib.IntN.{ℤ}
use lib.ListN.{length, get_or}
use Rattle.integers.specs.Affine.{dot, affine}
use Rattle.integers.proofs.RingLaws.{zarith}
use Rattle.integers.proofs.DifferenceLaws.{add-fact}
use Rattle.lists.specs.Membership.{Mem}
use Rattle.lists.proofs.MembershipLaws.{mem-get_d}
use Rattle.lists.proofs.FlatMapLaws.{mem-flat_map}
use Rattle.model.specs.Answer.{accepted, ◌>>◌, ◌>>=◌}
use Rattle.model.specs.Ticket.{Subscript, Access, Statement}
use Rattle.model.specs.Grammar.{extents}
use Rattle.model.specs.Points.{iterations}
use Rattle.model.specs.Bounds.{subscript_at, space, accesses_of, in_arrays, admitted}
use Rattle.model.specs.Quick as Model
use Rattle.model.specs.Quick.{least_sum, greatest_sum, InRanges}
use Rattle.model.specs.Entries.{all_accesses}
use Rattle.model.specs.Reasons.{Off, OffAt, Violates}
use Rattle.model.proofs.Points.PointLaws.{iterations-inside}
use Rattle.model.proofs.Points.WithinLaws.{space-within}
use Rattle.model.proofs.Points.ArrayLaws.{accepted-arrays}
use Rattle.model.proofs.Quick.QuickRangeLaws.{least-sum, greatest-sum, in-ranges}
use Rattle.nest_flat.specs.Layout.{arrays_of, access_at, AccessesOk}
use Rattle.nest_elements.proofs.LayoutLaws.{array-in, extents-are, extents-length, extent-read}
use Rattle.nest_elements.proofs.PlaceLaws.{forms-get_d}
use Rattle.nest_loop_ranges.specs.declared.Range.{Range}
use Rattle.nest_loop_ranges.specs.Ranges.{ranges_of}
use Rattle.nest_loop_ranges.specs.Values.{RangesAre}
use Rattle.nest_flat.specs.FlatNests.{FlatNest, extents_in, accessed_in, words_in, nest_of, FlatNestIn, no_access}
use Rattle.nest_flat.proofs.FlatNestLaws.{access-is, access-count, loops-run, accessed-count}
use Rattle.nest_bounding_box.specs.Subscripts.{Enclosed, AllEnclosed}
use Rattle.nest_bounding_box.specs.Promises.{StaysInside}

-- ---- at a point in the ranges

module _ (rs : List Model.Range) (y : List ℤ) (inn : InRanges rs y) where
  never-off : (extent : ℕ) (s : Subscript) → Enclosed rs extent s → Off extent (subscript_at y s) → ⊥
  unfolding subscript_at affine
  never-off extent s h (inl g) = let l = least-sum s.coefficients rs y inn in let a = h.low in
      omega (zarith, add-fact s.constant (dot s.coefficients y), add-fact s.constant (least_sum s.coefficients rs))
  never-off extent s h (inr g) = let l = greatest-sum s.coefficients rs y inn in let a = h.high in
      omega (zarith, add-fact s.constant (dot s.coefficients y), add-fact s.constant (greatest_sum s.coefficients rs))

  access-stays : (w : List ℤ) (o a : List ℕ) (n k : ℕ) → AccessesOk w o a n → AllEnclosed rs w o a n (length o) → k < length o
      → OffAt (extents (arrays_of a) (access_at w o a n k).array) (map (subscript_at y) (access_at w o a n k).subscripts) → ⊥
  unfolding access_at
  access-stays w o a n k ok h l off =
      let i = get_or o k 0 in let d = off.dimension in
      let q = array-in w o a n i ok (ok.there k l) in
      let e = off.extent in
      let g : d < get_or a (i * 4) 0 = rw (extents-are a i q, extents-length a i q) at e in
      never-off (get_or a (i * 4 + 1 + d) 0) _ (h k l d g) (rw (
        extents-are a i q,
        extent-read a i q d g,
        forms-get_d (subscript_at y) w n (k * 3)
            (get_or a (i * 4) 0) d g,
      ) at off.off)

-- ---- on a flat nest

module _ (P : FlatNest) (s : FlatNestIn P) (b : List Range) (q : RangesAre P.limits P.counts P.depth b)
    (h : AllEnclosed (ranges_of P.depth b) (words_in P) (accessed_in P) (extents_in P) P.depth (length (accessed_in P)))
    (e : space (nest_of P).loops ≡ accepted tt) where
  point-in : (y : List ℤ) → Mem y (iterations (nest_of P).loops) → InRanges (ranges_of P.depth b) y
  unfolding nest_of
  point-in y m = let r = loops-run P s in rw q.are (in-ranges (nest_of P).loops y r ((iterations-inside (nest_of P).loops r y).0 m)
      (space-within (nest_of P).loops r e y m))

  statement-stays : (t : Statement) → Mem t (nest_of P).statements → Violates (nest_of P).arrays (iterations (nest_of P).loops) t → ⊥
  unfolding nest_of all_accesses
  statement-stays t m x =
      let g = mem-get_d no_access (mem-flat_map accesses_of (nest_of P).statements m x.of) in
      let c = access-count P s in let l = accessed-count P s in let i = g.1 in
      let u : x.access ≡ access_at (words_in P) (accessed_in P) (extents_in P) P.depth g.0 = sym g.2 ∙ access-is P s g.0 (omega arith) in
      access-stays (ranges_of P.depth b) x.point (point-in x.point x.reached) (words_in P) (accessed_in P) (extents_in P) P.depth g.0
      s.accesses-ok h (omega arith)
      (subst (λ (v : Access). OffAt (extents (nest_of P).arrays v.array) (map (subscript_at x.point) v.subscripts)) u x.off)

  pub arrays-enclosed : in_arrays (nest_of P).arrays (iterations (nest_of P).loops) 1 (nest_of P).statements ≡ accepted tt
  arrays-enclosed = accepted-arrays (nest_of P).arrays (iterations (nest_of P).loops) 1 (nest_of P).statements statement-stays

-- ---- for those who ask

pub stays-admitted : (P : FlatNest) (r : Bool) → StaysInside P r → r ≡ true → space (nest_of P).loops ≡ accepted tt
    → admitted (nest_of P) ≡ accepted tt
unfolding admitted ◌>>◌ ◌>>=◌
stays-admitted P r h e s = ap (◌>> in_arrays (nest_of P).arrays (iterations (nest_of P).loops) 1 (nest_of P).statements) s ∙ h e s
