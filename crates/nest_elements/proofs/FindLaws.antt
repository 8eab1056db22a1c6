-- What the search for refusal 9 needs where it stands: in dimension d of access k; at statement s, whose first access is `first`, at its access i.
use mathlib.Core.Path.{◌≡◌, refl, sym, ◌∙◌, ap, subst}
use mathlib.Core.Bool.{Bool, true, false, ◌||◌}
use mathlib.Core.List.{List, ◌∷◌}
use Prim.Native.Nat.{ℕ, suc, ◌+◌, ◌*◌, ◌/◌, ◌≤◌, ◌<◌}
use native.Mathlib.Omega.{arith}
use native.Mathlib.Numerals.{add-one}
use lib.IntN.{ℤ}
use lib.ListN.{length, get_or, drop}
use lib.Seq.{drop-length}
use Rattle.lists.specs.Parts.{rows}
use Rattle.model.specs.Store.{sum}
use Rattle.model.specs.Grammar.{most_statements, most_accesses, most_extents}
use Rattle.nest_flat.specs.Layout.{extents_at, arrays_of, accesses_from, bodies_from, ArrayIn, AccessesOk}
use Rattle.nest_points.specs.Stored.{RowsIn}
use Rattle.std.specs.Prelude.{Option, Some, None}
use Rattle.nest_elements.specs.Search.{violates_at, ViolationIn, answer_of}
use Rattle.nest_elements.proofs.LayoutLaws.{array-in, array-ends, extents-length, extent-read, bodies-drop, sum_drop}
use Rattle.nest_elements.proofs.ViolationLaws.{grows, dimensions_violation, no-dimension, one-dimension, access_violates, all-dimensions}
use Rattle.nest_elements.proofs.ViolationLaws.{accesses_violation, one-access, in_bodies, body-clear, body-violates, no_body}

-- ---- the dimensions of one access

-- access k of all, and stored points
pub record AccessIn (w : List ℤ) (o a : List ℕ) (k : ℕ) (points : List ℤ) (depth count : ℕ) : Type 0 where
  pub accesses : AccessesOk w o a depth
  pub there : k < length o
  pub stored : RowsIn points depth count

-- its first d dimensions
abbrev pub violates_to : List ℤ → List ℕ → List ℕ → ℕ → List (List ℤ) → ℕ → ℕ → Bool
violates_to w o a n ps k d = dimensions_violation w (extents_at a (get_or o k 0)) n ps (k * 3) d

-- where its numbers stand, and how many there are
pub record Bounds (o a : List ℕ) (k : ℕ) : Type 0 where
  pub there : k < length o
  pub ends : get_or o k 0 * 4 + 4 ≤ length a
  pub flat : get_or a (get_or o k 0 * 4) 0 ≤ 3
  pub few : length a ≤ most_extents
  pub many : length o ≤ most_accesses

module _ {w : List ℤ} {o a : List ℕ} {k : ℕ} {points : List ℤ} {depth count : ℕ} (p : AccessIn w o a k points depth count) where
  its-array : get_or o k 0 < length a / 4
  its-array = p.accesses.there k p.there

  array : ArrayIn a (get_or o k 0)
  array = array-in w o a depth (get_or o k 0) p.accesses its-array

  pub bounds : Bounds o a k
  bounds = record {
    there = p.there;
    ends = array-ends a (get_or o k 0) array;
    flat = p.accesses.dimensions (get_or o k 0) its-array;
    few = p.accesses.few;
    many = p.accesses.many;
  }

  pub none_yet : violates_to w o a depth (rows depth count points) k 0 ≡ false
  none_yet = no-dimension w (extents_at a (get_or o k 0)) depth (rows depth count points) (k * 3)

  all-of-it : violates_to w o a depth (rows depth count points) k (get_or a (get_or o k 0 * 4) 0) ≡ access_violates w o a depth (rows depth count points) k
  all-of-it = all-dimensions w o a depth (rows depth count points) p.accesses k p.there

  pub kept : (d : ℕ) → d ≤ get_or a (get_or o k 0 * 4) 0 → get_or a (get_or o k 0 * 4) 0 ≤ d
      → violates_to w o a depth (rows depth count points) k d ≡ false → false ≡ access_violates w o a depth (rows depth count points) k
  kept d m l e = let q : d ≡ get_or a (get_or o k 0 * 4) 0 = omega arith in
      sym e ∙ ap (violates_to w o a depth (rows depth count points) k) q ∙ all-of-it

  one_more : (d : ℕ) → d < get_or a (get_or o k 0 * 4) 0 → violates_to w o a depth (rows depth count points) k (suc d)
      ≡ violates_to w o a depth (rows depth count points) k d || violates_at w depth (k * 3 + d) (get_or a (get_or o k 0 * 4 + 1 + d) 0)
      (rows depth count points)
  one_more d m = one-dimension w (extents_at a (get_or o k 0)) depth (rows depth count points) (k * 3) d
      (let e = extents-length a (get_or o k 0) array in omega arith)
      ∙ ap (λ (x : ℕ). violates_to w o a depth (rows depth count points) k d || violates_at w depth (k * 3 + d) x (rows depth count points))
      (extent-read a (get_or o k 0) array d m)

  module _ {d : ℕ} (m : d < get_or a (get_or o k 0 * 4) 0) where
    pub violation-in : ViolationIn w (k * 3 + d) (get_or a (get_or o k 0 * 4 + 1 + d) 0) points depth count
    violation-in = let b = bounds in let v = p.accesses.words in record {
      inside = omega arith;
      small = p.accesses.small;
      extents = p.accesses.extents (get_or o k 0 * 4 + 1 + d);
      stored = p.stored;
    }

    module _ {r : Bool} (q : r ≡ violates_at w depth (k * 3 + d) (get_or a (get_or o k 0 * 4 + 1 + d) 0) (rows depth count points))
        (e : violates_to w o a depth (rows depth count points) k d ≡ false) where
      pub next-dimension : r ≡ false → violates_to w o a depth (rows depth count points) k (d + 1) ≡ false
      next-dimension t = rw (add-one d) (one_more d m ∙ rw (e, ← q, t))

      pub leaves : r ≡ true → true ≡ access_violates w o a depth (rows depth count points) k
      leaves t = sym (sym all-of-it ∙ grows (violates_to w o a depth (rows depth count points) k)
          (λ j. violates_at w depth (k * 3 + j) (get_or a (get_or o k 0 * 4 + 1 + j) 0) (rows depth count points)) (get_or a (get_or o k 0 * 4) 0) one_more
          (suc d) m (one_more d m ∙ rw (e, ← q, t)))

-- ---- the accesses of all statements

pub record SearchIn (w : List ℤ) (o a sizes : List ℕ) (points : List ℤ) (depth count : ℕ) : Type 0 where
  pub accesses : AccessesOk w o a depth
  pub statements : length sizes ≤ most_statements
  pub each : sum sizes ≤ length o
  pub stored : RowsIn points depth count

-- the statements before s are clear
pub record Reached (w : List ℤ) (o a sizes : List ℕ) (points : List ℤ) (depth count first s : ℕ) : Type 0 where
  pub inside : s ≤ length sizes
  pub room : first + sum (drop s sizes) ≤ length o
  pub clear : in_bodies (arrays_of a) (rows depth count points) 1 (bodies_from w o a depth 0 sizes) ≡ in_bodies (arrays_of a) (rows depth count points)
      (suc s) (bodies_from w o a depth first (drop s sizes))

abbrev pub Searched : List ℤ → List ℕ → List ℕ → List ℕ → List ℤ → ℕ → ℕ → Option ℕ → Type 0
Searched w o a sizes points depth count r = answer_of r ≡ in_bodies (arrays_of a) (rows depth count points) 1 (bodies_from w o a depth 0 sizes)

module _ {w : List ℤ} {o a sizes : List ℕ} {points : List ℤ} {depth count : ℕ} (p : SearchIn w o a sizes points depth count) where
  pub start : Reached w o a sizes points depth count 0 0
  start = let e = p.each in record { inside = omega arith; room = omega arith; clear = refl }

  module _ {first s : ℕ} (g : Reached w o a sizes points depth count first s) where
    pub finished : length sizes ≤ s → Searched w o a sizes points depth count None
    unfolding bodies_from
    finished h = let e : s ≡ length sizes = (let i = g.inside in omega arith) in
        sym (g.clear ∙ ap (λ (l : List ℕ). in_bodies (arrays_of a) (rows depth count points) (suc s) (bodies_from w o a depth first l))
        (ap (λ (k : ℕ). drop k sizes) e ∙ drop-length sizes) ∙ no_body (arrays_of a) (rows depth count points) (suc s))

    module _ (h : s < length sizes) where
      to-body : in_bodies (arrays_of a) (rows depth count points) 1 (bodies_from w o a depth 0 sizes)
          ≡ in_bodies (arrays_of a) (rows depth count points) (suc s) (accesses_from w o a depth first (get_or sizes s 0)
          ∷ bodies_from w o a depth (first + get_or sizes s 0) (drop (s + 1) sizes))
      to-body = g.clear ∙ ap (in_bodies (arrays_of a) (rows depth count points) (suc s)) (bodies-drop w o a depth first s sizes h)

      pub accesses-end : first + get_or sizes s 0 ≤ length o
      accesses-end = let r = g.room in omega (arith, sum_drop s sizes h)

      pub next-statement : (i : ℕ) → i ≤ get_or sizes s 0 → get_or sizes s 0 ≤ i → accesses_violation w o a depth (rows depth count points) first i ≡ false
          → Reached w o a sizes points depth count (first + get_or sizes s 0) (s + 1)
      next-statement i l k e = let q : i ≡ get_or sizes s 0 = omega arith in let r = g.room in record {
        inside = omega arith;
        room = omega (arith, sum_drop s sizes h);
        clear = to-body
            ∙ body-clear (arrays_of a) (rows depth count points) (suc s) (accesses_from w o a depth first (get_or sizes s 0))
            (bodies_from w o a depth (first + get_or sizes s 0) (drop (s + 1) sizes))
            (subst (λ (m : ℕ). accesses_violation w o a depth (rows depth count points) first m ≡ false) q e)
            ∙ ap (λ (m : ℕ). in_bodies (arrays_of a) (rows depth count points) (suc m)
            (bodies_from w o a depth (first + get_or sizes s 0) (drop (s + 1) sizes))) (sym (add-one s));
      }

      module _ {i : ℕ} (l : i < get_or sizes s 0) where
        pub access-in : AccessIn w o a (first + i) points depth count
        access-in = record { accesses = p.accesses; there = (let r = accesses-end in omega arith); stored = p.stored }

        pub bounds-in : Bounds o a (first + i)
        bounds-in = bounds access-in

        module _ (e : accesses_violation w o a depth (rows depth count points) first i ≡ false) where
          pub next-access : false ≡ access_violates w o a depth (rows depth count points) (first + i)
              → accesses_violation w o a depth (rows depth count points) first (i + 1) ≡ false
          next-access q = rw (add-one i) (one-access w o a depth (rows depth count points) p.accesses first i ∙ rw (e, ← q))

          pub found : true ≡ access_violates w o a depth (rows depth count points) (first + i) → Searched w o a sizes points depth count (Some (s + 1))
          found q = subst (λ (k : ℕ). Searched w o a sizes points depth count (Some k)) (sym (add-one s)) (sym (to-body
              ∙ body-violates (arrays_of a) (rows depth count points) (suc s) (accesses_from w o a depth first (get_or sizes s 0))
              (bodies_from w o a depth (first + get_or sizes s 0) (drop (s + 1) sizes))
              (grows (accesses_violation w o a depth (rows depth count points) first)
              (λ k. access_violates w o a depth (rows depth count points) (first + k)) (get_or sizes s 0)
              (λ k z. one-access w o a depth (rows depth count points) p.accesses first k) (suc i) l
              (one-access w o a depth (rows depth count points) p.accesses first i ∙ rw (e, ← q)))))
