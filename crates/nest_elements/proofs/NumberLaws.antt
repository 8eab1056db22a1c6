-- The numbers of one access at the stored points, one more; then those of all accesses, and what is read back of them.
use mathlib.Core.Path.{◌≡◌, refl, sym, ◌∙◌, ap, subst}
use mathlib.Core.Bool.{false}
use mathlib.Core.Logic.{⊎_elim}
use mathlib.Core.List.{List, [], ◌∷◌, ◌++◌, map, map-append}
use Prim.Native.Nat.{ℕ, zero, suc, ◌+◌, ◌*◌, ◌-◌, ◌≤◌, ◌<◌}
use native.Mathlib.Omega.{arith}
use native.Mathlib.Nat.{eq-or-lt_of_le, mul-le-mul, mul-le-mul_right}
use native.Mathlib.Numerals.{add-one}
use lib.IntN.{ℤ, nat_abs}
use lib.ListN.{length, get_or, take, drop, set, length-map}
use Rattle.lists.specs.Parts.{rows, put}
use Rattle.lists.proofs.PartLaws.{length-rows, length-put, set-put, put-nil, get_d-put, get_d-put-before, row_fits}
use Rattle.model.specs.Bounds.{violates}
use Rattle.model.specs.Store.{base}
use Rattle.model.specs.Grammar.{most_accesses, most_points, most_numbers}
use Rattle.nest_flat.specs.Layout.{arrays_of, access_at, ArrayIn}
use Rattle.nest_elements.specs.Forms.{form_of, value_at, FormIn, PlacedIn}
use Rattle.nest_elements.specs.Places.{BaseIn, NumberIn, place_at, places_of}
use Rattle.nest_elements.proofs.LayoutLaws.{array-in}
use Rattle.nest_elements.proofs.ElementLaws.{array-fits, earlier-array}
use Rattle.nest_elements.proofs.PlaceLaws.{PlaceIn, value-is-place, value_in}
use Rattle.nest_elements.proofs.RowLaws.{lent, row_is, row-length, row-mem, row_near, next-rows}

module _ {w : List ℤ} {o a : List ℕ} {points : List ℤ} {depth count room : ℕ} (p : NumberIn w o a points depth count room) {k : ℕ}
    (h : k < length o) where
  its-array : ArrayIn a (get_or o k 0)
  its-array = array-in w o a depth (get_or o k 0) p.accesses (p.accesses.there k h)

  pub base-in : BaseIn a (get_or o k 0)
  base-in = record { before = earlier-array a (get_or o k 0) its-array; fits = p.fits }

  pub form_in : {b : ℕ} → b ≡ base (arrays_of a) (get_or o k 0) → FormIn w o a k b
  form_in {b} q = record {
    loops = depth;
    accesses = p.accesses;
    there = h;
    begins = let f = array-fits a (get_or o k 0) its-array
        in let t = p.fits in omega arith;
  }

  -- where its numbers begin
  pub begins-small : k * count ≤ most_numbers
  begins-small = let m = p.accesses.many in mul-le-mul {n₁ = k} {m₁ = count} {n₂ = most_accesses} {m₂ = most_points} (omega arith) p.stored.bound

  places-length : (i : ℕ) → length (places_of w o a depth (rows depth i points) k) ≡ i
  unfolding places_of
  places-length i = length-map (rows depth i points) (place_at w o a depth k) ∙ length-rows depth i points

  pub same-room : (i : ℕ) → i ≤ count → (out out₀ : List ℕ) → length out₀ ≡ room
      → out ≡ put out₀ (k * count) (places_of w o a depth (rows depth i points) k) → length out ≡ length out₀
  same-room i l out out₀ len f = let s = p.space in let q = row_fits count k (length o) h in let n = places-length i in
      ap length f ∙ length-put out₀ (k * count) (places_of w o a depth (rows depth i points) k) (omega arith)

  pub no_place : (out₀ : List ℕ) → out₀ ≡ put out₀ (k * count) (places_of w o a depth (rows depth 0 points) k)
  unfolding places_of rows
  no_place out₀ = sym (put-nil out₀ (k * count))

  module _ {b i at : ℕ} {f : List ℤ} (q : b ≡ base (arrays_of a) (get_or o k 0)) (g : f ≡ form_of w o a k b) (l : i < count) (e : at ≡ i * depth) where
    width : length (lent p.stored l e) ≡ depth
    width = row-length p.stored l e

    place_in : PlaceIn w o a k b (take (at + depth - at) (drop at points))
    place_in = record {
      accesses = rw width p.accesses;
      there = h;
      near = row_near p.stored l e;
      inside = rw width (subst (λ (x : List ℤ). violates (arrays_of a) x (access_at w o a depth k) ≡ false) (sym (row_is p.stored l e))
          (p.inside k h (get_or (rows depth count points) i []) (row-mem p.stored l e)));
      fits = p.fits;
      begins = q;
    }

    pub place-lent : PlacedIn f (take (at + depth - at) (drop at points))
    place-lent = subst (λ (x : List ℤ). PlacedIn x (take (at + depth - at) (drop at points))) (sym g) (value_in place_in)

    place-value : nat_abs (value_at f (take (at + depth - at) (drop at points))) ≡ place_at w o a depth k (take (at + depth - at) (drop at points))
    place-value = ap (λ (x : List ℤ). nat_abs (value_at x (take (at + depth - at) (drop at points)))) g
        ∙ ap nat_abs (value-is-place place_in)
        ∙ ap (λ (m : ℕ). place_at w o a m k (take (at + depth - at) (drop at points))) width

    module _ {out : List ℕ} (out₀ : List ℕ) (len : length out₀ ≡ room) (s : out ≡ put out₀ (k * count)
        (places_of w o a depth (rows depth i points) k)) where
      ends : k * count + i < room
      ends = let s = p.space in let q = row_fits count k (length o) h in omega arith

      pub in-room : k * count + i < length out
      in-room = let g = ends in let z = same-room i (omega arith) out out₀ len s in omega arith

      pub one_place : (r : ℕ) → r ≡ nat_abs (value_at f (take (at + depth - at) (drop at points)))
          → set out (k * count + i) r ≡ put out₀ (k * count) (places_of w o a depth (rows depth (i + 1) points) k)
      unfolding places_of
      one_place r v =
          let n = places-length i in let z = ends in
          ap (λ (x : List ℕ). set x (k * count + i) r) s
          ∙ ap (λ (m : ℕ). set (put out₀ (k * count) (map (place_at w o a depth k) (rows depth i points))) (k * count + m) r) (sym n)
          ∙ set-put out₀ (k * count) (map (place_at w o a depth k) (rows depth i points)) r (omega arith)
          ∙ ap (put out₀ (k * count)) (ap (λ (x : ℕ). map (place_at w o a depth k) (rows depth i points) ++ (x ∷ [])) (v ∙ place-value)
          ∙ sym (map-append (place_at w o a depth k) (rows depth i points) (take (at + depth - at) (drop at points) ∷ []))
          ∙ ap (map (place_at w o a depth k)) (sym (next-rows p.stored l e)))

-- ---- what is written and what is read back

-- the first m accesses, each w numbers after the one before
unfoldable pub numbered : ℕ → (ℕ → List ℕ) → ℕ → List ℕ → List ℕ
numbered w f zero out = out
numbered w f (suc m) out = put (numbered w f m out) (m * w) (f m)

pub numbered-length : (w : ℕ) (f : ℕ → List ℕ) (m : ℕ) (out : List ℕ) → ((k : ℕ) → k < m → length (f k) ≤ w) → m * w ≤ length out
    → length (numbered w f m out) ≡ length out
unfolding numbered
numbered-length w f zero out h r = refl
numbered-length w f (suc m) out h r = let s = h m (omega arith) in let q = row_fits w m (suc m) (omega arith) in let l = numbered-length w f m out
    (λ k g. h k (omega arith)) (omega arith) in
    length-put (numbered w f m out) (m * w) (f m) (omega arith) ∙ l

pub numbered-read : (w : ℕ) (f : ℕ → List ℕ) (m : ℕ) (out : List ℕ) → ((k : ℕ) → k < m → length (f k) ≤ w) → m * w ≤ length out
    → (k i : ℕ) → k < m → i < length (f k) → get_or (numbered w f m out) (k * w + i) 0 ≡ get_or (f k) i 0
unfolding numbered
numbered-read w f zero out h r k i g l = absurd (omega arith)
numbered-read w f (suc m) out h r k i g l =
    let q = row_fits w m (suc m) (omega arith) in let n = numbered-length w f m out (λ j x. h j (omega arith)) (omega arith) in
    ⊎_elim (λ (e : k ≡ m). ap (λ (j : ℕ). get_or (put (numbered w f m out) (m * w) (f m)) (j * w + i) 0) e
    ∙ get_d-put (numbered w f m out) (m * w) (f m) i 0 (subst (λ (j : ℕ). i < length (f j)) e l) (omega arith)
    ∙ ap (λ (j : ℕ). get_or (f j) i 0) (sym e))
    (λ (e : k < m). let s = h k g in let t = row_fits w k m e in get_d-put-before (numbered w f m out) (m * w) (f m) (k * w + i) 0 (omega arith)
    (omega arith) ∙ numbered-read w f m out (λ j x. h j (omega arith)) (omega arith) k i e l)
    (eq-or-lt_of_le (below k m g))
  where
    below : (k m : ℕ) → k < suc m → k ≤ m
    below k m g = omega arith

-- ---- the loop over all accesses

module _ (w : List ℤ) (o a : List ℕ) (points : List ℤ) (depth count : ℕ) (out₀ : List ℕ) (p : NumberIn w o a points depth count (length out₀)) where
  few-places : (k : ℕ) → length (places_of w o a depth (rows depth count points) k) ≤ count
  unfolding places_of
  few-places k = let l = length-map (rows depth count points) (place_at w o a depth k)
      ∙ length-rows depth count points in let b = p.stored.bound in omega arith

  pub same_out : (k : ℕ) → k ≤ length o → (out : List ℕ) → out ≡ numbered count (places_of w o a depth (rows depth count points)) k out₀
      → length out ≡ length out₀
  same_out k h out e = let s = p.space in let q = mul-le-mul_right count h in ap length e
      ∙ numbered-length count (places_of w o a depth (rows depth count points)) k out₀ (λ j _. few-places j) (omega arith)

  pub next-in : (k : ℕ) → k < length o → (out : List ℕ) → out ≡ numbered count (places_of w o a depth (rows depth count points)) k out₀
      → NumberIn w o a points depth count (length out) × (k < length o)
  next-in k h out e = (subst (NumberIn w o a points depth count) (sym (same_out k (omega arith) out e)) p, h)

  pub next-out : (k : ℕ) (out e : List ℕ) → out ≡ numbered count (places_of w o a depth (rows depth count points)) k out₀
      → e ≡ put out (k * count) (places_of w o a depth (rows depth count points) k)
      → e ≡ numbered count (places_of w o a depth (rows depth count points)) (k + 1) out₀
  unfolding numbered
  next-out k out e f g = g ∙ rw (f, add-one k)

  pub all-out : (k : ℕ) → k ≤ length o → length o ≤ k → (e : List ℕ) → e ≡ numbered count (places_of w o a depth (rows depth count points)) k out₀
      → e ≡ numbered count (places_of w o a depth (rows depth count points)) (length o) out₀
  all-out k l m e f = let z : k ≡ length o = omega arith in
      f ∙ ap (λ (j : ℕ). numbered count (places_of w o a depth (rows depth count points)) j out₀) z

  -- what stands for access k at point i
  pub stored-place : (e : List ℕ) → e ≡ numbered count (places_of w o a depth (rows depth count points)) (length o) out₀ → (k i : ℕ) → k < length o
      → i < count
      → get_or e (k * count + i) 0 ≡ get_or (places_of w o a depth (rows depth count points) k) i 0
  unfolding places_of
  stored-place e f k i h g = let s = p.space in let l = length-map (rows depth count points) (place_at w o a depth k)
      ∙ length-rows depth count points in
      ap (λ (x : List ℕ). get_or x (k * count + i) 0) f
      ∙ numbered-read count (places_of w o a depth (rows depth count points)) (length o) out₀ (λ j _. few-places j) (omega arith) k i h (omega arith)
