-- The place of an access in the store, dimension by dimension: one more, what each subscript is within its extent, and the whole. The
-- access's form has it as its value, and at a point within the extents its numbers are small.
use mathlib.Core.Path.{◌≡◌, refl, sym, ◌∙◌, ap, ap₂, subst}
use mathlib.Core.Bool.{Bool, true, false, ◌||◌}
use mathlib.Core.List.{List, [], ◌∷◌, ◌++◌, map, map-append}
use Prim.Native.Nat.{ℕ, zero, suc, ◌+◌, ◌*◌, ◌≤◌, ◌<◌}
use native.Mathlib.Omega.{arith}
use native.Mathlib.Nat.{mul-one, one-mul, mul_assoc, suc-mul, mul-le-mul, mul-le-mul_right, add-zero, add-suc, suc-add, add_comm}
use lib.IntN.{ℤ, pos, nat_abs, ◌+ℤ◌, ◌*ℤ◌}
use lib.Signed.{◌≤ℤ◌, ◌<ℤ◌, lt_z, le_z}
use lib.ListN.{length, get_or, take, length-map}
use lib.Seq.{take-suc, take-length, length-take-le}
use Rattle.integers.specs.Affine.{Within}
use Rattle.integers.proofs.RingLaws.{zarith, nonneg-down}
use Rattle.integers.proofs.RangeLaws.{test-lt-no, test-le-no, size-nat_abs, to-nat}
use Rattle.integers.proofs.AffineLaws.{within_more}
use Rattle.model.specs.Ticket.{Subscript}
use Rattle.model.specs.Grammar.{elements, total}
use Rattle.model.specs.Bounds.{subscript_at, outside, violates}
use Rattle.model.specs.Machine.{element}
use Rattle.model.specs.Store.{base, place_from, place_of}
use Rattle.nest_index_range.specs.Ranges.{Narrow}
use Rattle.nest_flat.specs.Layout.{extents_at, arrays_of, form_at, forms_from, access_at, ArrayIn, AccessesOk}
use Rattle.nest_elements.specs.Search.{off}
use Rattle.nest_elements.specs.Forms.{words_at, form_to, form_of, value_at, PlacedIn}
use Rattle.nest_elements.specs.Places.{place_at}
use Rattle.nest_elements.proofs.LayoutLaws.{extents-are, extents-length, extent-read, forms-snoc, forms-length}
use Rattle.nest_elements.proofs.ElementLaws.{array-fits}
use Rattle.nest_elements.proofs.FormLaws.{its-array, flat, words-length, form-length, within-zeros, within-folded, within-words, value-folded, value_none, value-raised, value-words, raised-length, raised-in}

-- ---- one dimension more

place-snoc : (o : ℕ) (ns : List ℕ) (xs : List ℤ) (n : ℕ) (x : ℤ) → length ns ≡ length xs
    → place_from o (ns ++ (n ∷ [])) (xs ++ (x ∷ [])) ≡ place_from o ns xs * n + nat_abs x
unfolding place_from
place-snoc o [] [] n x e = refl
place-snoc o [] (y ∷ xs) n x e = absurd (omega arith)
place-snoc o (m ∷ ns) [] n x e = absurd (omega arith)
place-snoc o (m ∷ ns) (y ∷ xs) n x e = place-snoc (o * m + nat_abs y) ns xs n x (omega arith)

elements-snoc : (ns : List ℕ) (n : ℕ) → elements (ns ++ (n ∷ [])) ≡ elements ns * n
unfolding elements
elements-snoc [] n = mul-one n ∙ sym (one-mul n)
elements-snoc (m ∷ ns) n = ap (m *◌) (elements-snoc ns n) ∙ sym (mul_assoc m (elements ns) n)

-- ---- a subscript within its extent

off-inside : (n : ℕ) (x : ℤ) → off n x ≡ false → (pos 0 ≤ℤ x) × (nat_abs x < n)
unfolding off
off-inside n x e = go (lt_z x (pos 0)) refl (le_z (pos n) x) refl e
  where
    go : (s : Bool) → lt_z x (pos 0) ≡ s → (t : Bool) → le_z (pos n) x ≡ t → s || t ≡ false → (pos 0 ≤ℤ x) × (nat_abs x < n)
    go true p t q e = let z : ◌≡◌ {A = ℕ} 0 1 = cc in absurd (omega arith)
    go false p true q e = let z : ◌≡◌ {A = ℕ} 0 1 = cc in absurd (omega arith)
    go false p false q e = let h : pos 0 ≤ℤ x = test-lt-no p in let g : x <ℤ pos n = test-le-no q in let s = size-nat_abs x in let d = nonneg-down x
        h in (h, omega zarith)

or-both : (a b : Bool) → a || b ≡ false → (a ≡ false) × (b ≡ false)
or-both true b e = let z : ◌≡◌ {A = ℕ} 0 1 = cc in absurd (omega arith)
or-both false b e = (refl, e)

outside-at : (ns : List ℕ) (xs : List ℤ) → outside ns xs ≡ false → (d : ℕ) → d < length ns → d < length xs
    → off (get_or ns d 0) (get_or xs d (pos 0)) ≡ false
unfolding outside off
outside-at [] xs e d h g = absurd (omega arith)
outside-at (n ∷ ns) [] e d h g = absurd (omega arith)
outside-at (n ∷ ns) (x ∷ xs) e zero h g = (or-both (off n x) (outside ns xs) e).0
outside-at (n ∷ ns) (x ∷ xs) e (suc d) h g = outside-at ns xs (or-both (off n x) (outside ns xs) e).1 d (omega arith) (omega arith)

pub forms-get_d : (f : Subscript → ℤ) (w : List ℤ) (n j m d : ℕ) → d < m → get_or (map f (forms_from w n j m)) d (pos 0) ≡ f (form_at w n (j + d))
unfolding forms_from
forms-get_d f w n j zero d h = absurd (omega arith)
forms-get_d f w n j (suc m) zero h = ap (λ (k : ℕ). f (form_at w n k)) (sym (add-zero j))
forms-get_d f w n j (suc m) (suc d) h = forms-get_d f w n (suc j) m d (omega arith) ∙ ap (λ (k : ℕ). f (form_at w n k)) (suc-add j d ∙ sym (add-suc j d))

-- a bound of 32767 for each of d dimensions and each of r places, with one dimension more
grows : (d r n r' : ℕ) → r' ≡ r * n → 1 ≤ r' → 32767 * (d * r) * n + 32767 ≤ 32767 * (suc d * r')
grows d r n r' e h = let q : 32767 * (d * r) * n ≡ 32767 * (d * r') = mul_assoc 32767 (d * r) n
    ∙ ap (32767 *◌) (mul_assoc d r n ∙ ap (d *◌) (sym e)) in omega (arith, suc-mul d r')

-- ---- the place of an access

-- access k at a point where it keeps its extents; its array begins at b
pub record PlaceIn (w : List ℤ) (o a : List ℕ) (k b : ℕ) (point : List ℤ) : Type 0 where
  pub accesses : AccessesOk w o a (length point)
  pub there : k < length o
  pub near : Within 100000 point
  pub inside : violates (arrays_of a) point (access_at w o a (length point) k) ≡ false
  pub fits : total (arrays_of a) ≤ 16384
  pub begins : b ≡ base (arrays_of a) (get_or o k 0)

-- the place by the first d dimensions, and how many places these have
abbrev partial_at : List ℤ → List ℕ → List ℕ → ℕ → List ℤ → ℕ → ℕ
partial_at w o a k point d = place_from 0 (take d (extents_at a (get_or o k 0))) (map (subscript_at point) (forms_from w (length point) (k * 3) d))

abbrev room_at : List ℕ → List ℕ → ℕ → ℕ → ℕ
room_at o a k d = elements (take d (extents_at a (get_or o k 0)))

module _ {w : List ℤ} {o a : List ℕ} {k b : ℕ} {point : List ℤ} (p : PlaceIn w o a k b point) where
  array : ArrayIn a (get_or o k 0)
  array = its-array p.accesses p.there

  three : get_or a (get_or o k 0 * 4) 0 ≤ 3
  three = flat p.accesses p.there

  whole : outside (extents_at a (get_or o k 0)) (map (subscript_at point) (forms_from w (length point) (k * 3) (get_or a (get_or o k 0 * 4) 0))) ≡ false
  unfolding violates access_at
  whole = ap (λ (ns : List ℕ). outside ns (map (subscript_at point) (forms_from w (length point) (k * 3) (get_or a (get_or o k 0 * 4) 0))))
      (sym (extents-are a (get_or o k 0) array)) ∙ p.inside

  module _ {d : ℕ} (h : d < get_or a (get_or o k 0 * 4) 0) where
    below : d < length (extents_at a (get_or o k 0))
    below = let e = extents-length a (get_or o k 0) array in omega arith

    kept : (pos 0 ≤ℤ subscript_at point (form_at w (length point) (k * 3 + d)))
        × (nat_abs (subscript_at point (form_at w (length point) (k * 3 + d))) < get_or a (get_or o k 0 * 4 + 1 + d) 0)
    kept =
        let l = length-map (forms_from w (length point) (k * 3) (get_or a (get_or o k 0 * 4) 0)) (subscript_at point)
        ∙ forms-length w (length point) (k * 3) (get_or a (get_or o k 0 * 4) 0) in
        let e = outside-at (extents_at a (get_or o k 0)) (map (subscript_at point) (forms_from w (length point) (k * 3) (get_or a (get_or o k 0 * 4) 0)))
        whole d below (omega arith) in
        off-inside (get_or a (get_or o k 0 * 4 + 1 + d) 0) (subscript_at point (form_at w (length point) (k * 3 + d)))
        (ap₂ off (sym (extent-read a (get_or o k 0) array d h)) (sym (forms-get_d (subscript_at point) w (length point) (k * 3)
        (get_or a (get_or o k 0 * 4) 0) d h)) ∙ e)

    take_more : take (suc d) (extents_at a (get_or o k 0)) ≡ take d (extents_at a (get_or o k 0)) ++ (get_or a (get_or o k 0 * 4 + 1 + d) 0 ∷ [])
    take_more = take-suc (extents_at a (get_or o k 0)) d 0 below
        ∙ ap (λ (n : ℕ). take d (extents_at a (get_or o k 0)) ++ (n ∷ [])) (extent-read a (get_or o k 0) array d h)

    place-more : partial_at w o a k point (suc d) ≡ partial_at w o a k point d * get_or a (get_or o k 0 * 4 + 1 + d) 0 + nat_abs
        (subscript_at point (form_at w (length point) (k * 3 + d)))
    place-more =
        ap₂ (place_from 0) take_more (ap (map (subscript_at point)) (forms-snoc w (length point) (k * 3) d)
        ∙ map-append (subscript_at point) (forms_from w (length point) (k * 3) d) (form_at w (length point) (k * 3 + d) ∷ []))
        ∙ place-snoc 0 (take d (extents_at a (get_or o k 0))) (map (subscript_at point) (forms_from w (length point) (k * 3) d))
        (get_or a (get_or o k 0 * 4 + 1 + d) 0) (subscript_at point (form_at w (length point) (k * 3 + d)))
        (length-take-le d (extents_at a (get_or o k 0)) (let l = below in omega arith)
        ∙ sym (length-map (forms_from w (length point) (k * 3) d) (subscript_at point) ∙ forms-length w (length point) (k * 3) d))

    room-more : room_at o a k (suc d) ≡ room_at o a k d * get_or a (get_or o k 0 * 4 + 1 + d) 0
    room-more = ap elements take_more ∙ elements-snoc (take d (extents_at a (get_or o k 0))) (get_or a (get_or o k 0 * 4 + 1 + d) 0)

  place-below : (d : ℕ) → d ≤ get_or a (get_or o k 0 * 4) 0 → partial_at w o a k point d < room_at o a k d
  unfolding place_from elements
  place-below zero h = omega arith
  place-below (suc d) h =
      let g = place-below d (omega arith) in let i = (kept h).1 in
      omega (
        arith,
        place-more h,
        room-more h,
        suc-mul (partial_at w o a k point d) (get_or a (get_or o k 0 * 4 + 1 + d) 0),
        mul-le-mul_right
            (get_or a (get_or o k 0 * 4 + 1 + d) 0) g,
      )

  -- ---- its form

  few : length point ≤ 6
  few = p.accesses.shallow

  value-to : (d : ℕ) → d ≤ get_or a (get_or o k 0 * 4) 0 → value_at (form_to w o a k d) point ≡ pos (partial_at w o a k point d)
  unfolding form_to place_from
  value-to zero h = value_none point few
  value-to (suc d) h = let t = three in let v = p.accesses.words in let z = p.there in
      value-folded point few (get_or a (get_or o k 0 * 4 + 1 + d) 0) (form_to w o a k d) (words_at w (k * 3 + d))
      (form-length p.accesses p.there d (omega arith)) (words-length w (k * 3 + d) (omega arith))
      ∙ ap₂ (λ (s t : ℤ). s *ℤ pos (get_or a (get_or o k 0 * 4 + 1 + d) 0) +ℤ t) (value-to d (omega arith))
      (value-words point few w (k * 3 + d) ∙ sym (to-nat (subscript_at point (form_at w (length point) (k * 3 + d))) (kept h).0))
      ∙ ap pos (sym (place-more h))

  -- every extent is 1 or more, so no product of some of them is above that of all
  form_small : (d : ℕ) → d ≤ get_or a (get_or o k 0 * 4) 0 → Within (32767 * (d * room_at o a k d)) (form_to w o a k d)
  unfolding form_to
  form_small zero h = within-zeros (32767 * (0 * room_at o a k 0)) 8
  form_small (suc d) h =
      within-folded (32767 * (d * room_at o a k d)) (get_or a (get_or o k 0 * 4 + 1 + d) 0) (32767 * (suc d * room_at o a k (suc d))) (form_to w o a k d)
      (words_at w (k * 3 + d)) (form_small d (omega arith)) (within-words w (k * 3 + d) p.accesses.small)
      (grows d (room_at o a k d) (get_or a (get_or o k 0 * 4 + 1 + d) 0) (room_at o a k (suc d)) (room-more h)
      (let g = place-below (suc d) h in omega arith))

  -- ---- all dimensions

  all-extents : take (get_or a (get_or o k 0 * 4) 0) (extents_at a (get_or o k 0)) ≡ extents_at a (get_or o k 0)
  all-extents = ap (λ (n : ℕ). take n (extents_at a (get_or o k 0))) (sym (extents-length a (get_or o k 0) array)) ∙ take-length (extents_at a (get_or o k 0))

  room_small : b + room_at o a k (get_or a (get_or o k 0 * 4) 0) ≤ 16384
  room_small = let f = array-fits a (get_or o k 0) array in let t = p.fits in let q = p.begins in let e = ap elements all-extents in omega arith

  place_is : b + partial_at w o a k point (get_or a (get_or o k 0 * 4) 0) ≡ place_at w o a (length point) k point
  unfolding place_at place_of element access_at
  place_is = ap₂ ◌+◌ p.begins (ap (λ (ns : List ℕ). place_from 0 ns (map (subscript_at point) (forms_from w (length point) (k * 3) (get_or a (get_or o k
      0 * 4) 0)))) (all-extents ∙ sym (extents-are a (get_or o k 0) array)))

  pub value-is-place : value_at (form_of w o a k b) point ≡ pos (place_at w o a (length point) k point)
  unfolding form_of
  value-is-place = let t = three in
      value-raised point few b (form_to w o a k (get_or a (get_or o k 0 * 4) 0)) (form-length p.accesses p.there (get_or a (get_or o k 0 * 4) 0) t)
      ∙ ap (◌+ℤ pos b) (value-to (get_or a (get_or o k 0 * 4) 0) (omega arith))
      ∙ ap pos (add_comm (partial_at w o a k point (get_or a (get_or o k 0 * 4) 0)) b ∙ place_is)

  pub value_in : PlacedIn (form_of w o a k b) point
  unfolding form_of
  value_in =
      let t = three in let r = room_small in let l = form-length p.accesses p.there (get_or a (get_or o k 0 * 4) 0) t in
      let v = value-is-place in let i = place_is in let u = place-below (get_or a (get_or o k 0 * 4) 0) (omega arith) in
      let m = mul-le-mul {n₁ = get_or a (get_or o k 0 * 4) 0} {m₁ = room_at o a k (get_or a (get_or o k 0 * 4) 0)} {n₂ = 3} {m₂ = 16384} t (omega arith)
      in record {
        value = record {
          words = raised-length b (form_to w o a k (get_or a (get_or o k 0 * 4) 0)) l;
          few = few;
          lent = raised-in b (form_to w o a k (get_or a (get_or o k 0 * 4) 0)) point l
              (within_more (form_to w o a k (get_or a (get_or o k 0 * 4) 0)) (form_small (get_or a (get_or o k 0 * 4) 0) (omega arith)) (omega arith))
              (omega arith) few p.near;
          narrow = subst Narrow (sym v) (omega arith);
        };
        inside = subst (λ (z : ℤ). pos 0 ≤ℤ z) (sym v) (omega zarith);
        below = subst (λ (z : ℤ). nat_abs z < 16384) (sym v) (omega arith);
      }
