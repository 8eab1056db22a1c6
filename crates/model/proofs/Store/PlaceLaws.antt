-- Elements and places. In order: which elements there are, and that an access that stays within bounds names one of them; places within an
-- array; places in the store: they are below its length, distinct elements have distinct ones, and every word is the place of an element.
use mathlib.Core.Path.{◌≡◌, refl, sym, ap, ap₂, ◌∙◌, subst}
use mathlib.Core.Bool.{◌||◌}
use mathlib.Core.List.{List, [], ◌∷◌, map}
use Prim.Native.Nat.{ℕ, zero, suc, ◌+◌, ◌*◌, ◌-◌, ◌/◌, ◌%◌, ◌<◌}
use native.Mathlib.Omega.{arith}
use native.Mathlib.Nat.{div-add-mod', mod-lt, div-lt_iff_lt-mul}
use native.Mathlib.Decide.{dec_lt}
use lib.Dec.{T}
use lib.IntN.{ℤ, pos, nat_abs}
use lib.Signed.{lt_z, le_z}
use lib.ListN.{length, length-map}
use Rattle.integers.proofs.RingLaws.{zarith}
use Rattle.integers.proofs.RangeLaws.{abs-below, abs-injective, test-lt-no, test-le-no}
use Rattle.lists.proofs.PartLaws.{row_fits, row-unique}
use Rattle.lists.proofs.TestLaws.{or_left, or_right, not-T-false}
use Rattle.model.specs.Ticket.{Access}
use Rattle.model.specs.Grammar.{elements, total, extents}
use Rattle.model.specs.Bounds.{subscript_at, outside, violates}
use Rattle.model.specs.Machine.{Element, element}
use Rattle.model.specs.Shape.{Fits}
use Rattle.model.specs.Store.{base, place_from, place_of}
use Rattle.model.specs.Promises.{InExtents, Valid, OneToOne}

-- ---- elements

inside-extents : (ns : List ℕ) (xs : List ℤ) → length xs ≡ length ns → (T (outside ns xs) → ⊥) → InExtents ns xs
unfolding outside
inside-extents [] [] e h = tt
inside-extents [] (x ∷ xs) e h = absurd (omega arith)
inside-extents (n ∷ ns) [] e h = absurd (omega arith)
inside-extents (n ∷ ns) (x ∷ xs) e h =
    let low = lt_z x (pos 0) in
    let high = le_z (pos n) x in (
      test-lt-no (not-T-false low (λ t. h (or_left (low || high) (outside ns xs) (or_left low high t)))),
      test-le-no (not-T-false high (λ t. h (or_left (low || high) (outside ns xs) (or_right low high t)))),
      inside-extents ns xs (omega arith) (λ t. h (or_right (low || high) (outside ns xs) t)),
    )

pub element-valid : (as' : List (List ℕ)) (n : ℕ) (p : List ℤ) (a : Access) → Fits as' n a → (T (violates as' p a) → ⊥) → Valid as' (element p a)
unfolding violates element
element-valid as' n p a f h = record {
  there = f.there;
  inside = inside-extents (extents as' a.array) (map (subscript_at p) a.subscripts) (simp length-map f.dimensions) h;
}

-- ---- places within an array

-- the place of the first subscripts, times the elements of the rest
place-split : (o : ℕ) (ns : List ℕ) (xs : List ℤ) → InExtents ns xs → place_from o ns xs ≡ o * elements ns + place_from 0 ns xs
unfolding place_from elements
place-split o [] [] h = omega arith
place-split o [] (x ∷ xs) h = absurd h
place-split o (n ∷ ns) [] h = absurd h
place-split o (n ∷ ns) (x ∷ xs) h = omega (arith, place-split (o * n + nat_abs x) ns xs h.2, place-split (0 * n + nat_abs x) ns xs h.2)

place-cons : (n : ℕ) (ns : List ℕ) (x : ℤ) (xs : List ℤ) → InExtents ns xs
    → place_from 0 (n ∷ ns) (x ∷ xs) ≡ nat_abs x * elements ns + place_from 0 ns xs
unfolding place_from
place-cons n ns x xs h = omega (arith, place-split (0 * n + nat_abs x) ns xs h)

inner_below : (ns : List ℕ) (xs : List ℤ) → InExtents ns xs → place_from 0 ns xs < elements ns
unfolding place_from elements
inner_below [] [] h = omega arith
inner_below [] (x ∷ xs) h = absurd h
inner_below (n ∷ ns) [] h = absurd h
inner_below (n ∷ ns) (x ∷ xs) h =
    omega (arith, place-cons n ns x xs h.2, inner_below ns xs h.2, row_fits (elements ns) (nat_abs x) n (abs-below x n h.0 h.1))

inner-injective : (ns : List ℕ) (xs ys : List ℤ) → InExtents ns xs → InExtents ns ys → place_from 0 ns xs ≡ place_from 0 ns ys → xs ≡ ys
inner-injective [] [] [] h k e = refl
inner-injective [] (x ∷ xs) ys h k e = absurd h
inner-injective [] [] (y ∷ ys) h k e = absurd k
inner-injective (n ∷ ns) [] ys h k e = absurd h
inner-injective (n ∷ ns) (x ∷ xs) [] h k e = absurd k
inner-injective (n ∷ ns) (x ∷ xs) (y ∷ ys) h k e =
    let q = row-unique (elements ns) (nat_abs x) (nat_abs y) (place_from 0 ns xs) (place_from 0 ns ys) (inner_below ns xs h.2)
    (inner_below ns ys k.2)
    (sym (place-cons n ns x xs h.2) ∙ e ∙ place-cons n ns y ys k.2) in
    ap₂ ◌∷◌ (abs-injective x y h.0 k.0 q.0) (inner-injective ns xs ys h.2 k.2 q.1)

inner-onto : (ns : List ℕ) (p : ℕ) → p < elements ns → (xs : List ℤ) × InExtents ns xs × (place_from 0 ns xs ≡ p)
unfolding elements
inner-onto [] p h = ([], tt, unfold place_from in omega arith)
inner-onto (n ∷ ns) p h =
    let w = elements ns in
    let some : 0 < w = positive n w p h in
    let r = inner-onto ns (p % w) (mod-lt p some) in
    let b : p / w < n = (div-lt_iff_lt-mul some).1 h in (
      pos (p / w) ∷ r.0,
      (omega zarith, omega zarith, r.1),
      place-cons n ns (pos (p / w)) r.0 r.1 ∙ ap (p / w * w +◌) r.2
          ∙ div-add-mod' p w,
    )
  where
    positive : (n w p : ℕ) → p < n * w → 0 < w
    positive n zero p h = absurd (omega arith)
    positive n (suc w) p h = omega arith

-- ---- places in the store

at-below : (as' : List (List ℕ)) (a p : ℕ) → a < length as' → p < elements (extents as' a) → base as' a + p < total as'
unfolding base extents total
at-below [] a p h k = absurd (omega arith)
at-below (ns ∷ m) zero p h k = omega arith
at-below (ns ∷ m) (suc a) p h k = omega (arith, at-below m a p (omega arith) k)

at-injective : (as' : List (List ℕ)) (a b p q : ℕ) → a < length as' → b < length as' → p < elements (extents as' a) → q < elements (extents as' b)
    → base as' a + p ≡ base as' b + q → (a ≡ b) × (p ≡ q)
unfolding base extents
at-injective [] a b p q ha hb hp hq e = absurd (omega arith)
at-injective (ns ∷ m) zero zero p q ha hb hp hq e = (refl, omega arith)
at-injective (ns ∷ m) zero (suc b) p q ha hb hp hq e = absurd (omega arith)
at-injective (ns ∷ m) (suc a) zero p q ha hb hp hq e = absurd (omega arith)
at-injective (ns ∷ m) (suc a) (suc b) p q ha hb hp hq e = let r = at-injective m a b p q (omega arith) (omega arith) hp hq (omega arith)
    in (ap suc r.0, r.1)

at-onto : (as' : List (List ℕ)) (k : ℕ) → k < total as' → (a : ℕ) × (p : ℕ) × (a < length as') × (p < elements (extents as' a)) × (base as' a + p ≡ k)
unfolding base extents total
at-onto [] k h = absurd (omega arith)
at-onto (ns ∷ m) k h = elim (dec_lt k (elements ns)) [
  | yes l ↦ (0, k, omega arith, l, omega arith)
  | no f ↦ let r = at-onto m (k - elements ns) (omega arith) in let b = r.2 in let c = r.4 in (suc r.0, r.1, omega arith, r.3, omega arith)
]

module _ (as' : List (List ℕ)) where
  inner-at : (e : Element) → Valid as' e → place_from 0 (extents as' e.array) e.subscripts < elements (extents as' e.array)
  inner-at e v = inner_below (extents as' e.array) e.subscripts v.inside

  pub place-below : (e : Element) → Valid as' e → place_of as' e < total as'
  unfolding place_of
  place-below e v = at-below as' e.array _ v.there (inner-at e v)

  pub place-injective : (e f : Element) → Valid as' e → Valid as' f → place_of as' e ≡ place_of as' f → e ≡ f
  unfolding place_of
  place-injective e f v u q =
      let r = at-injective as' e.array f.array _ _ v.there u.there (inner-at e v) (inner-at f u) q in
      let ns = extents as' e.array in
      let k : InExtents ns f.subscripts = subst (λ a. InExtents (extents as' a) f.subscripts) (sym r.0) u.inside in
      let j : place_from 0 ns e.subscripts ≡ place_from 0 ns f.subscripts = r.1
      ∙ ap (λ a. place_from 0 (extents as' a) f.subscripts) (sym r.0) in
      let s : e.subscripts ≡ f.subscripts = inner-injective ns e.subscripts f.subscripts v.inside k j in
      λ t. record { array = r.0 t; subscripts = s t }

  pub place-onto : (k : ℕ) → k < total as' → (e : Element) × Valid as' e × (place_of as' e ≡ k)
  unfolding place_of
  place-onto k h =
      let r = at-onto as' k h in
      let i = inner-onto (extents as' r.0) r.1 r.3 in
      (record { array = r.0; subscripts = i.0 }, record { there = r.2; inside = i.1 }, ap (base as' r.0 +◌) i.2 ∙ r.4)

pub one-to-one : (as' : List (List ℕ)) → OneToOne as'
one-to-one as' = record { below = place-below as'; distinct = place-injective as'; onto = place-onto as' }
