-- The flat arrays and accesses: the extents of an array, by its number; one subscript, access or statement more.
use mathlib.Core.Path.{◌≡◌, refl, sym, ◌∙◌, ap}
use mathlib.Core.List.{List, [], ◌∷◌, ◌++◌}
use Prim.Native.Nat.{ℕ, zero, suc, ◌+◌, ◌*◌, ◌/◌, ◌≤◌, ◌<◌}
use native.Mathlib.Omega.{arith}
use native.Mathlib.Nat.{add-zero, zero-add, add-suc, suc-add, mul-div-le}
use native.Mathlib.Numerals.{add-one}
use lib.IntN.{ℤ}
use lib.ListN.{length, get_or, drop, length-drop}
use lib.Seq.{length-take-le, get_or-take, get_or-drop, drop-cons}
use Rattle.model.specs.Grammar.{extents}
use Rattle.model.specs.Store.{sum}
use Rattle.nest_flat.specs.Layout.{extents_at, arrays_from, arrays_of, form_at, forms_from, access_at, accesses_from, bodies_from, ArrayIn, AccessesOk}

-- ---- arrays

extents-from : (a : List ℕ) (j m i : ℕ) → i < m → extents (arrays_from a j m) i ≡ extents_at a (j + i)
unfolding extents arrays_from
extents-from a j zero i h = absurd (omega arith)
extents-from a j (suc m) zero h = ap (extents_at a) (sym (add-zero j))
extents-from a j (suc m) (suc i) h = extents-from a (suc j) m i (omega arith) ∙ ap (extents_at a) (suc-add j i ∙ sym (add-suc j i))

pub array-in : (w : List ℤ) (o a : List ℕ) (n i : ℕ) → AccessesOk w o a n → i < length a / 4 → ArrayIn a i
array-in w o a n i p h = record { few = p.few; there = h; dimensions = p.dimensions; extents = p.extents }

module _ (a : List ℕ) (i : ℕ) (p : ArrayIn a i) where
  pub array-ends : i * 4 + 4 ≤ length a
  array-ends = let d = mul-div-le (length a) 4 in let h = p.there in omega arith

  pub extents-are : extents (arrays_of a) i ≡ extents_at a i
  unfolding arrays_of
  extents-are = extents-from a 0 (length a / 4) i p.there ∙ ap (extents_at a) (zero-add i)

  pub extents-length : length (extents_at a i) ≡ get_or a (i * 4) 0
  unfolding extents_at
  extents-length = length-take-le (get_or a (i * 4) 0) (drop (i * 4 + 1) a)
      (let d = p.dimensions i p.there in let e = array-ends in let l = length-drop (i * 4 + 1) a in omega arith)

  pub extent-read : (d : ℕ) → d < get_or a (i * 4) 0 → get_or (extents_at a i) d 0 ≡ get_or a (i * 4 + 1 + d) 0
  unfolding extents_at
  extent-read d g = get_or-take (get_or a (i * 4) 0) (drop (i * 4 + 1) a) d 0 g ∙ get_or-drop (i * 4 + 1) a d 0

-- ---- one more

pub forms-snoc : (w : List ℤ) (n j d : ℕ) → forms_from w n j (suc d) ≡ forms_from w n j d ++ (form_at w n (j + d) ∷ [])
unfolding forms_from
forms-snoc w n j zero = rw (add-zero j)
forms-snoc w n j (suc d) = ap (form_at w n j ∷◌) (forms-snoc w n (suc j) d
    ∙ ap (λ (i : ℕ). forms_from w n (suc j) d ++ (form_at w n i ∷ [])) (suc-add j d ∙ sym (add-suc j d)))

pub forms-length : (w : List ℤ) (n j d : ℕ) → length (forms_from w n j d) ≡ d
unfolding forms_from
forms-length w n j zero = refl
forms-length w n j (suc d) = ap suc (forms-length w n (suc j) d)

pub accesses-snoc : (w : List ℤ) (o a : List ℕ) (n k m : ℕ) → accesses_from w o a n k (suc m) ≡ accesses_from w o a n k m ++
    (access_at w o a n (k + m) ∷ [])
unfolding accesses_from
accesses-snoc w o a n k zero = rw (add-zero k)
accesses-snoc w o a n k (suc m) = ap (access_at w o a n k ∷◌) (accesses-snoc w o a n (suc k) m
    ∙ ap (λ (i : ℕ). accesses_from w o a n (suc k) m ++ (access_at w o a n i ∷ [])) (suc-add k m ∙ sym (add-suc k m)))

pub bodies-drop : (w : List ℤ) (o a : List ℕ) (n k s : ℕ) (sizes : List ℕ) → s < length sizes
    → bodies_from w o a n k (drop s sizes) ≡ accesses_from w o a n k (get_or sizes s 0) ∷ bodies_from w o a n (k + get_or sizes s 0) (drop (s + 1) sizes)
unfolding bodies_from
bodies-drop w o a n k s sizes h = rw (drop-cons sizes s 0 h, add-one s)

pub sum_drop : (s : ℕ) (sizes : List ℕ) → s < length sizes → sum (drop s sizes) ≡ get_or sizes s 0 + sum (drop (s + 1) sizes)
unfolding sum
sum_drop s sizes h = rw (drop-cons sizes s 0 h, add-one s)
