-- Laws of parts of a flat list. In order: an element of a mapped list; a part of a front; a part overwritten (`put`), its length, one write after
-- another, a store as a write, what is read back; rows (`rows`), one more, one of them, the rows of a list that was changed, the parts of `flat_map`.
-- Not here: `take`, `drop`, `set`, `get_or` themselves (`lib.Seq`, `lib.ListN`).
use mathlib.Core.Path.{◌≡◌, refl, sym, ap, ap₂, ◌∙◌, subst}
use mathlib.Core.List.Memᴰ
use mathlib.Core.List.{List, [], ◌∷◌, ◌++◌, map, flat_map, append_assoc}
use Prim.Native.Nat.{ℕ, zero, suc, ◌+◌, ◌*◌, ◌-◌, ◌≤◌, ◌<◌}
use native.Mathlib.Nat.{add-zero, zero-add, suc-add, add_comm, add_assoc, zero-mul, suc-mul, mul-le-mul_right}
use native.Mathlib.Numerals.{add-one}
use native.Mathlib.Decide.{dec_lt}
use native.Mathlib.Omega.{arith}
use lib.ListN.{length, get_or, take, drop, set, length-append, length-drop, take-append-drop, get_or-append}
use lib.Seq.{length-take-le, take-nil, take-append-le, take_at, take-take, take-add, take-set-le, drop_at, drop-drop, get_or-take, get_or-drop, set_split, sets, sets-eq}
use Rattle.lists.specs.Membership.{Mem, All}
use Rattle.lists.specs.Parts.{rows, put}
use Rattle.lists.proofs.MembershipLaws.{all_nil, all_cons}

-- ---- an element of a mapped list, whatever stands beyond both

pub get_d_map : {A B : Type 0} (f : A → B) (l : List A) (i : ℕ) (a : A) (b : B) → i < length l → get_or (map f l) i b ≡ f (get_or l i a)
get_d_map f [] i a b h = absurd (omega arith)
get_d_map f (x ∷ l) zero a b h = refl
get_d_map f (x ∷ l) (suc i) a b h = get_d_map f l i a b (omega arith)

module _ {ℓ} {A : Type ℓ} where
  -- ---- a part of a front

  pub drop-take : (n k : ℕ) (l : List A) → drop n (take (n + k) l) ≡ take k (drop n l)
  drop-take zero k l = rw (zero-add k)
  drop-take (suc n) k [] = rw (suc-add n k) (sym (take-nil k))
  drop-take (suc n) k (x ∷ l) = rw (suc-add n k) (drop-take n k l)

  -- ---- a part overwritten

  pub put-nil : (o : List A) (p : ℕ) → put o p [] ≡ o
  unfolding put
  put-nil o p = rw (add-zero p) (take-append-drop p o)

  pub put_all : (o xs : List A) → put o 0 xs ≡ xs ++ drop (length xs) o
  unfolding put
  put_all o xs = rw (zero-add (length xs))

  pub length-put : (o : List A) (p : ℕ) (xs : List A) → p + length xs ≤ length o → length (put o p xs) ≡ length o
  unfolding put
  length-put o p xs h = simp (length-append, length-drop) (let k : length (take p o) ≡ p = length-take-le p o (omega arith) in omega arith)

  length_front : (o : List A) (p : ℕ) (xs : List A) → p ≤ length o → length (take p o ++ xs) ≡ p + length xs
  length_front o p xs h = length-append (take p o) xs ∙ ap (◌+ length xs) (length-take-le p o h)

  -- the front with what was written, and the rest
  put-parts : (o : List A) (p : ℕ) (xs : List A) → put o p xs ≡ (take p o ++ xs) ++ drop (p + length xs) o
  unfolding put
  put-parts o p xs = sym (append_assoc (take p o) xs (drop (p + length xs) o))

  pub take_put : (o : List A) (p : ℕ) (xs : List A) (n : ℕ) → n ≤ p → p ≤ length o → take n (put o p xs) ≡ take n o
  unfolding put
  take_put o p xs n h k = take-append-le n (take p o) (xs ++ drop (p + length xs) o) (let e = length-take-le p o k in omega arith) ∙ take-take n p o h

  pub take-put-end : (o : List A) (p : ℕ) (xs : List A) → p ≤ length o → take (p + length xs) (put o p xs) ≡ take p o ++ xs
  take-put-end o p xs h = ap (take (p + length xs)) (put-parts o p xs)
      ∙ take_at (take p o ++ xs) (drop (p + length xs) o) (p + length xs) (length_front o p xs h)

  pub drop-put : (o : List A) (p : ℕ) (xs : List A) (n : ℕ) → p + length xs ≤ n → p ≤ length o → drop n (put o p xs) ≡ drop n o
  drop-put o p xs n h k = let m = n - (p + length xs) in let e : n ≡ p + length xs + m = omega arith in
      rw (
        e,
        ← (drop-drop m (p + length xs) (put o p xs)),
        ← (drop-drop m (p + length xs) o),
        put-parts o p xs,
        drop_at (take p o ++ xs)
            (drop (p + length xs) o) (p + length xs) (length_front o p xs k),
      )

  -- the part that was written
  pub put_written : (o : List A) (p : ℕ) (xs : List A) → p ≤ length o → take (length xs) (drop p (put o p xs)) ≡ xs
  unfolding put
  put_written o p xs h = ap (take (length xs)) (drop_at (take p o) (xs ++ drop (p + length xs) o) p (length-take-le p o h))
      ∙ take_at xs (drop (p + length xs) o) (length xs) refl

  pub put-put : (o : List A) (p : ℕ) (xs ys : List A) → p + length xs ≤ length o → put (put o p xs) (p + length xs) ys ≡ put o p (xs ++ ys)
  unfolding put
  put-put o p xs ys h =
      let rest : drop (p + length xs + length ys) (put o p xs) ≡ drop (p + length (xs ++ ys)) o =
      drop-put o p xs (p + length xs + length ys) (omega arith) (omega arith)
      ∙ ap (λ n. drop n o) (add_assoc p (length xs) (length ys) ∙ ap (p +◌) (sym (length-append xs ys))) in
      ap₂ (λ v w. v ++ (ys ++ w)) (take-put-end o p xs (omega arith)) rest
      ∙ append_assoc (take p o) xs (ys ++ drop (p + length (xs ++ ys)) o)
      ∙ ap (take p o ++◌) (sym (append_assoc xs ys (drop (p + length (xs ++ ys)) o)))

  -- a store as a write of one element
  pub set-is-put : (o : List A) (p : ℕ) (a : A) → p < length o → set o p a ≡ put o p (a ∷ [])
  unfolding put
  set-is-put o p a h = set_split o p a h ∙ ap (λ n. take p o ++ (a ∷ drop n o)) (sym (add-one p))

  pub set-put : (o : List A) (p : ℕ) (xs : List A) (a : A) → p + length xs < length o → set (put o p xs) (p + length xs) a ≡ put o p (xs ++ (a ∷ []))
  set-put o p xs a h = set-is-put (put o p xs) (p + length xs) a (let n = length-put o p xs (omega arith) in omega arith)
      ∙ put-put o p xs (a ∷ []) (omega arith)

  pub put-sets : (o : List A) (p : ℕ) (xs : List A) → p + length xs ≤ length o → sets o p xs ≡ put o p xs
  put-sets o p xs h = sets-eq xs o p h ∙ sym (put-parts o p xs)

  -- what is read back
  pub get_d-put-before : (o : List A) (p : ℕ) (xs : List A) (i : ℕ) (d : A) → i < p → p ≤ length o → get_or (put o p xs) i d ≡ get_or o i d
  unfolding put
  get_d-put-before o p xs i d h k = get_or-append (take p o) (xs ++ drop (p + length xs) o) d i (let e = length-take-le p o k in omega arith)
      ∙ get_or-take p o i d h

  pub get_d-put : (o : List A) (p : ℕ) (xs : List A) (i : ℕ) (d : A) → i < length xs → p ≤ length o → get_or (put o p xs) (p + i) d ≡ get_or xs i d
  get_d-put o p xs i d h k = sym (get_or-drop p (put o p xs) i d) ∙ sym (get_or-take (length xs) (drop p (put o p xs)) i d h)
      ∙ ap (λ l. get_or l i d) (put_written o p xs k)

  pub get_d-put-after : (o : List A) (p : ℕ) (xs : List A) (i : ℕ) (d : A) → p + length xs ≤ i → p ≤ length o → get_or (put o p xs) i d ≡ get_or o i d
  get_d-put-after o p xs i d h k =
      ap (λ n. get_or (put o p xs) n d) (sym (add-zero i)) ∙ sym (get_or-drop i (put o p xs) 0 d) ∙ ap (λ l. get_or l 0 d) (drop-put o p xs i h k)
      ∙ get_or-drop i o 0 d ∙ ap (λ n. get_or o n d) (add-zero i)

-- ---- the numbers of rows

pub row_next : (w j : ℕ) → j * w + w ≡ (j + 1) * w
row_next w j = rw (add-one j, suc-mul j w)

-- a row ends where n rows do, or before
pub row_fits : (w j n : ℕ) → j < n → j * w + w ≤ n * w
row_fits w j n h = rw (← (suc-mul j w)) (mul-le-mul_right w h)

-- a row and a place in it are determined
pub row-unique : (w o p x y : ℕ) → x < w → y < w → o * w + x ≡ p * w + y → (o ≡ p) × (x ≡ y)
row-unique w o p x y h k e = elim (dec_lt o p) [
  | yes l ↦ absurd (omega (arith, row_fits w o p l))
  | no f ↦ elim (dec_lt p o) [
    | yes l ↦ absurd (omega (arith, row_fits w p o l))
    | no g ↦ let q : o ≡ p = omega arith in (q, omega (arith, ap (λ (t : ℕ). t * w) q))
  ]
]

-- ---- rows

module _ {ℓ} {A : Type ℓ} (w : ℕ) where
  pub length-rows : (n : ℕ) (l : List A) → length (rows w n l) ≡ n
  unfolding rows
  length-rows zero l = refl
  length-rows (suc n) l = ap suc (length-rows n (drop w l))

  drop-row : (j : ℕ) (l : List A) → drop (j * w) (drop w l) ≡ drop (suc j * w) l
  drop-row j l = drop-drop (j * w) w l ∙ ap (λ n. drop n l) (add_comm w (j * w) ∙ sym (suc-mul j w))

  pub rows-suc : (n : ℕ) (l : List A) → rows w (suc n) l ≡ rows w n l ++ (take w (drop (n * w) l) ∷ [])
  unfolding rows
  rows-suc zero l = rw (zero-mul w)
  rows-suc (suc n) l = ap (take w l ∷◌) (rows-suc n (drop w l) ∙ ap (λ r. rows w n (drop w l) ++ (take w r ∷ [])) (drop-row n l))

  pub rows-get_d : (n : ℕ) (l : List A) (j : ℕ) (d : List A) → j < n → get_or (rows w n l) j d ≡ take w (drop (j * w) l)
  unfolding rows
  rows-get_d zero l j d h = absurd (omega arith)
  rows-get_d (suc n) l zero d h = rw (zero-mul w)
  rows-get_d (suc n) l (suc j) d h = rows-get_d n (drop w l) j d (omega arith) ∙ ap (take w) (drop-row j l)

  -- lists with one front
  pub rows-front : (n : ℕ) (l m : List A) → take (n * w) l ≡ take (n * w) m → rows w n l ≡ rows w n m
  unfolding rows
  rows-front zero l m e = refl
  rows-front (suc n) l m e =
      let k : suc n * w ≡ w + n * w = suc-mul n w ∙ add_comm (n * w) w in
      let f : take (w + n * w) l ≡ take (w + n * w) m = subst (λ i. take i l ≡ take i m) k e in
      ap₂ ◌∷◌ (sym (take-take w (w + n * w) l (omega arith)) ∙ ap (take w) f ∙ take-take w (w + n * w) m (omega arith))
      (rows-front n (drop w l) (drop w m) (sym (drop-take w (n * w) l) ∙ ap (drop w) f ∙ drop-take w (n * w) m))

  pub rows_take : (n : ℕ) (l : List A) (k : ℕ) → n * w ≤ k → rows w n (take k l) ≡ rows w n l
  rows_take n l k h = rows-front n (take k l) l (take-take (n * w) k l h)

  pub rows_append : (n : ℕ) (l m : List A) → n * w ≤ length l → rows w n (l ++ m) ≡ rows w n l
  rows_append n l m h = rows-front n (l ++ m) l (take-append-le (n * w) l m h)

  -- a list changed past the rows
  pub rows-set : (n : ℕ) (l : List A) (i : ℕ) (a : A) → n * w ≤ i → rows w n (set l i a) ≡ rows w n l
  rows-set n l i a h = rows-front n (set l i a) l (take-set-le (n * w) l i a h)

  pub rows-put : (n : ℕ) (l : List A) (p : ℕ) (xs : List A) → n * w ≤ p → p ≤ length l → rows w n (put l p xs) ≡ rows w n l
  rows-put n l p xs h k = rows-front n (put l p xs) l (take_put l p xs (n * w) h k)

  -- a row written after the rows
  pub rows-put-next : (n : ℕ) (l xs : List A) → length xs ≡ w → n * w ≤ length l → rows w (suc n) (put l (n * w) xs) ≡ rows w n l ++ (xs ∷ [])
  rows-put-next n l xs e h = rows-suc n (put l (n * w) xs)
      ∙ ap₂ (λ r x. r ++ (x ∷ [])) (rows-put n l (n * w) xs (omega arith) h) (ap (λ k. take k (drop (n * w) (put l (n * w) xs))) (sym e)
      ∙ put_written l (n * w) xs h)

  -- joined again
  pub flat_map-rows : (n : ℕ) (l : List A) → flat_map (λ r. r) (rows w n l) ≡ take (n * w) l
  unfolding rows flat_map
  flat_map-rows zero l = rw (zero-mul w)
  flat_map-rows (suc n) l = ap (take w l ++◌) (flat_map-rows n (drop w l)) ∙ sym (take-add w (n * w) l)
      ∙ ap (λ k. take k l) (add_comm w (n * w) ∙ sym (suc-mul n w))

module _ {A : Type 0} (w : ℕ) where
  pub rows-width : (n : ℕ) (l : List A) → n * w ≤ length l → All (λ r. length r ≡ w) (rows w n l)
  unfolding rows
  rows-width zero l h = all_nil (λ r. length r ≡ w)
  rows-width (suc n) l h = let k = suc-mul n w in
      all_cons (λ r. length r ≡ w) (length-take-le w l (omega arith)) (rows-width n (drop w l) (simp length-drop (omega arith)))

  -- the rows of joined parts are the parts
  pub rows-flat_map : {B : Type 0} (f : B → List A) (l : List B) → ((x : B) → Mem x l → length (f x) ≡ w) → rows w (length l) (flat_map f l) ≡ map f l
  unfolding rows flat_map
  rows-flat_map f [] h = refl
  rows-flat_map f (x ∷ l) h = let e = h x (Memᴰ.head refl) in
      ap₂ ◌∷◌ (take_at (f x) (flat_map f l) w e) (ap (rows w (length l)) (drop_at (f x) (flat_map f l) w e)
      ∙ rows-flat_map f l (λ y m. h y (Memᴰ.tail m)))
