-- Rows laid over a list (`lay_rows`), each shorter than the place that it has. In order: a property of every element; parts; one more; what
-- stays; a row read back.
use mathlib.Core.Path.{◌≡◌, refl, sym, ap, ◌∙◌, subst}
use mathlib.Core.List.Memᴰ
use mathlib.Core.List.{List, [], ◌∷◌, ◌++◌}
use Prim.Native.Nat.{ℕ, zero, suc, ◌+◌, ◌*◌, ◌-◌, ◌≤◌, ◌<◌}
use native.Mathlib.Omega.{arith}
use native.Mathlib.Nat.{add-zero, suc-mul}
use lib.ListN.{length, get_or, take, drop, replicate}
use lib.Seq.{take-take, drop-drop, get_or-drop, get_or-take}
use Rattle.lists.specs.Membership.{All}
use Rattle.lists.specs.Parts.{put}
use Rattle.lists.proofs.MembershipLaws.{all_nil, all_cons, all_append, all_take, all_drop}
use Rattle.lists.proofs.PartLaws.{drop-take, take_put, put_written, length-put, row_fits}
use Rattle.ticket_arrays.specs.Laid.{lay_rows}

-- ---- a property of every element

pub all_replicate : {A : Type 0} (P : A → Type 0) (n : ℕ) (x : A) → P x → All P (replicate n x)
all_replicate P zero x h = all_nil P
all_replicate P (suc n) x h = all_cons P h (all_replicate P n x h)

pub all-put : {A : Type 0} (P : A → Type 0) (o : List A) (p : ℕ) (xs : List A) → All P o → All P xs → All P (put o p xs)
unfolding put
all-put P o p xs g h = all_append P (take p o) (xs ++ drop (p + length xs) o) (all_take P p o g)
    (all_append P xs (drop (p + length xs) o) h (all_drop P (p + length xs) o g))

-- a part of a front
pub part-take : {A : Type 0} (p n m : ℕ) (l : List A) → p + n ≤ m → take n (drop p (take m l)) ≡ take n (drop p l)
part-take p n m l h =
    let r = m - p in
    let e : m ≡ p + r = omega arith in
    ap (λ i. take n (drop p (take i l))) e ∙ ap (take n) (drop-take p r l) ∙ take-take n r (drop p l) (omega arith)

pub part-front : {A : Type 0} (m : ℕ) (s t : List A) (p n : ℕ) → take m s ≡ take m t → p + n ≤ m → take n (drop p s) ≡ take n (drop p t)
part-front m s t p n e h = sym (part-take p n m s h) ∙ ap (λ l. take n (drop p l)) e ∙ part-take p n m t h

-- the first element of a part and the others
pub part-head : {A : Type 0} (p n : ℕ) (l : List A) (x : A) (xs : List A) (d : A) → take (suc n) (drop p l) ≡ x ∷ xs → get_or l p d ≡ x
part-head p n l x xs d e =
    ap (λ i. get_or l i d) (sym (add-zero p)) ∙ sym (get_or-drop p l 0 d) ∙ sym (get_or-take (suc n) (drop p l) 0 d (omega arith)) ∙ ap (λ t. get_or t 0 d) e

pub part-tail : {A : Type 0} (p n : ℕ) (l : List A) (x : A) (xs : List A) → take (suc n) (drop p l) ≡ x ∷ xs → take n (drop (p + 1) l) ≡ xs
part-tail p n l x xs e =
    let s : suc n ≡ 1 + n = omega arith in
    ap (take n) (sym (drop-drop 1 p l)) ∙ sym (drop-take 1 n (drop p l)) ∙ ap (λ i. drop 1 (take i (drop p l))) (sym s) ∙ ap (drop 1) e

module _ {A : Type 0} (w : ℕ) where
  pub rows_more : (s : List A) (j : ℕ) (xs : List (List A)) (x : List A)
      → lay_rows w s j (xs ++ (x ∷ [])) ≡ put (lay_rows w s j xs) ((j + length xs) * w) x
  unfolding lay_rows
  rows_more s j [] x = ap (λ n. put s (n * w) x) (sym (add-zero j))
  rows_more s j (y ∷ xs) x =
      let e : suc j + length xs ≡ j + suc (length xs) = omega arith in
      rows_more (put s (j * w) y) (suc j) xs x ∙ ap (λ n. put (lay_rows w (put s (j * w) y) (suc j) xs) (n * w) x) e

  pub rows_all : (P : A → Type 0) (s : List A) (j : ℕ) (xs : List (List A)) → All P s → All (All P) xs → All P (lay_rows w s j xs)
  unfolding lay_rows
  rows_all P s j [] g h = g
  rows_all P s j (x ∷ xs) g h = rows_all P (put s (j * w) x) (suc j) xs (all-put P s (j * w) x g (h x (Memᴰ.head refl)))
      (λ y m. h y (Memᴰ.tail m))

  next_fits : (s : List A) (j n : ℕ) → (j + suc n) * w ≤ length s → (suc j + n) * w ≤ length s
  next_fits s j n h = let e : suc j + n ≡ j + suc n = omega arith in subst (λ (i : ℕ). i * w ≤ length s) (sym e) h

  first_fits : (s : List A) (j n : ℕ) → (j + suc n) * w ≤ length s → j * w + w ≤ length s
  first_fits s j n h = let k = row_fits w j (j + suc n) (omega arith) in omega arith

  module _ (s : List A) (j : ℕ) (x : List A) (short : length x ≤ w) (h : j * w + w ≤ length s) where
    row-length : length (put s (j * w) x) ≡ length s
    row-length = length-put s (j * w) x (omega arith)

    row-front : (m : ℕ) → m ≤ j * w → take m (put s (j * w) x) ≡ take m s
    row-front m g = take_put s (j * w) x m g (omega arith)

  pub rows-length : (s : List A) (j : ℕ) (xs : List (List A)) → All (λ x. length x ≤ w) xs → (j + length xs) * w ≤ length s
      → length (lay_rows w s j xs) ≡ length s
  unfolding lay_rows
  rows-length s j [] a h = refl
  rows-length s j (x ∷ xs) a h =
      let e = row-length s j x (a x (Memᴰ.head refl)) (first_fits s j (length xs) h) in
      let f = next_fits s j (length xs) h in
      rows-length (put s (j * w) x) (suc j) xs (λ y m. a y (Memᴰ.tail m)) (omega arith) ∙ e

  pub rows-front : (s : List A) (j : ℕ) (xs : List (List A)) (m : ℕ) → m ≤ j * w → All (λ x. length x ≤ w) xs → (j + length xs) * w ≤ length s
      → take m (lay_rows w s j xs) ≡ take m s
  unfolding lay_rows
  rows-front s j [] m g a h = refl
  rows-front s j (x ∷ xs) m g a h =
      let p = first_fits s j (length xs) h in
      let e = row-length s j x (a x (Memᴰ.head refl)) p in
      let f = next_fits s j (length xs) h in
      let n = suc-mul j w in
      rows-front (put s (j * w) x) (suc j) xs m (omega arith) (λ y i. a y (Memᴰ.tail i)) (omega arith)
      ∙ row-front s j x (a x (Memᴰ.head refl)) p m g

  row_back : (s : List A) (j : ℕ) (x : List A) (xs : List (List A)) → All (λ y. length y ≤ w) (x ∷ xs) → (j + suc (length xs)) * w ≤ length s
      → take (length x) (drop (j * w) (lay_rows w s j (x ∷ xs))) ≡ x
  unfolding lay_rows
  row_back s j x xs a h =
      let p = first_fits s j (length xs) h in
      let q = a x (Memᴰ.head refl) in
      let e = row-length s j x q p in
      let f = next_fits s j (length xs) h in
      let n = suc-mul j w in
      part-front (suc j * w) (lay_rows w (put s (j * w) x) (suc j) xs) (put s (j * w) x) (j * w) (length x)
      (rows-front (put s (j * w) x) (suc j) xs (suc j * w) (omega arith) (λ y i. a y (Memᴰ.tail i)) (omega arith)) (omega arith)
      ∙ put_written s (j * w) x (omega arith)

  -- row i, also of a front that holds them all
  pub rows_at : (s : List A) (j : ℕ) (xs : List (List A)) → All (λ y. length y ≤ w) xs → (j + length xs) * w ≤ length s → (i : ℕ) (d : List A)
      → i < length xs
      → take (length (get_or xs i d)) (drop ((j + i) * w) (lay_rows w s j xs)) ≡ get_or xs i d
  unfolding lay_rows
  rows_at s j [] a h i d g = absurd (omega arith)
  rows_at s j (x ∷ xs) a h zero d g = ap (λ n. take (length x) (drop (n * w) (lay_rows w s j (x ∷ xs)))) (add-zero j) ∙ row_back s j x xs a h
  rows_at s j (x ∷ xs) a h (suc i) d g =
      let e = row-length s j x (a x (Memᴰ.head refl)) (first_fits s j (length xs) h) in
      let f = next_fits s j (length xs) h in
      let n : j + suc i ≡ suc j + i = omega arith in
      ap (λ m. take (length (get_or xs i d)) (drop (m * w) (lay_rows w (put s (j * w) x) (suc j) xs))) n
      ∙ rows_at (put s (j * w) x) (suc j) xs (λ y m. a y (Memᴰ.tail m)) (omega arith) i d (omega arith)
