-- Accesses that were laid read back. In order: one that is there; lengths and what stays; rows of words; small numbers.
use mathlib.Core.Path.{◌≡◌, refl, sym, ap, ap₂, ◌∙◌}
use mathlib.Core.List.Memᴰ
use mathlib.Core.List.{List, [], ◌∷◌, map}
use Prim.Native.Nat.{ℕ, zero, suc, ◌+◌, ◌*◌, ◌≤◌, ◌<◌}
use native.Mathlib.Omega.{arith}
use native.Mathlib.Nat.{add-zero}
use lib.IntN.{ℤ, pos}
use lib.ListN.{length, get_or, take, drop, length-map, get_or-map}
use Rattle.lists.specs.Membership.{All}
use Rattle.lists.proofs.MembershipLaws.{all_cons, all_get_d, map-all}
use Rattle.model.specs.Ticket.{Subscript, Access}
use Rattle.model.specs.Ranges.{Small, SubscriptRanges, AccessRanges}
use Rattle.model.specs.Grammar.{access_room}
use Rattle.nest_flat.specs.Layout.{form_at, forms_from, access_at, accesses_from}
use Rattle.ticket_arrays.specs.Laid.{lay_rows}
use Rattle.ticket_loops.specs.Laid.{affine_words}
use Rattle.ticket_statements.specs.Laid.{lay_access, lay_accesses}
use Rattle.ticket_arrays.proofs.RowLaws.{part-front, part-head, part-tail, rows-length, rows-front, rows_all, rows_at}

-- ---- an access whose words are there

by-numbers : (c : ℤ) (cs : List ℤ) (s : Subscript) → c ≡ s.constant → cs ≡ s.coefficients
    → ◌≡◌ {A = Subscript} (record { constant = c; coefficients = cs }) s
by-numbers c cs s p q = rw (p, q)

by-subscripts : (i : ℕ) (ss : List Subscript) (a : Access) → i ≡ a.array → ss ≡ a.subscripts
    → ◌≡◌ {A = Access} (record { array = i; subscripts = ss }) a
by-subscripts i ss a p q = rw (p, q)

-- the words of subscript j of all
abbrev pub words_at : List ℤ → ℕ → ℕ → List ℤ
words_at w n j = take (suc n) (drop (j * 8) w)

form-back : (w : List ℤ) (n j : ℕ) (s : Subscript) → words_at w n j ≡ affine_words s → form_at w n j ≡ s
unfolding form_at affine_words
form-back w n j s e =
    by-numbers (get_or w (j * 8) (pos 0)) (take n (drop (j * 8 + 1) w)) s (part-head (j * 8) n w s.constant s.coefficients (pos 0) e)
    (part-tail (j * 8) n w s.constant s.coefficients e)

pub no-subscript : Subscript
no-subscript = record { constant = pos 0; coefficients = [] }

forms-back : (w : List ℤ) (n j : ℕ) (ss : List Subscript) → ((d : ℕ) → d < length ss → words_at w n (j + d) ≡ affine_words (get_or ss d no-subscript))
    → forms_from w n j (length ss) ≡ ss
unfolding forms_from
forms-back w n j [] h = refl
forms-back w n j (s ∷ ss) h =
    ap₂ ◌∷◌ (form-back w n j s (ap (words_at w n) (sym (add-zero j)) ∙ h 0 (omega arith)))
    (forms-back w n (suc j) ss (λ d g. let e : suc j + d ≡ j + suc d = omega arith in ap (words_at w n) e ∙ h (suc d) (omega arith)))

pub access-back : (w : List ℤ) (o a : List ℕ) (n k : ℕ) (x : Access) → get_or o k 0 ≡ x.array → get_or a (x.array * 4) 0 ≡ length x.subscripts
    → ((d : ℕ) → d < length x.subscripts → words_at w n (k * 3 + d) ≡ affine_words (get_or x.subscripts d no-subscript)) → access_at w o a n k ≡ x
unfolding access_at
access-back w o a n k x p q h =
    by-subscripts (get_or o k 0) (forms_from w n (k * 3) (get_or a (get_or o k 0 * 4) 0)) x p
    (ap (forms_from w n (k * 3)) (ap (λ i. get_or a (i * 4) 0) p ∙ q) ∙ forms-back w n (k * 3) x.subscripts h)

pub accesses-back : (w : List ℤ) (o a : List ℕ) (n k : ℕ) (xs : List Access) (d : Access)
    → ((i : ℕ) → i < length xs → access_at w o a n (k + i) ≡ get_or xs i d) → accesses_from w o a n k (length xs) ≡ xs
unfolding accesses_from
accesses-back w o a n k [] d h = refl
accesses-back w o a n k (x ∷ xs) d h =
    ap₂ ◌∷◌ (ap (access_at w o a n) (sym (add-zero k)) ∙ h 0 (omega arith))
    (accesses-back w o a n (suc k) xs d (λ i g. let e : suc k + i ≡ k + suc i = omega arith in ap (access_at w o a n) e ∙ h (suc i) (omega arith)))

-- ---- accesses of nests of n loops

pub record Wide (n : ℕ) (a : Access) : Type 0 where
  pub few : length a.subscripts ≤ 3
  pub wide : All (λ (s : Subscript). length s.coefficients ≡ n) a.subscripts

module _ (n : ℕ) (shallow : n ≤ 6) where
  module _ (s : List ℤ) (k : ℕ) (a : Access) (p : Wide n a) (h : (k + 1) * access_room ≤ length s) where
    short : All (λ (x : List ℤ). length x ≤ 8) (map affine_words a.subscripts)
    unfolding affine_words
    short = map-all affine_words (λ (x : Subscript). length x.coefficients ≡ n) (λ x. length x ≤ 8) a.subscripts (λ x e. omega arith) p.wide

    fits : (k * 3 + length (map affine_words a.subscripts)) * 8 ≤ length s
    fits = let f = p.few in let m = length-map a.subscripts affine_words in omega arith

    access-length : length (lay_access s k a) ≡ length s
    unfolding lay_access
    access-length = rows-length 8 s (k * 3) (map affine_words a.subscripts) short fits

    access-front : (m : ℕ) → m ≤ k * access_room → take m (lay_access s k a) ≡ take m s
    unfolding lay_access
    access-front m g = rows-front 8 s (k * 3) (map affine_words a.subscripts) m (omega arith) short fits

    access-at : (d : ℕ) → d < length a.subscripts → words_at (lay_access s k a) n (k * 3 + d) ≡ affine_words (get_or a.subscripts d no-subscript)
    unfolding lay_access affine_words
    access-at d g =
        let x = get_or a.subscripts d no-subscript in
        let m : get_or (map affine_words a.subscripts) d (affine_words no-subscript) ≡ affine_words x = get_or-map affine_words a.subscripts d
        no-subscript in
        let r = length-map a.subscripts affine_words in
        let l : suc n ≡ length (affine_words x) = ap suc (sym (all_get_d (λ (y : Subscript). length y.coefficients ≡ n) a.subscripts d
        no-subscript p.wide g)) in
        ap (λ i. take i (drop ((k * 3 + d) * 8) (lay_rows 8 s (k * 3) (map affine_words a.subscripts)))) (l ∙ ap length (sym m))
        ∙ rows_at 8 s (k * 3) (map affine_words a.subscripts) short fits d (affine_words no-subscript) (omega arith)
        ∙ m

  pub accesses-length : (s : List ℤ) (k : ℕ) (xs : List Access) → All (Wide n) xs → (k + length xs) * access_room ≤ length s
      → length (lay_accesses s k xs) ≡ length s
  unfolding lay_accesses
  accesses-length s k [] p h = refl
  accesses-length s k (x ∷ xs) p h =
      let e = access-length s k x (p x (Memᴰ.head refl)) (omega arith) in
      accesses-length (lay_access s k x) (suc k) xs (λ y m. p y (Memᴰ.tail m)) (omega arith) ∙ e

  accesses-front : (s : List ℤ) (k : ℕ) (xs : List Access) (m : ℕ) → m ≤ k * access_room → All (Wide n) xs → (k + length xs) * access_room ≤ length s
      → take m (lay_accesses s k xs) ≡ take m s
  unfolding lay_accesses
  accesses-front s k [] m g p h = refl
  accesses-front s k (x ∷ xs) m g p h =
      let q = p x (Memᴰ.head refl) in
      let e = access-length s k x q (omega arith) in
      accesses-front (lay_access s k x) (suc k) xs m (omega arith) (λ y i. p y (Memᴰ.tail i)) (omega arith)
      ∙ access-front s k x q (omega arith) m g

  -- the words of subscript d of access i
  pub accesses-at : (s : List ℤ) (k : ℕ) (xs : List Access) → All (Wide n) xs → (k + length xs) * access_room ≤ length s → (i : ℕ) (b : Access)
      → i < length xs
      → (d : ℕ) → d < length (get_or xs i b).subscripts → words_at (lay_accesses s k xs) n ((k + i) * 3 + d) ≡ affine_words
      (get_or (get_or xs i b).subscripts d no-subscript)
  unfolding lay_accesses
  accesses-at s k [] p h i b g d r = absurd (omega arith)
  accesses-at s k (x ∷ xs) p h zero b g d r =
      let q = p x (Memᴰ.head refl) in
      let f = q.few in
      let e = access-length s k x q (omega arith) in
      ap (λ t. words_at (lay_accesses (lay_access s k x) (suc k) xs) n (t * 3 + d)) (add-zero k)
      ∙ part-front (suc k * access_room) (lay_accesses (lay_access s k x) (suc k) xs) (lay_access s k x) ((k * 3 + d) * 8) (suc n)
      (accesses-front (lay_access s k x) (suc k) xs (suc k * access_room) (omega arith) (λ y m. p y (Memᴰ.tail m)) (omega arith)) (omega arith)
      ∙ access-at s k x q (omega arith) d r
  accesses-at s k (x ∷ xs) p h (suc i) b g d r =
      let e = access-length s k x (p x (Memᴰ.head refl)) (omega arith) in
      let m : k + suc i ≡ suc k + i = omega arith in
      ap (λ t. words_at (lay_accesses (lay_access s k x) (suc k) xs) n (t * 3 + d)) m
      ∙ accesses-at (lay_access s k x) (suc k) xs (λ y j. p y (Memᴰ.tail j)) (omega arith) i b (omega arith) d r

-- ---- small numbers

pub accesses-small : (s : List ℤ) (k : ℕ) (xs : List Access) → All Small s → All AccessRanges xs → All Small (lay_accesses s k xs)
unfolding lay_accesses lay_access affine_words
accesses-small s k [] p r = p
accesses-small s k (x ∷ xs) p r =
    accesses-small (lay_access s k x) (suc k) xs
    (rows_all 8 Small s (k * 3) (map affine_words x.subscripts) p
    (map-all affine_words SubscriptRanges (λ l. All Small l) x.subscripts (λ y q. all_cons Small q.constant q.coefficients)
    (r x (Memᴰ.head refl))))
    (λ y m. r y (Memᴰ.tail m))
