-- Laws of a change at a place. In order: `under` by its change, with its length; its parts and its elements; a change of one element;
-- two exchanged; several results (`under_each`).
use mathlib.Core.Path.{◌≡◌, refl, sym, ap, ◌∙◌, subst}
use mathlib.Core.List.Memᴰ
use mathlib.Core.List.{List, [], ◌∷◌, ◌++◌, map, map-id, map-map}
use Prim.Native.Nat.{ℕ, zero, suc, ◌+◌, ◌≤◌, ◌<◌}
use native.Mathlib.Nat.{zero-add, suc-add}
use native.Mathlib.Omega.{arith}
use lib.ListN.{length, get_or, take, drop, set}
use lib.Seq.{get_or-set_same, get_or-set_other}
use Rattle.lists.specs.Membership.{Mem}
use Rattle.lists.specs.Place.{under, under_each, on_head, swapped}

-- ---- a change that begins at place n

module _ {ℓ} {A : Type ℓ} (f : List A → List A) where
  pub under-length : ((l : List A) → length (f l) ≡ length l) → (n : ℕ) (l : List A) → length (under n f l) ≡ length l
  unfolding under
  under-length h zero l = h l
  under-length h (suc n) [] = refl
  under-length h (suc n) (x ∷ l) = ap suc (under-length h n l)

  pub under-under : (n m : ℕ) (l : List A) → under n (under m f) l ≡ under (n + m) f l
  unfolding under
  under-under zero m l = rw (zero-add m)
  under-under (suc n) m [] = rw (suc-add n m)
  under-under (suc n) m (x ∷ l) = rw (suc-add n m) (ap (x ∷◌) (under-under n m l))

  -- changes that are equal on what stands from the place on
  pub under-same-at : (g : List A → List A) (n : ℕ) (l : List A) → (n ≤ length l → f (drop n l) ≡ g (drop n l)) → under n f l ≡ under n g l
  unfolding under
  under-same-at g zero l h = h (omega arith)
  under-same-at g (suc n) [] h = refl
  under-same-at g (suc n) (x ∷ l) h = ap (x ∷◌) (under-same-at g n l (λ k. h (omega arith)))

  pub under_same : (g : List A → List A) → ((l : List A) → f l ≡ g l) → (n : ℕ) (l : List A) → under n f l ≡ under n g l
  under_same g h n l = under-same-at g n l (λ _. h (drop n l))

  pub under-compose : (g : List A → List A) (n : ℕ) (l : List A) → under n f (under n g l) ≡ under n (λ t. f (g t)) l
  unfolding under
  under-compose g zero l = refl
  under-compose g (suc n) [] = refl
  under-compose g (suc n) (x ∷ l) = ap (x ∷◌) (under-compose g n l)

pub under_none {ℓ} : {A : Type ℓ} (n : ℕ) (l : List A) → under n (λ t. t) l ≡ l
unfolding under
under_none zero l = refl
under_none (suc n) [] = refl
under_none (suc n) (x ∷ l) = ap (x ∷◌) (under_none n l)

module _ {ℓ} {A : Type ℓ} (f g : List A → List A) where
  -- f undoes g on what stands from the place on
  pub under-inverse-at : (n : ℕ) (l : List A) → (n ≤ length l → f (g (drop n l)) ≡ drop n l) → under n f (under n g l) ≡ l
  under-inverse-at n l h = under-compose f g n l ∙ under-same-at (λ t. f (g t)) (λ t. t) n l h ∙ under_none n l

  pub under-inverse : ((l : List A) → f (g l) ≡ l) → (n : ℕ) (l : List A) → under n f (under n g l) ≡ l
  under-inverse h n l = under-inverse-at n l (λ _. h (drop n l))

-- of two lists of one length, each with its change
pub under-lengths : {A B : Type 0} (f : List A → List A) (g : List B → List B)
    → ((l : List A) (m : List B) → length l ≡ length m → length (f l) ≡ length (g m))
    → (n : ℕ) (l : List A) (m : List B) → length l ≡ length m → length (under n f l) ≡ length (under n g m)
unfolding under
under-lengths f g h zero l m e = h l m e
under-lengths f g h (suc n) [] [] e = refl
under-lengths f g h (suc n) [] (y ∷ m) e = absurd (omega arith)
under-lengths f g h (suc n) (x ∷ l) [] e = absurd (omega arith)
under-lengths f g h (suc n) (x ∷ l) (y ∷ m) e = ap suc (under-lengths f g h n l m (omega arith))

-- a change that adds one element
pub under-longer : {A : Type 0} (f : List A → List A) → ((x : A) (l : List A) → length (f (x ∷ l)) ≡ suc (suc (length l))) → (n : ℕ) (l : List A)
    → n < length l → length (under n f l) ≡ suc (length l)
unfolding under
under-longer f h n [] e = absurd (omega arith)
under-longer f h zero (x ∷ l) e = h x l
under-longer f h (suc n) (x ∷ l) e = ap suc (under-longer f h n l (omega arith))

-- ---- its parts and its elements

module _ {ℓ} {A : Type ℓ} (f : List A → List A) where
  pub under_split : (n : ℕ) (l : List A) → n ≤ length l → under n f l ≡ take n l ++ f (drop n l)
  unfolding under
  under_split zero l h = refl
  under_split (suc n) [] h = absurd (omega arith)
  under_split (suc n) (x ∷ l) h = ap (x ∷◌) (under_split n l (omega arith))

  -- at the end of a front
  pub under-append : (p q : List A) → under (length p) f (p ++ q) ≡ p ++ f q
  unfolding under
  under-append [] q = refl
  under-append (x ∷ p) q = ap (x ∷◌) (under-append p q)

  pub under-beyond : (n : ℕ) (l : List A) → length l < n → under n f l ≡ l
  unfolding under
  under-beyond zero l h = absurd (omega arith)
  under-beyond (suc n) [] h = refl
  under-beyond (suc n) (x ∷ l) h = ap (x ∷◌) (under-beyond n l (omega arith))

  pub take-under : (m n : ℕ) (l : List A) → m ≤ n → take m (under n f l) ≡ take m l
  unfolding under
  take-under zero n l h = refl
  take-under (suc m) zero l h = absurd (omega arith)
  take-under (suc m) (suc n) [] h = refl
  take-under (suc m) (suc n) (x ∷ l) h = ap (x ∷◌) (take-under m n l (omega arith))

  pub drop-under : (n : ℕ) (l : List A) → n ≤ length l → drop n (under n f l) ≡ f (drop n l)
  unfolding under
  drop-under zero l h = refl
  drop-under (suc n) [] h = absurd (omega arith)
  drop-under (suc n) (x ∷ l) h = drop-under n l (omega arith)

  pub get_d-under-before : (n : ℕ) (l : List A) (i : ℕ) (d : A) → i < n → get_or (under n f l) i d ≡ get_or l i d
  unfolding under
  get_d-under-before zero l i d h = absurd (omega arith)
  get_d-under-before (suc n) [] i d h = refl
  get_d-under-before (suc n) (x ∷ l) zero d h = refl
  get_d-under-before (suc n) (x ∷ l) (suc i) d h = get_d-under-before n l i d (omega arith)

  pub get_d-under : (n : ℕ) (l : List A) (i : ℕ) (d : A) → n ≤ length l → get_or (under n f l) (n + i) d ≡ get_or (f (drop n l)) i d
  unfolding under
  get_d-under zero l i d h = rw (zero-add i)
  get_d-under (suc n) [] i d h = absurd (omega arith)
  get_d-under (suc n) (x ∷ l) i d h = rw (suc-add n i) (get_d-under n l i d (omega arith))

-- ---- one element

module _ {ℓ} {A : Type ℓ} (f : A → A) where
  pub length-on_head : (l : List A) → length (on_head f l) ≡ length l
  unfolding on_head
  length-on_head [] = refl
  length-on_head (x ∷ l) = refl

  pub on_head-inverse : (g : A → A) → ((x : A) → f (g x) ≡ x) → (l : List A) → on_head f (on_head g l) ≡ l
  unfolding on_head
  on_head-inverse g h [] = refl
  on_head-inverse g h (x ∷ l) = ap (◌∷ l) (h x)

  -- as a store
  pub under-on_head : (n : ℕ) (l : List A) (d : A) → under n (on_head f) l ≡ set l n (f (get_or l n d))
  unfolding under on_head
  under-on_head zero [] d = refl
  under-on_head zero (x ∷ l) d = refl
  under-on_head (suc n) [] d = refl
  under-on_head (suc n) (x ∷ l) d = ap (x ∷◌) (under-on_head n l d)

  pub get_d-on_head : (n : ℕ) (l : List A) (d : A) → n < length l → get_or (under n (on_head f) l) n d ≡ f (get_or l n d)
  get_d-on_head n l d h = ap (λ w. get_or w n d) (under-on_head n l d) ∙ get_or-set_same l n (f (get_or l n d)) d h

  pub get_d-on_head-other : (n : ℕ) (l : List A) (i : ℕ) (d : A) → (i ≡ n → ⊥) → get_or (under n (on_head f) l) i d ≡ get_or l i d
  get_d-on_head-other n l i d h = ap (λ w. get_or w i d) (under-on_head n l d) ∙ get_or-set_other l n i (f (get_or l n d)) d h

-- ---- two exchanged

module _ {ℓ} {A : Type ℓ} where
  pub swapped-swapped : (l : List A) → swapped (swapped l) ≡ l
  unfolding swapped
  swapped-swapped [] = refl
  swapped-swapped (x ∷ []) = refl
  swapped-swapped (x ∷ y ∷ l) = refl

  pub length-swapped : (l : List A) → length (swapped l) ≡ length l
  unfolding swapped
  length-swapped [] = refl
  length-swapped (x ∷ []) = refl
  length-swapped (x ∷ y ∷ l) = refl

  -- as two stores
  pub under-swapped : (n : ℕ) (l : List A) (d : A) → suc n < length l → under n swapped l ≡ set (set l n (get_or l (suc n) d)) (suc n) (get_or l n d)
  unfolding under swapped
  under-swapped n [] d h = absurd (omega arith)
  under-swapped zero (x ∷ []) d h = absurd (omega arith)
  under-swapped zero (x ∷ y ∷ l) d h = refl
  under-swapped (suc n) (x ∷ l) d h = ap (x ∷◌) (under-swapped n l d (omega arith))

-- ---- several results

module _ {ℓ} {A : Type ℓ} (k : List A → List (List A)) where
  pub under_each-split : (n : ℕ) (l : List A) → n ≤ length l → under_each n k l ≡ map (λ t. take n l ++ t) (k (drop n l))
  unfolding under_each
  under_each-split zero l h = sym (map-id (k l))
  under_each-split (suc n) [] h = absurd (omega arith)
  under_each-split (suc n) (x ∷ l) h = ap (map (λ t. x ∷ t)) (under_each-split n l (omega arith))
      ∙ map-map (λ t. x ∷ t) (λ t. take n l ++ t) (k (drop n l))

  pub under_each-beyond : (n : ℕ) (l : List A) → length l < n → under_each n k l ≡ l ∷ []
  unfolding under_each
  under_each-beyond zero l h = absurd (omega arith)
  under_each-beyond (suc n) [] h = refl
  under_each-beyond (suc n) (x ∷ l) h = ap (map (λ t. x ∷ t)) (under_each-beyond n l (omega arith))

  -- each result is what stood before the place and a result of the rest
  pub under_each-mem : {v : List A} (n : ℕ) (l : List A) → n ≤ length l → Mem v (under_each n k l) → (t : List A) × Mem t (k (drop n l))
      × (take n l ++ t ≡ v)
  under_each-mem {v} n l h m = Memᴰ.of_map (λ t. take n l ++ t) (k (drop n l)) (subst (Mem v) (under_each-split n l h) m)

  pub mem-under_each : {t : List A} (n : ℕ) (l : List A) → n ≤ length l → Mem t (k (drop n l)) → Mem (take n l ++ t) (under_each n k l)
  mem-under_each {t} n l h m = subst (Mem (take n l ++ t)) (sym (under_each-split n l h)) (Memᴰ.map (λ t. take n l ++ t) m)

  -- a change whose result is among the several
  pub under-among : (f : List A → List A) → ((l : List A) → Mem (f l) (k l)) → (n : ℕ) (l : List A) → Mem (under n f l) (under_each n k l)
  unfolding under under_each
  under-among f h zero l = h l
  under-among f h (suc n) [] = Memᴰ.head refl
  under-among f h (suc n) (x ∷ l) = Memᴰ.map (λ t. x ∷ t) (under-among f h n l)

-- one result
pub under_each-one {ℓ} : {A : Type ℓ} (f : List A → List A) (n : ℕ) (l : List A) → under_each n (λ t. f t ∷ []) l ≡ under n f l ∷ []
unfolding under under_each
under_each-one f zero l = refl
under_each-one f (suc n) [] = refl
under_each-one f (suc n) (x ∷ l) = ap (map (λ t. x ∷ t)) (under_each-one f n l)
