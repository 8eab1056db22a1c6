-- Laws of what a list holds. In order: a member cuts the list; one element more in the midst; members by number; parts;
-- `All`, and functions equal on all members; `SameMembers`; `Distinct`; two laws of lengths; two lists taken together by a loop.
-- Not here: membership in `map` and `◌++◌` (`mathlib.Core.List`), in `flat_map` (`FlatMapLaws`), and tests of it (`TestLaws`).
use mathlib.Core.Path.{◌≡◌, refl, sym, ◌∙◌, ap, subst}
use mathlib.Core.Logic.{◌⊎◌, inl, inr, ⊎_elim, ◌↔◌}
use mathlib.Core.List.Memᴰ
use mathlib.Core.List.{List, [], ◌∷◌, ◌++◌, map, zip_with}
use Prim.Native.Nat.{ℕ, zero, suc, ◌+◌, ◌≤◌, ◌<◌}
use native.Mathlib.Nat.{le_antisymm}
use native.Mathlib.Omega.{arith}
use native.Mathlib.Numerals.{add-one}
use lib.ListN.{length, get_or, take, drop, set, length-append, take-append-drop}
use lib.Seq.{take-suc-set}
use Rattle.lists.specs.Membership.{Mem, All, Distinct, SameMembers}

-- ---- a member cuts the list in two

pub record CoefficientSection {A : Type 0} (x : A) (l : List A) : Type 0 where
  pub front : List A
  pub back : List A
  pub eq : l ≡ front ++ x ∷ back

pub cut : {A : Type 0} {x : A} {l : List A} → Mem x l → CoefficientSection x l
cut (Memᴰ.head {xs = r} e) = record { front = []; back = r; eq = ap (λ y. y ∷ r) (sym e) }
cut (Memᴰ.tail {x = y} m) = let c = cut m in record { front = y ∷ c.front; back = c.back; eq = ap (λ l. y ∷ l) c.eq }

module _ {A : Type 0} where
  -- ---- one element more in the midst

  pub mem-skip : {y : A} (x : A) (p q : List A) → Mem y (p ++ q) → Mem y (p ++ x ∷ q)
  mem-skip x [] q m = Memᴰ.tail m
  mem-skip x (z ∷ p) q (Memᴰ.head e) = Memᴰ.head e
  mem-skip x (z ∷ p) q (Memᴰ.tail m) = Memᴰ.tail (mem-skip x p q m)

  pub mem-drop : {y : A} (x : A) (p q : List A) → Mem y (p ++ x ∷ q) → (y ≡ x) ⊎ Mem y (p ++ q)
  mem-drop x [] q m = Memᴰ.cases_cons m
  mem-drop x (z ∷ p) q (Memᴰ.head e) = inr (Memᴰ.head e)
  mem-drop x (z ∷ p) q (Memᴰ.tail m) = ⊎_elim inl (λ n. inr (Memᴰ.tail n)) (mem-drop x p q m)

  -- ---- members by number

  pub mem-get_d : {x : A} {l : List A} (d : A) → Mem x l → (i : ℕ) × (i < length l) × (get_or l i d ≡ x)
  mem-get_d d (Memᴰ.head e) = (0, omega arith, sym e)
  mem-get_d d (Memᴰ.tail m) = let r = mem-get_d d m in let h = r.1 in (suc r.0, omega arith, r.2)

  pub get_d-mem : (l : List A) (i : ℕ) (d : A) → i < length l → Mem (get_or l i d) l
  get_d-mem [] i d h = absurd (omega arith)
  get_d-mem (x ∷ l) zero d h = Memᴰ.head refl
  get_d-mem (x ∷ l) (suc i) d h = Memᴰ.tail (get_d-mem l i d (omega arith))

  -- ---- parts

  pub take-mem : {x : A} (n : ℕ) (l : List A) → Mem x (take n l) → Mem x l
  take-mem {x} n l m = subst (Mem x) (take-append-drop n l) (Memᴰ.append_left (drop n l) m)

  pub drop-mem : {x : A} (n : ℕ) (l : List A) → Mem x (drop n l) → Mem x l
  drop-mem {x} n l m = subst (Mem x) (take-append-drop n l) (Memᴰ.append_right (take n l) m)

-- ---- All

module _ {A : Type 0} (P : A → Type 0) where
  pub all_nil : All P []
  all_nil x m = absurd (Memᴰ.not-nil m)

  pub all_cons : {x : A} {l : List A} → P x → All P l → All P (x ∷ l)
  all_cons h a y (Memᴰ.head e) = subst P (sym e) h
  all_cons h a y (Memᴰ.tail m) = a y m

  pub all-imp : {Q : A → Type 0} (l : List A) → All P l → ((x : A) → Mem x l → P x → Q x) → All Q l
  all-imp l a h x m = h x m (a x m)

  pub all_append : (l m : List A) → All P l → All P m → All P (l ++ m)
  all_append l m a b x i = ⊎_elim (λ j. a x j) (λ j. b x j) (Memᴰ.append_cases l i)

  pub all_left : (l m : List A) → All P (l ++ m) → All P l
  all_left l m a x i = a x (Memᴰ.append_left m i)

  pub all_right : (l m : List A) → All P (l ++ m) → All P m
  all_right l m a x i = a x (Memᴰ.append_right l i)

  pub append-iff : (l m : List A) → All P (l ++ m) ↔ (All P l × All P m)
  append-iff l m = (λ a. (all_left l m a, all_right l m a), λ a. all_append l m a.0 a.1)

  pub all_take : (n : ℕ) (l : List A) → All P l → All P (take n l)
  all_take n l a x i = a x (take-mem n l i)

  pub all_drop : (n : ℕ) (l : List A) → All P l → All P (drop n l)
  all_drop n l a x i = a x (drop-mem n l i)

  pub all_get_d : (l : List A) (i : ℕ) (d : A) → All P l → i < length l → P (get_or l i d)
  all_get_d l i d a h = a (get_or l i d) (get_d-mem l i d h)

  -- from every number below the length
  pub get_d-all : (l : List A) (d : A) → ((i : ℕ) → i < length l → P (get_or l i d)) → All P l
  get_d-all l d h x m = let r = mem-get_d d m in subst P r.2 (h r.0 r.1)

pub all_map : {A B : Type 0} (f : A → B) (P : A → Type 0) (Q : B → Type 0) (l : List A) → ((x : A) → Mem x l → P x ↔ Q (f x))
    → All P l ↔ All Q (map f l)
all_map f P Q l h = (
  λ a y m. let r = Memᴰ.of_map f l m in subst Q r.2 ((h r.0 r.1).0 (a r.0 r.1)),
  λ a x m. (h x m).1 (a (f x) (Memᴰ.map f m)),
)

pub map-all : {A B : Type 0} (f : A → B) (P : A → Type 0) (Q : B → Type 0) (l : List A) → ((x : A) → P x → Q (f x)) → All P l → All Q (map f l)
map-all f P Q l h a y m = let r = Memᴰ.of_map f l m in subst Q r.2 (h r.0 (a r.0 r.1))

-- functions that are equal on the members
pub map_same : {A B : Type 0} (f g : A → B) (l : List A) → ((x : A) → Mem x l → f x ≡ g x) → map f l ≡ map g l
map_same f g [] h = refl
map_same f g (x ∷ l) h = rw (h x (Memᴰ.head refl), map_same f g l (λ y m. h y (Memᴰ.tail m)))

pub all_set : {A : Type 0} (P : A → Type 0) (l : List A) (i : ℕ) (a : A) → P a → All P l → All P (set l i a)
all_set P [] i a h k = all_nil P
all_set P (x ∷ l) zero a h k = all_cons P h (λ y m. k y (Memᴰ.tail m))
all_set P (x ∷ l) (suc i) a h k = all_cons P (k x (Memᴰ.head refl)) (all_set P l i a h (λ y m. k y (Memᴰ.tail m)))

pub all-get_d-default : {A : Type 0} (P : A → Type 0) (l : List A) (i : ℕ) (d : A) → P d → All P l → P (get_or l i d)
all-get_d-default P [] i d h k = h
all-get_d-default P (x ∷ l) zero d h k = k x (Memᴰ.head refl)
all-get_d-default P (x ∷ l) (suc i) d h k = all-get_d-default P l i d h (λ y m. k y (Memᴰ.tail m))

-- a list without members is empty
pub no-members : {A : Type 0} (l : List A) → ((x : A) → Mem x l → ⊥) → l ≡ []
no-members [] h = refl
no-members (x ∷ l) h = absurd (h x (Memᴰ.head refl))

-- ---- the same members

module _ {A : Type 0} where
  pub members-refl : (l : List A) → SameMembers l l
  members-refl l = record { into = λ x m. m; from = λ x m. m }

  pub members-sym : {l m : List A} → SameMembers l m → SameMembers m l
  members-sym s = record { into = s.from; from = s.into }

  pub members-trans : {l m n : List A} → SameMembers l m → SameMembers m n → SameMembers l n
  members-trans s t = record { into = λ x i. t.into x (s.into x i); from = λ x i. s.from x (t.from x i) }

  pub members-all : (P : A → Type 0) {l m : List A} → SameMembers l m → All P l → All P m
  members-all P s a x i = a x (s.from x i)

  -- ---- no member twice

  -- where each member of a list stands once, and all stand in another, the other is as long or longer
  pub distinct-fits : (xs ys : List A) → Distinct xs → ((x : A) → Mem x xs → Mem x ys) → length xs ≤ length ys
  distinct-fits [] ys d h = omega arith
  distinct-fits (x ∷ xs) ys d h =
      let c = cut (h x (Memᴰ.head refl)) in
      let rest : (y : A) → Mem y xs → Mem y (c.front ++ c.back) = λ y m. ⊎_elim (λ e. absurd (d.0 (Memᴰ.cast (sym e) m))) (λ n. n)
      (mem-drop x c.front c.back (subst (Mem y) c.eq (h y (Memᴰ.tail m)))) in
      let k = distinct-fits xs (c.front ++ c.back) d.1 rest in
      omega (arith, ap length c.eq, length-append c.front (x ∷ c.back), length-append c.front c.back)

  pub distinct-same-length : (xs ys : List A) → Distinct xs → Distinct ys → SameMembers xs ys → length xs ≡ length ys
  distinct-same-length xs ys d e s = le_antisymm (distinct-fits xs ys d s.into) (distinct-fits ys xs e s.from)

  pub distinct_append : (p q : List A) → Distinct p → Distinct q → ((x : A) → Mem x p → Mem x q → ⊥) → Distinct (p ++ q)
  distinct_append [] q d e h = e
  distinct_append (x ∷ p) q d e h = (
    λ m. ⊎_elim d.0 (h x (Memᴰ.head refl)) (Memᴰ.append_cases p m),
    distinct_append p q d.1 e (λ y m n. h y (Memᴰ.tail m) n),
  )

pub distinct-map : {A B : Type 0} (f : A → B) (l : List A) → ((x y : A) → Mem x l → Mem y l → f x ≡ f y → x ≡ y) → Distinct l → Distinct (map f l)
distinct-map f [] h d = tt
distinct-map f (x ∷ l) h d = (
  λ m. let r = Memᴰ.of_map f l m in d.0 (Memᴰ.cast (h x r.0 (Memᴰ.head refl) (Memᴰ.tail r.1) (sym r.2)) r.1),
  distinct-map f l (λ y z m n. h y z (Memᴰ.tail m) (Memᴰ.tail n)) d.1,
)

-- ---- lengths

-- a list of one element
pub length-one : {A : Type 0} (l : List A) → length l ≡ 1 → (x : A) × (l ≡ x ∷ [])
length-one [] e = absurd (omega arith)
length-one (x ∷ []) e = (x, refl)
length-one (x ∷ y ∷ l) e = absurd (omega arith)

pub length-zip_with : {A B C : Type 0} (f : A → B → C) (xs : List A) (ys : List B) → length xs ≡ length ys → length (zip_with f xs ys) ≡ length ys
unfolding zip_with
length-zip_with f [] [] e = refl
length-zip_with f [] (y ∷ ys) e = e
length-zip_with f (x ∷ xs) [] e = absurd (omega arith)
length-zip_with f (x ∷ xs) (y ∷ ys) e = ap suc (length-zip_with f xs ys (omega arith))

-- ---- two lists taken together, one element more

module _ {A B C : Type 0} (f : A → B → C) (a : A) (b : B) where
  zip_with-snoc : (k : ℕ) (xs : List A) (ys : List B) → k < length xs → k < length ys
      → zip_with f (take (suc k) xs) (take (suc k) ys) ≡ zip_with f (take k xs) (take k ys) ++ (f (get_or xs k a) (get_or ys k b) ∷ [])
  unfolding zip_with
  zip_with-snoc k [] ys h g = absurd (omega arith)
  zip_with-snoc k (x ∷ xs) [] h g = absurd (omega arith)
  zip_with-snoc zero (x ∷ xs) (y ∷ ys) h g = refl
  zip_with-snoc (suc k) (x ∷ xs) (y ∷ ys) h g = ap (f x y ∷◌) (zip_with-snoc k xs ys (omega arith) (omega arith))

  pub zip_with-more : (k : ℕ) (r : List C) (xs : List A) (ys : List B) (z : C) → k < length r → k < length xs → k < length ys
      → take k r ≡ zip_with f (take k xs) (take k ys) → z ≡ f (get_or xs k a) (get_or ys k b)
      → take (k + 1) (set r k z) ≡ zip_with f (take (k + 1) xs) (take (k + 1) ys)
  zip_with-more k r xs ys z h hx hy e q = rw add-one (take-suc-set r k z h ∙ ap (◌++ (z ∷ [])) e
      ∙ ap (λ w. zip_with f (take k xs) (take k ys) ++ (w ∷ [])) q ∙ sym (zip_with-snoc k xs ys hx hy))
