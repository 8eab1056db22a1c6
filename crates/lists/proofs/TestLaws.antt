-- Laws of tests. In order: a test as a type (`T`) and as an equation; tests joined; a choice by a test; `all` and `any`; `select`; equality of
-- lists (`same_by`); `without`; by a test that decides equality, membership and `unique`.
-- Not here: other laws of negated tests (`T_not`, `not_T` of `lib.Dec`; `not-true`, `not-false` of `borrow.Author.Tests`), tests of numbers (both),
-- equations of tests (`mathlib.Core.Bool`).
use mathlib.Core.Path.{◌≡◌, refl, sym, ap, ap₂, ◌∙◌, subst}
use mathlib.Core.Bool.{Bool, true, false, cond, not, ◌&&◌, ◌||◌, and-true, and-false, and_assoc, or-true, or-false, or_assoc}
use mathlib.Core.Logic.{◌⊎◌, inl, inr, ⊎_elim}
use mathlib.Core.List.Memᴰ
use mathlib.Core.List.{List, [], ◌∷◌, ◌++◌, map, flat_map, append-nil}
use Prim.Native.Nat.{ℕ, zero, suc, ◌≤◌, ◌<◌}
use native.Mathlib.Omega.{arith}
use lib.Dec.{T}
use lib.ListN.{length, get_or, take}
use lib.Seq.{take-suc}
use Rattle.lists.specs.Membership.{Mem, All, Distinct, SameMembers}
use Rattle.lists.specs.Order.{Ordered}
use Rattle.lists.specs.Tests.{Decides, all, any, select, same_by, without, unique}
use Rattle.lists.proofs.MembershipLaws.{all_nil, all_cons}

-- ---- a test as a type and as an equation

pub true-T : (b : Bool) → b ≡ true → T b
true-T b e = subst T (sym e) tt

pub T_true : (b : Bool) → T b → b ≡ true
T_true true h = refl
T_true false h = absurd h

pub false-not-T : (b : Bool) → b ≡ false → T b → ⊥
false-not-T b e h = subst T e h

pub not-T-false : (b : Bool) → (T b → ⊥) → b ≡ false
not-T-false true h = absurd (h tt)
not-T-false false h = refl

pub T-same : (a b : Bool) → (T a → T b) → (T b → T a) → a ≡ b
T-same true b f g = sym (T_true b (f tt))
T-same false b f g = sym (not-T-false b g)

pub T-cases : (b : Bool) → T b ⊎ (T b → ⊥)
T-cases true = inl tt
T-cases false = inr (λ h. h)

-- a test whose contrary fails
pub refuted : (t : Bool) → (T (not t) → ⊥) → T t
refuted true h = tt
refuted false h = absurd (h tt)

-- ---- tests joined

pub and_both : (a b : Bool) → T (a && b) → T a × T b
and_both true b h = (tt, h)
and_both false b h = absurd h

pub and_intro : (a b : Bool) → T a → T b → T (a && b)
and_intro true b h k = k
and_intro false b h k = h

pub and-fails : (a b : Bool) → (T (a && b) → ⊥) → (T a → ⊥) ⊎ (T b → ⊥)
and-fails true b f = inr f
and-fails false b f = inl (λ h. h)

pub or_cases : (a b : Bool) → T (a || b) → T a ⊎ T b
or_cases true b h = inl tt
or_cases false b h = inr h

pub or_left : (a b : Bool) → T a → T (a || b)
or_left true b h = tt
or_left false b h = absurd h

pub or_right : (a b : Bool) → T b → T (a || b)
or_right true b h = tt
or_right false b h = h

-- ---- a choice by a test

pub cond_cases {ℓ κ} : {A : Type ℓ} (P : A → Type κ) (t : Bool) (x y : A) → (t ≡ true → P x) → (t ≡ false → P y) → P (cond t x y)
cond_cases P true x y f g = f refl
cond_cases P false x y f g = g refl

-- ---- all and any

module _ {A : Type 0} (t : A → Bool) where
  pub all-holds : (l : List A) → T (all t l) → All (λ x. T (t x)) l
  unfolding all
  all-holds [] h = all_nil (λ x. T (t x))
  all-holds (x ∷ l) h = let r = and_both (t x) (all t l) h in all_cons (λ x. T (t x)) r.0 (all-holds l r.1)

  pub holds-all : (l : List A) → All (λ x. T (t x)) l → T (all t l)
  unfolding all
  holds-all [] h = tt
  holds-all (x ∷ l) h = and_intro (t x) (all t l) (h x (Memᴰ.head refl)) (holds-all l (λ y m. h y (Memᴰ.tail m)))

  -- an element that fails
  pub all-fails : (l : List A) → (T (all t l) → ⊥) → (x : A) × Mem x l × (T (t x) → ⊥)
  unfolding all
  all-fails [] h = absurd (h tt)
  all-fails (x ∷ l) h = ⊎_elim (λ a. let r = all-fails l (λ b. h (and_intro (t x) (all t l) a b)) in (r.0, Memᴰ.tail r.1, r.2))
      (λ n. (x, Memᴰ.head refl, n)) (T-cases (t x))

  pub any_some : (l : List A) → T (any t l) → (x : A) × Mem x l × T (t x)
  unfolding any
  any_some [] h = absurd h
  any_some (x ∷ l) h = ⊎_elim (λ g. (x, Memᴰ.head refl, g)) (λ g. let r = any_some l g in (r.0, Memᴰ.tail r.1, r.2))
      (or_cases (t x) (any t l) h)

  pub some-any : {x : A} (l : List A) → Mem x l → T (t x) → T (any t l)
  unfolding any
  some-any [] x3 h = elim x3 [ ]
  some-any (y ∷ l) (Memᴰ.head e) h = or_left (t y) (any t l) (subst (λ z. T (t z)) e h)
  some-any (y ∷ l) (Memᴰ.tail m) h = or_right (t y) (any t l) (some-any l m h)

  pub any_none : (l : List A) → All (λ x. T (t x) → ⊥) l → any t l ≡ false
  any_none l h = not-T-false (any t l) (λ g. let r = any_some l g in h r.0 r.1 r.2)

  pub none_any : (l : List A) → any t l ≡ false → All (λ x. T (t x) → ⊥) l
  none_any l e x m h = false-not-T (any t l) e (some-any l m h)

  pub all_join : (l m : List A) → all t (l ++ m) ≡ all t l && all t m
  unfolding all
  all_join [] m = refl
  all_join (x ∷ l) m = ap (t x &&◌) (all_join l m) ∙ sym (and_assoc (t x) (all t l) (all t m))

  pub any-join : (l m : List A) → any t (l ++ m) ≡ any t l || any t m
  unfolding any
  any-join [] m = refl
  any-join (x ∷ l) m = ap (t x ||◌) (any-join l m) ∙ sym (or_assoc (t x) (any t l) (any t m))

  -- one element more, as a loop tests it
  pub all-take-suc : (l : List A) (j : ℕ) (d : A) → j < length l → all t (take (suc j) l) ≡ all t (take j l) && t (get_or l j d)
  unfolding all
  all-take-suc l j d h = rw (take-suc l j d h, all_join (take j l) (get_or l j d ∷ []), and-true (t (get_or l j d)))

  pub any-take-suc : (l : List A) (j : ℕ) (d : A) → j < length l → any t (take (suc j) l) ≡ any t (take j l) || t (get_or l j d)
  unfolding any
  any-take-suc l j d h = rw (take-suc l j d h, any-join (take j l) (get_or l j d ∷ []), or-false (t (get_or l j d)))

-- the elements of all parts
module _ {A B : Type 0} (t : B → Bool) (f : A → List B) (u : A → Bool) (same : (x : A) → u x ≡ all t (f x)) where
  pub all-parts : (l : List A) → all u l ≡ all t (flat_map f l)
  unfolding all flat_map
  all-parts [] = refl
  all-parts (x ∷ l) = ap₂ ◌&&◌ (same x) (all-parts l) ∙ sym (all_join t (f x) (flat_map f l))

-- ---- the elements that pass

module _ {A : Type 0} (t : A → Bool) where
  pub select-mem : {x : A} (l : List A) → Mem x (select t l) → Mem x l × T (t x)
  unfolding select
  select-mem [] m = absurd (Memᴰ.not-nil m)
  select-mem {x} (y ∷ l) m = go (T-cases (t y)) m (λ j. select-mem l j)
    where
      Found : Type 0
      Found = Mem x (y ∷ l) × T (t x)

      go : T (t y) ⊎ (T (t y) → ⊥) → Mem x (cond (t y) (y ∷ select t l) (select t l)) → (Mem x (select t l) → Mem x l × T (t x)) → Found
      go (inl h) j rest = ⊎_elim (λ e. (Memᴰ.head e, subst (λ z. T (t z)) (sym e) h)) (λ k. let r = rest k in (Memᴰ.tail r.0, r.1))
          (Memᴰ.cases_cons (subst (λ b. Mem x (cond b (y ∷ select t l) (select t l))) (T_true (t y) h) j))
      go (inr h) j rest = let r = rest (subst (λ b. Mem x (cond b (y ∷ select t l) (select t l))) (not-T-false (t y) h) j)
          in (Memᴰ.tail r.0, r.1)

  pub mem-select : {x : A} (l : List A) → Mem x l → T (t x) → Mem x (select t l)
  unfolding select
  mem-select {x = x} [] x3 h = elim x3 [ ]
  mem-select {x} (y ∷ l) (Memᴰ.head e) h =
      subst (λ b. Mem x (cond b (y ∷ select t l) (select t l))) (sym (T_true (t y) (subst (λ z. T (t z)) e h))) (Memᴰ.head e)
  mem-select {x} (y ∷ l) (Memᴰ.tail m) h = let r = mem-select l m h in cond_cases (λ k. Mem x k) (t y) (y ∷ select t l) (select t l)
      (λ _. Memᴰ.tail r) (λ _. r)

  pub select-append : (l m : List A) → select t (l ++ m) ≡ select t l ++ select t m
  unfolding select
  select-append [] m = refl
  select-append (x ∷ l) m = go (t x) (select-append l m)
    where
      go : (b : Bool) → select t (l ++ m) ≡ select t l ++ select t m
          → cond b (x ∷ select t (l ++ m)) (select t (l ++ m)) ≡ cond b (x ∷ select t l) (select t l) ++ select t m
      go true e = ap (x ∷◌) e
      go false e = e

  pub select-none : (l : List A) → All (λ x. T (t x) → ⊥) l → select t l ≡ []
  unfolding select
  select-none [] h = refl
  select-none (x ∷ l) h = rw (not-T-false (t x) (h x (Memᴰ.head refl))) (select-none l (λ y m. h y (Memᴰ.tail m)))

  pub select-fewer : (l : List A) → length (select t l) ≤ length l
  unfolding select
  select-fewer [] = omega arith
  select-fewer (x ∷ l) = let h = select-fewer l in cond_cases (λ m. length m ≤ suc (length l)) (t x) (x ∷ select t l) (select t l)
      (λ e. omega arith) (λ e. omega arith)

  -- by two tests that agree
  pub select-same-on : (u : A → Bool) (l : List A) → ((x : A) → Mem x l → t x ≡ u x) → select t l ≡ select u l
  unfolding select
  select-same-on u [] h = refl
  select-same-on u (x ∷ l) h = ap₂ (λ b m. cond b (x ∷ m) m) (h x (Memᴰ.head refl)) (select-same-on u l (λ y m. h y (Memᴰ.tail m)))

-- part by part
pub select-flat_map : {A B : Type 0} (t : B → Bool) (f : A → List B) (l : List A) → select t (flat_map f l) ≡ flat_map (λ x. select t (f x)) l
unfolding select flat_map
select-flat_map t f [] = refl
select-flat_map t f (x ∷ l) = select-append t (f x) (flat_map f l) ∙ ap (select t (f x) ++◌) (select-flat_map t f l)

-- the parts of those that pass
pub flat_map-select : {A B : Type 0} (f : A → List B) (t : A → Bool) (l : List A) → flat_map f (select t l) ≡ flat_map (λ x. cond (t x) (f x) []) l
unfolding select flat_map
flat_map-select f t [] = refl
flat_map-select f t (x ∷ l) = go (t x) (flat_map-select f t l)
  where
    go : (b : Bool) → flat_map f (select t l) ≡ flat_map (λ x. cond (t x) (f x) []) l
        → flat_map f (cond b (x ∷ select t l) (select t l)) ≡ cond b (f x) [] ++ flat_map (λ x. cond (t x) (f x) []) l
    go true e = ap (f x ++◌) e
    go false e = e

pub select-map : {A B : Type 0} (t : B → Bool) (g : A → B) (l : List A) → select t (map g l) ≡ map g (select (λ x. t (g x)) l)
unfolding select
select-map t g [] = refl
select-map t g (x ∷ l) = go (t (g x)) (select-map t g l)
  where
    go : (b : Bool) → select t (map g l) ≡ map g (select (λ x. t (g x)) l)
        → cond b (g x ∷ select t (map g l)) (select t (map g l)) ≡ map g (cond b (x ∷ select (λ x. t (g x)) l) (select (λ x. t (g x)) l))
    go true e = ap (g x ∷◌) e
    go false e = e

-- by two tests, of which one is the same for all
pub select-and : {A : Type 0} (t : A → Bool) (b : Bool) (l : List A) → select (λ x. t x && b) l ≡ cond b (select t l) []
select-and t true l = select-same-on (λ x. t x && true) t l (λ x m. and-true (t x))
select-and t false l = select-same-on (λ x. t x && false) (λ x. false) l (λ x m. and-false (t x)) ∙ select-none (λ x. false) l (λ x m h. h)

pub select-ordered : {A : Type 0} (R : A → A → Type 0) (t : A → Bool) (l : List A) → Ordered R l → Ordered R (select t l)
unfolding select
select-ordered R t [] o = tt
select-ordered R t (x ∷ l) o = let later = select-ordered R t l o.1 in
    cond_cases (Ordered R) (t x) (x ∷ select t l) (select t l) (λ _. (λ y m. o.0 y (select-mem t l m).0, later)) (λ _. later)

-- ---- equal lists

module _ {A : Type 0} (t : A → A → Bool) where
  pub same-equal : ((x y : A) → T (t x y) → x ≡ y) → (xs ys : List A) → T (same_by t xs ys) → xs ≡ ys
  unfolding same_by
  same-equal e [] [] h = refl
  same-equal e [] (y ∷ ys) h = absurd h
  same-equal e (x ∷ xs) [] h = absurd h
  same-equal e (x ∷ xs) (y ∷ ys) h = let r = and_both (t x y) (same_by t xs ys) h in ap₂ ◌∷◌ (e x y r.0) (same-equal e xs ys r.1)

  same-itself : ((x : A) → T (t x x)) → (xs : List A) → T (same_by t xs xs)
  unfolding same_by
  same-itself i [] = tt
  same-itself i (x ∷ xs) = and_intro (t x x) (same_by t xs xs) (i x) (same-itself i xs)

  pub equal-same : ((x : A) → T (t x x)) → (xs ys : List A) → xs ≡ ys → T (same_by t xs ys)
  equal-same i xs ys e = subst (λ zs. T (same_by t xs zs)) e (same-itself i xs)

  -- lists that differ at a place
  pub same-differ : (xs ys : List A) (i : ℕ) (d : A) → i < length xs → i < length ys → t (get_or xs i d) (get_or ys i d) ≡ false → same_by t xs ys ≡ false
  unfolding same_by
  same-differ [] ys i d h g e = absurd (omega arith)
  same-differ (x ∷ xs) [] i d h g e = refl
  same-differ (x ∷ xs) (y ∷ ys) zero d h g e = rw e
  same-differ (x ∷ xs) (y ∷ ys) (suc i) d h g e = rw (same-differ xs ys i d (omega arith) (omega arith) e) (and-false (t x y))

  pub same-decides : Decides t → Decides (same_by t)
  same-decides d = record { equal = same-equal d.equal; itself = same-itself d.itself }

-- ---- the elements that x does not pass the test with

module _ {A : Type 0} (t : A → A → Bool) (x : A) where
  pub without-mem : {y : A} (l : List A) → Mem y (without t x l) → Mem y l × (T (t x y) → ⊥)
  unfolding without
  without-mem [] = λ m. absurd (Memᴰ.not-nil m)
  without-mem {y} (z ∷ l) =
      let later : Mem y (without t x l) → Mem y (z ∷ l) × (T (t x y) → ⊥) = λ m. let r = without-mem l m in (Memᴰ.tail r.0, r.1) in
      cond_cases (λ w. Mem y w → Mem y (z ∷ l) × (T (t x y) → ⊥)) (t x z) (without t x l) (z ∷ without t x l) (λ _. later)
      (λ f m. ⊎_elim (λ e. (Memᴰ.head e, λ h. false-not-T (t x z) f (subst (λ w. T (t x w)) e h))) later (Memᴰ.cases_cons m))

  pub mem-without : {y : A} (l : List A) → Mem y l → (T (t x y) → ⊥) → Mem y (without t x l)
  unfolding without
  mem-without {y = y} [] x3 n = elim x3 [ ]
  mem-without {y} (z ∷ l) (Memᴰ.head e) n = cond_cases (Mem y) (t x z) (without t x l) (z ∷ without t x l)
      (λ h. absurd (n (subst (λ w. T (t x w)) (sym e) (true-T (t x z) h)))) (λ _. Memᴰ.head e)
  mem-without {y} (z ∷ l) (Memᴰ.tail m) n = let later = mem-without l m n in
      cond_cases (Mem y) (t x z) (without t x l) (z ∷ without t x l) (λ _. later) (λ _. Memᴰ.tail later)

  pub without-distinct : (l : List A) → Distinct l → Distinct (without t x l)
  unfolding without
  without-distinct [] e = tt
  without-distinct (z ∷ l) e = let later = without-distinct l e.1 in
      cond_cases Distinct (t x z) (without t x l) (z ∷ without t x l) (λ _. later) (λ _. (λ m. e.0 (without-mem l m).0, later))

  pub without-append : (l m : List A) → without t x (l ++ m) ≡ without t x l ++ without t x m
  unfolding without
  without-append [] m = refl
  without-append (z ∷ l) m = rw (without-append l m)
      (cond_cases (λ w. cond (t x z) (without t x l ++ without t x m) (z ∷ (without t x l ++ without t x m)) ≡ w ++ without t x m) (t x z)
      (without t x l) (z ∷ without t x l)
      (λ e. rw e) (λ e. rw e))

  -- none passes
  pub without-none : (l : List A) → All (λ y. T (t x y) → ⊥) l → without t x l ≡ l
  unfolding without
  without-none [] h = refl
  without-none (z ∷ l) h = rw (not-T-false (t x z) (h z (Memᴰ.head refl)), without-none l (λ y m. h y (Memᴰ.tail m)))

-- ---- membership, and each element once, by a test that decides equality

module _ {A : Type 0} (t : A → A → Bool) (d : Decides t) where
  pub equal-test : (x y : A) → x ≡ y → T (t x y)
  equal-test x y e = subst (λ z. T (t x z)) e (d.itself x)

  pub any-mem : (x : A) (l : List A) → T (any (t x) l) → Mem x l
  any-mem x l h = let r = any_some (t x) l h in Memᴰ.cast (d.equal x r.0 r.2) r.1

  pub mem-any : {x : A} (l : List A) → Mem x l → T (any (t x) l)
  mem-any {x} l m = some-any (t x) l m (d.itself x)

  pub mem-cases : (x : A) (l : List A) → Mem x l ⊎ (Mem x l → ⊥)
  mem-cases x l = ⊎_elim (λ h. inl (any-mem x l h)) (λ h. inr (λ m. h (mem-any l m))) (T-cases (any (t x) l))

  pub test-sym : (x y : A) → t x y ≡ t y x
  test-sym x y = T-same (t x y) (t y x) (λ h. equal-test y x (sym (d.equal x y h))) (λ h. equal-test x y (sym (d.equal y x h)))

  pub unique-mem : {x : A} (l : List A) → Mem x (unique t l) → Mem x l
  unfolding unique
  unique-mem [] m = m
  unique-mem (z ∷ l) (Memᴰ.head e) = Memᴰ.head e
  unique-mem (z ∷ l) (Memᴰ.tail m) = Memᴰ.tail (unique-mem l (without-mem t z (unique t l) m).0)

  pub mem_unique : {x : A} (l : List A) → Mem x l → Mem x (unique t l)
  unfolding unique
  mem_unique {x = x} [] x'' = elim x'' [ ]
  mem_unique (z ∷ l) (Memᴰ.head e) = Memᴰ.head e
  mem_unique {x} (z ∷ l) (Memᴰ.tail m) = let later = mem_unique l m in
      ⊎_elim (λ h. Memᴰ.head (sym (d.equal z x h))) (λ n. Memᴰ.tail (mem-without t z (unique t l) later n)) (T-cases (t z x))

  pub unique-members : (l : List A) → SameMembers (unique t l) l
  unique-members l = record { into = λ x m. unique-mem l m; from = λ x m. mem_unique l m }

  pub unique-distinct : (l : List A) → Distinct (unique t l)
  unfolding unique
  unique-distinct [] = tt
  unique-distinct (z ∷ l) = (λ m. (without-mem t z (unique t l) m).1 (d.itself z), without-distinct t z (unique t l) (unique-distinct l))

  -- a list that has each element once already
  pub distinct-unique : (l : List A) → Distinct l → unique t l ≡ l
  unfolding unique
  distinct-unique [] e = refl
  distinct-unique (z ∷ l) e = rw (distinct-unique l e.1) (ap (z ∷◌) (without-none t z l (λ y m h. e.0 (Memᴰ.cast (d.equal z y h) m))))

  any-unique : (x : A) (l : List A) → any (t x) (unique t l) ≡ any (t x) l
  any-unique x l = T-same (any (t x) (unique t l)) (any (t x) l) (λ h. mem-any l (unique-mem l (any-mem x (unique t l) h)))
      (λ h. mem-any (unique t l) (mem_unique l (any-mem x l h)))

  unique-more : (l : List A) (x : A) → unique t (l ++ (x ∷ [])) ≡ cond (any (t x) l) (unique t l) (unique t l ++ (x ∷ []))
  unfolding unique any without
  unique-more [] x = refl
  unique-more (y ∷ l) x = rw (unique-more l x, test-sym x y)
      (cond_cases (λ w. y ∷ without t y w ≡ cond (t y x || any (t x) l) (y ∷ without t y (unique t l)) (y ∷ (without t y (unique t l) ++ (x ∷ []))))
      (any (t x) l) (unique t l) (unique t l ++ (x ∷ [])) (λ e. rw (e, or-true (t y x)))
      (λ e. rw (e, or-false (t y x), without-append t y (unique t l) (x ∷ [])) (last (t y x))))
    where
      last : (b : Bool) → y ∷ (without t y (unique t l) ++ cond b [] (x ∷ [])) ≡ cond b (y ∷ without t y (unique t l))
          (y ∷ (without t y (unique t l) ++ (x ∷ [])))
      last true = rw (append-nil (without t y (unique t l)))
      last false = refl

  -- one element more at the end, as a loop adds it
  pub unique-snoc : (l : List A) (x : A) → unique t (l ++ (x ∷ [])) ≡ cond (any (t x) (unique t l)) (unique t l) (unique t l ++ (x ∷ []))
  unique-snoc l x = rw (any-unique x l) (unique-more l x)
