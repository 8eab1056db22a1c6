-- Laws of `flat_map`, mathlib's, which joins the parts that a function makes of a list's elements.
-- In order: members; equations; length; `All`, `Distinct`, `Ordered`, `Precedes`.
use mathlib.Core.Path.{◌≡◌, refl, sym, ap, ap₂, ◌∙◌, subst}
use mathlib.Core.Logic.{◌⊎◌, inl, inr, ⊎_elim, ◌↔◌}
use mathlib.Core.List.Memᴰ
use mathlib.Core.List.{List, [], ◌∷◌, ◌++◌, map, foldr, flat_map, append_assoc, append-nil, map-append}
use Prim.Native.Nat.{ℕ, ◌+◌, ◌*◌, ◌≤◌}
use native.Mathlib.Omega.{arith}
use native.Mathlib.Nat.{add_comm, suc-mul, zero-mul}
use lib.ListN.{length, length-append}
use Rattle.lists.specs.Membership.{Mem, All, Distinct}
use Rattle.lists.specs.Order.{Ordered, Precedes}
use Rattle.lists.proofs.MembershipLaws.{distinct_append}
use Rattle.lists.proofs.OrderLaws.{ordered-append, precedes-append, precedes-left, precedes-across, precedes-right}

module _ {A B : Type 0} (f : A → List B) where
  -- ---- members

  pub flat_map-mem : {y : B} (l : List A) → Mem y (flat_map f l) → (x : A) × Mem x l × Mem y (f x)
  unfolding flat_map
  flat_map-mem [] m = absurd (Memᴰ.not-nil m)
  flat_map-mem (x ∷ l) m = ⊎_elim (λ j. (x, Memᴰ.head refl, j)) (λ j. let r = flat_map-mem l j in (r.0, Memᴰ.tail r.1, r.2))
      (Memᴰ.append_cases (f x) m)

  pub mem-flat_map : {x : A} {y : B} (l : List A) → Mem x l → Mem y (f x) → Mem y (flat_map f l)
  unfolding flat_map
  mem-flat_map {y = y} [] x3 j = elim x3 [ ]
  mem-flat_map {y} (z ∷ l) (Memᴰ.head e) j = Memᴰ.append_left (flat_map f l) (subst (λ w. Mem y (f w)) e j)
  mem-flat_map (z ∷ l) (Memᴰ.tail m) j = Memᴰ.append_right (f z) (mem-flat_map l m j)

  -- ---- equations

  pub flat_map-append : (l m : List A) → flat_map f (l ++ m) ≡ flat_map f l ++ flat_map f m
  unfolding flat_map
  flat_map-append [] m = refl
  flat_map-append (x ∷ l) m = ap (f x ++◌) (flat_map-append l m) ∙ sym (append_assoc (f x) (flat_map f l) (flat_map f m))

  pub flat_map-one : (x : A) → flat_map f (x ∷ []) ≡ f x
  unfolding flat_map
  flat_map-one x = append-nil (f x)

  -- one element more at the end
  pub flat_map-snoc : (l : List A) (x : A) → flat_map f (l ++ (x ∷ [])) ≡ flat_map f l ++ f x
  flat_map-snoc l x = flat_map-append l (x ∷ []) ∙ ap (flat_map f l ++◌) (flat_map-one x)

  pub flat_map-same-on : (g : A → List B) (l : List A) → ((x : A) → Mem x l → f x ≡ g x) → flat_map f l ≡ flat_map g l
  unfolding flat_map
  flat_map-same-on g [] h = refl
  flat_map-same-on g (x ∷ l) h = ap₂ ◌++◌ (h x (Memᴰ.head refl)) (flat_map-same-on g l (λ y m. h y (Memᴰ.tail m)))

  pub flat_map-same : (g : A → List B) → ((x : A) → f x ≡ g x) → (l : List A) → flat_map f l ≡ flat_map g l
  flat_map-same g h l = flat_map-same-on g l (λ x m. h x)

  -- parts that are all empty
  pub flat_map-none : (l : List A) → ((x : A) → Mem x l → f x ≡ []) → flat_map f l ≡ []
  unfolding flat_map
  flat_map-none [] h = refl
  flat_map-none (x ∷ l) h = ap₂ ◌++◌ (h x (Memᴰ.head refl)) (flat_map-none l (λ y m. h y (Memᴰ.tail m)))

pub flat_map-single : {A B : Type 0} (f : A → B) (l : List A) → flat_map (λ x. f x ∷ []) l ≡ map f l
unfolding flat_map
flat_map-single f [] = refl
flat_map-single f (x ∷ l) = ap (f x ∷◌) (flat_map-single f l)

pub flat_map-alone : {A : Type 0} (l : List A) → flat_map (λ x. x ∷ []) l ≡ l
unfolding flat_map
flat_map-alone [] = refl
flat_map-alone (x ∷ l) = ap (x ∷◌) (flat_map-alone l)

module _ {A B C : Type 0} where
  pub flat_map-flat_map : (g : B → List C) (f : A → List B) (l : List A) → flat_map g (flat_map f l) ≡ flat_map (λ x. flat_map g (f x)) l
  unfolding flat_map
  flat_map-flat_map g f [] = refl
  flat_map-flat_map g f (x ∷ l) = flat_map-append g (f x) (flat_map f l) ∙ ap (flat_map g (f x) ++◌) (flat_map-flat_map g f l)

  pub flat_map-map : (g : B → List C) (f : A → B) (l : List A) → flat_map g (map f l) ≡ flat_map (λ x. g (f x)) l
  unfolding flat_map
  flat_map-map g f [] = refl
  flat_map-map g f (x ∷ l) = ap (g (f x) ++◌) (flat_map-map g f l)

  pub map-flat_map : (g : B → C) (f : A → List B) (l : List A) → map g (flat_map f l) ≡ flat_map (λ x. map g (f x)) l
  unfolding flat_map
  map-flat_map g f [] = refl
  map-flat_map g f (x ∷ l) = map-append g (f x) (flat_map f l) ∙ ap (map g (f x) ++◌) (map-flat_map g f l)

module _ {A B : Type 0} (f : A → List B) where
  -- ---- length

  pub length-flat_map : (l : List A) → length (flat_map f l) ≡ foldr (λ x n. length (f x) + n) 0 l
  unfolding flat_map
  length-flat_map [] = refl
  length-flat_map (x ∷ l) = length-append (f x) (flat_map f l) ∙ ap (length (f x) +◌) (length-flat_map l)

  -- parts of one length
  pub length-flat_map-even : (n : ℕ) (l : List A) → ((x : A) → Mem x l → length (f x) ≡ n) → length (flat_map f l) ≡ length l * n
  unfolding flat_map
  length-flat_map-even n [] h = sym (zero-mul n)
  length-flat_map-even n (x ∷ l) h =
      length-append (f x) (flat_map f l) ∙ ap₂ ◌+◌ (h x (Memᴰ.head refl)) (length-flat_map-even n l (λ y m. h y (Memᴰ.tail m)))
      ∙ add_comm n (length l * n) ∙ sym (suc-mul (length l) n)

  -- parts of a length at most
  pub length-flat_map-most : (n : ℕ) (l : List A) → ((x : A) → Mem x l → length (f x) ≤ n) → length (flat_map f l) ≤ length l * n
  unfolding flat_map
  length-flat_map-most n [] h = omega arith
  length-flat_map-most n (x ∷ l) h = omega (
    arith,
    length-append (f x) (flat_map f l),
    h x (Memᴰ.head refl),
    length-flat_map-most n l
        (λ y m. h y (Memᴰ.tail m)),
    suc-mul (length l) n,
  )

  -- ---- what holds of every part, and between two

  pub all-flat_map : (P : B → Type 0) (l : List A) → ((x : A) → Mem x l → All P (f x)) → All P (flat_map f l)
  all-flat_map P l h y m = let r = flat_map-mem f l m in h r.0 r.1 y r.2

  pub flat_map-iff : (P : B → Type 0) (l : List A) → All P (flat_map f l) ↔ ((x : A) → Mem x l → All P (f x))
  flat_map-iff P l = (λ a x m y i. a y (mem-flat_map f l m i), all-flat_map P l)

  pub distinct-flat_map : (l : List A) → Distinct l → ((x : A) → Mem x l → Distinct (f x))
      → ((x y : A) → Mem x l → Mem y l → (u : B) → Mem u (f x) → Mem u (f y) → x ≡ y) → Distinct (flat_map f l)
  unfolding flat_map
  distinct-flat_map [] d h g = tt
  distinct-flat_map (x ∷ l) d h g = distinct_append (f x) (flat_map f l) (h x (Memᴰ.head refl))
      (distinct-flat_map l d.1 (λ y m. h y (Memᴰ.tail m)) (λ y z m n. g y z (Memᴰ.tail m) (Memᴰ.tail n)))
      (λ u m n. let r = flat_map-mem f l n in d.0 (Memᴰ.cast (g x r.0 (Memᴰ.head refl) (Memᴰ.tail r.1) u m r.2) r.1))

  pub ordered-flat_map : (R : A → A → Type 0) (S : B → B → Type 0) (l : List A) → Ordered R l → ((x : A) → Mem x l → Ordered S (f x))
      → ((x y : A) → Mem x l → Mem y l → R x y → (u v : B) → Mem u (f x) → Mem v (f y) → S u v) → Ordered S (flat_map f l)
  unfolding flat_map
  ordered-flat_map R S [] o h g = tt
  ordered-flat_map R S (x ∷ l) o h g = ordered-append S (f x) (flat_map f l) (h x (Memᴰ.head refl))
      (ordered-flat_map R S l o.1 (λ y m. h y (Memᴰ.tail m)) (λ y z m n. g y z (Memᴰ.tail m) (Memᴰ.tail n)))
      (λ u v m n. let r = flat_map-mem f l n in g x r.0 (Memᴰ.head refl) (Memᴰ.tail r.1) (o.0 r.0 r.1) u v m r.2)

  -- of two in order, both in one part, or the part of the first before that of the second
  pub flat_map-precedes : (l : List A) (u v : B) → Precedes (flat_map f l) u v
      → ((x : A) × Mem x l × Precedes (f x) u v) ⊎ ((x : A) × (y : A) × Precedes l x y × Mem u (f x) × Mem v (f y))
  unfolding flat_map
  flat_map-precedes [] u v p = absurd p
  flat_map-precedes (x ∷ l) u v p = ⊎_elim (λ q. inl (x, Memᴰ.head refl, q))
      (λ c. ⊎_elim (λ m. let r = flat_map-mem f l m.1 in inr (x, r.0, inl (refl, r.1), m.0, r.2))
      (λ q. ⊎_elim (λ r. inl (r.0, Memᴰ.tail r.1, r.2)) (λ r. inr (r.0, r.1, inr r.2, r.3, r.4)) (flat_map-precedes l u v q)) c)
      (precedes-append (f x) (flat_map f l) u v p)

  pub precedes-flat_map-in : {x : A} (l : List A) (u v : B) → Mem x l → Precedes (f x) u v → Precedes (flat_map f l) u v
  unfolding flat_map
  precedes-flat_map-in [] u v x3 p = elim x3 [ ]
  precedes-flat_map-in (z ∷ l) u v (Memᴰ.head e) p = precedes-left (f z) (flat_map f l) u v (subst (λ w. Precedes (f w) u v) e p)
  precedes-flat_map-in (z ∷ l) u v (Memᴰ.tail m) p = precedes-right (f z) (flat_map f l) u v (precedes-flat_map-in l u v m p)

  pub precedes-flat_map-across : (l : List A) (x y : A) (u v : B) → Precedes l x y → Mem u (f x) → Mem v (f y) → Precedes (flat_map f l) u v
  unfolding flat_map
  precedes-flat_map-across [] x y u v p m n = absurd p
  precedes-flat_map-across (z ∷ l) x y u v (inl p) m n = precedes-across (f z) (flat_map f l) u v (subst (λ w. Mem u (f w)) p.0 m)
      (mem-flat_map f l p.1 n)
  precedes-flat_map-across (z ∷ l) x y u v (inr p) m n = precedes-right (f z) (flat_map f l) u v (precedes-flat_map-across l x y u v p m n)
