-- Laws of the order of a list. In order: `Ordered` and its parts; what it makes of `map`; `Precedes`; the two together.
-- Lists joined by `flat_map` are in `FlatMapLaws`.
use mathlib.Core.Path.{◌≡◌, refl, sym, ap, ap₂, ◌∙◌, subst}
use mathlib.Core.Logic.{◌⊎◌, inl, inr, ⊎_elim}
use mathlib.Core.List.Memᴰ
use mathlib.Core.List.{List, [], ◌∷◌, ◌++◌, map}
use Prim.Native.Nat.{ℕ, zero, suc, ◌<◌}
use native.Mathlib.Omega.{arith}
use lib.ListN.{length, get_or, take, drop, take-append-drop}
use Rattle.lists.specs.Membership.{Mem, All, Distinct, SameMembers}
use Rattle.lists.specs.Order.{Ordered, Precedes}
use Rattle.lists.proofs.MembershipLaws.{mem-skip, get_d-mem, all_append, all-imp}

-- ---- every element in R with every later one

module _ {A : Type 0} (R : A → A → Type 0) where
  pub ordered-left : (p q : List A) → Ordered R (p ++ q) → Ordered R p
  ordered-left [] q o = tt
  ordered-left (z ∷ p) q o = (λ y m. o.0 y (Memᴰ.append_left q m), ordered-left p q o.1)

  pub ordered-right : (p q : List A) → Ordered R (p ++ q) → Ordered R q
  ordered-right [] q o = o
  ordered-right (z ∷ p) q o = ordered-right p q o.1

  pub ordered-across : (p q : List A) → Ordered R (p ++ q) → (x y : A) → Mem x p → Mem y q → R x y
  ordered-across [] q o x y x5 n = elim x5 [ ]
  ordered-across (z ∷ p) q o x y (Memᴰ.head e) n = subst (λ w. R w y) (sym e) (o.0 y (Memᴰ.append_right p n))
  ordered-across (z ∷ p) q o x y (Memᴰ.tail m) n = ordered-across p q o.1 x y m n

  pub ordered-append : (p q : List A) → Ordered R p → Ordered R q → ((x y : A) → Mem x p → Mem y q → R x y) → Ordered R (p ++ q)
  ordered-append [] q o₁ o₂ h = o₂
  ordered-append (z ∷ p) q o₁ o₂ h = (
    all_append (R z) p q o₁.0 (λ y n. h z y (Memᴰ.head refl) n),
    ordered-append p q o₁.1 o₂ (λ x y m n. h x y (Memᴰ.tail m) n),
  )

  -- what stands before x, and what stands after it
  pub ordered-front : (p : List A) (x : A) (q : List A) → Ordered R (p ++ x ∷ q) → (y : A) → Mem y p → R y x
  ordered-front p x q o y m = ordered-across p (x ∷ q) o y x m (Memᴰ.head refl)

  pub ordered-back : (p : List A) (x : A) (q : List A) → Ordered R (p ++ x ∷ q) → All (R x) q
  ordered-back p x q o = (ordered-right p (x ∷ q) o).0

  -- one element less in the midst
  pub ordered-drop : (p : List A) (x : A) (q : List A) → Ordered R (p ++ x ∷ q) → Ordered R (p ++ q)
  ordered-drop [] x q o = o.1
  ordered-drop (z ∷ p) x q o = (λ y m. o.0 y (mem-skip x p q m), ordered-drop p x q o.1)

  pub ordered-take : (n : ℕ) (l : List A) → Ordered R l → Ordered R (take n l)
  ordered-take n l o = ordered-left (take n l) (drop n l) (subst (Ordered R) (sym (take-append-drop n l)) o)

  pub ordered-rest : (n : ℕ) (l : List A) → Ordered R l → Ordered R (drop n l)
  ordered-rest n l o = ordered-right (take n l) (drop n l) (subst (Ordered R) (sym (take-append-drop n l)) o)

  -- at two places
  pub ordered-get_d : (l : List A) (i j : ℕ) (d : A) → Ordered R l → i < j → j < length l → R (get_or l i d) (get_or l j d)
  ordered-get_d [] i j d o h g = absurd (omega arith)
  ordered-get_d (x ∷ l) i zero d o h g = absurd (omega arith)
  ordered-get_d (x ∷ l) zero (suc j) d o h g = o.0 (get_or l j d) (get_d-mem l j d (omega arith))
  ordered-get_d (x ∷ l) (suc i) (suc j) d o h g = ordered-get_d l i j d o.1 (omega arith) (omega arith)

  pub ordered-imp : {S : A → A → Type 0} (l : List A) → Ordered R l → ((x y : A) → Mem x l → Mem y l → R x y → S x y) → Ordered S l
  ordered-imp [] o h = tt
  ordered-imp (z ∷ l) o h = (
    all-imp (R z) l o.0 (λ y m. h z y (Memᴰ.head refl) (Memᴰ.tail m)),
    ordered-imp l o.1 (λ x y m n. h x y (Memᴰ.tail m) (Memᴰ.tail n)),
  )

  pub ordered-both : (S : A → A → Type 0) (l : List A) → Ordered R l → Ordered S l → Ordered (λ x y. R x y × S x y) l
  ordered-both S [] o o' = tt
  ordered-both S (x ∷ l) o o' = (λ y m. (o.0 y m, o'.0 y m), ordered-both S l o.1 o'.1)

  pub ordered-distinct : ((x : A) → R x x → ⊥) → (l : List A) → Ordered R l → Distinct l
  ordered-distinct irr [] o = tt
  ordered-distinct irr (x ∷ l) o = (λ m. irr x (o.0 x m), ordered-distinct irr l o.1)

pub ordered-map : {A B : Type 0} (f : A → B) (S : B → B → Type 0) (l : List A) (R : A → A → Type 0) → Ordered R l
    → ((x y : A) → Mem x l → Mem y l → R x y → S (f x) (f y)) → Ordered S (map f l)
ordered-map f S [] R o h = tt
ordered-map f S (x ∷ l) R o h = (
  λ y m. let r = Memᴰ.of_map f l m in subst (S (f x)) r.2 (h x r.0 (Memᴰ.head refl) (Memᴰ.tail r.1) (o.0 r.0 r.1)),
  ordered-map f S l R o.1 (λ a b m n. h a b (Memᴰ.tail m) (Memᴰ.tail n)),
)

-- ---- one before another

module _ {A : Type 0} where
  pub precedes-mem : (l : List A) (x y : A) → Precedes l x y → Mem x l × Mem y l
  precedes-mem [] x y p = absurd p
  precedes-mem (z ∷ l) x y (inl p) = (Memᴰ.head p.0, Memᴰ.tail p.1)
  precedes-mem (z ∷ l) x y (inr p) = let r = precedes-mem l x y p in (Memᴰ.tail r.0, Memᴰ.tail r.1)

  -- of two members, by where they stand
  pub precedes-cases : {x y : A} (l : List A) → Mem x l → Mem y l → (x ≡ y) ⊎ (Precedes l x y ⊎ Precedes l y x)
  precedes-cases {y = y} [] x3 _ = elim x3 [ ]
  precedes-cases (z ∷ l) (Memᴰ.head e) (Memᴰ.head f) = inl (e ∙ sym f)
  precedes-cases (z ∷ l) (Memᴰ.head e) (Memᴰ.tail n) = inr (inl (inl (e, n)))
  precedes-cases (z ∷ l) (Memᴰ.tail m) (Memᴰ.head f) = inr (inr (inl (f, m)))
  precedes-cases (z ∷ l) (Memᴰ.tail m) (Memᴰ.tail n) = ⊎_elim inl (λ c. inr (⊎_elim (λ p. inl (inr p)) (λ p. inr (inr p)) c))
      (precedes-cases l m n)

  pub precedes-irrefl : (l : List A) → Distinct l → (x : A) → Precedes l x x → ⊥
  precedes-irrefl [] d x p = p
  precedes-irrefl (z ∷ l) d x (inl p) = d.0 (Memᴰ.cast (sym p.0) p.1)
  precedes-irrefl (z ∷ l) d x (inr p) = precedes-irrefl l d.1 x p

  pub precedes-trans : (l : List A) → Distinct l → (x y z : A) → Precedes l x y → Precedes l y z → Precedes l x z
  precedes-trans [] d x y z p q = p
  precedes-trans (w ∷ l) d x y z (inl p) (inl q) = absurd (d.0 (Memᴰ.cast (sym q.0) p.1))
  precedes-trans (w ∷ l) d x y z (inl p) (inr q) = inl (p.0, (precedes-mem l y z q).1)
  precedes-trans (w ∷ l) d x y z (inr p) (inl q) = absurd (d.0 (Memᴰ.cast (sym q.0) (precedes-mem l x y p).1))
  precedes-trans (w ∷ l) d x y z (inr p) (inr q) = inr (precedes-trans l d.1 x y z p q)

  pub precedes-asym : (l : List A) → Distinct l → (x y : A) → Precedes l x y → Precedes l y x → ⊥
  precedes-asym l d x y p q = precedes-irrefl l d x (precedes-trans l d x y x p q)

  -- in a list of two parts: in the first, across, or in the second
  pub precedes-append : (a b : List A) (x y : A) → Precedes (a ++ b) x y → Precedes a x y ⊎ ((Mem x a × Mem y b) ⊎ Precedes b x y)
  precedes-append [] b x y p = inr (inr p)
  precedes-append (z ∷ a) b x y (inl p) = ⊎_elim (λ m. inl (inl (p.0, m))) (λ m. inr (inl (Memᴰ.head p.0, m)))
      (Memᴰ.append_cases a p.1)
  precedes-append (z ∷ a) b x y (inr p) =
      ⊎_elim (λ q. inl (inr q)) (λ q. inr (⊎_elim (λ m. inl (Memᴰ.tail m.0, m.1)) inr q)) (precedes-append a b x y p)

  pub precedes-left : (a b : List A) (x y : A) → Precedes a x y → Precedes (a ++ b) x y
  precedes-left [] b x y p = absurd p
  precedes-left (z ∷ a) b x y (inl p) = inl (p.0, Memᴰ.append_left b p.1)
  precedes-left (z ∷ a) b x y (inr p) = inr (precedes-left a b x y p)

  pub precedes-across : (a b : List A) (x y : A) → Mem x a → Mem y b → Precedes (a ++ b) x y
  precedes-across [] b x y x4 n = elim x4 [ ]
  precedes-across (z ∷ a) b x y (Memᴰ.head e) n = inl (e, Memᴰ.append_right a n)
  precedes-across (z ∷ a) b x y (Memᴰ.tail m) n = inr (precedes-across a b x y m n)

  pub precedes-right : (a b : List A) (x y : A) → Precedes b x y → Precedes (a ++ b) x y
  precedes-right [] b x y p = p
  precedes-right (z ∷ a) b x y p = inr (precedes-right a b x y p)

module _ {A B : Type 0} (f : A → B) where
  pub precedes-map : (l : List A) (x y : A) → Precedes l x y → Precedes (map f l) (f x) (f y)
  precedes-map [] x y p = p
  precedes-map (z ∷ l) x y (inl p) = inl (ap f p.0, Memᴰ.map f p.1)
  precedes-map (z ∷ l) x y (inr p) = inr (precedes-map l x y p)

  pub map-precedes : (l : List A) (u v : B) → Precedes (map f l) u v → (x : A) × (y : A) × Precedes l x y × (f x ≡ u) × (f y ≡ v)
  map-precedes [] u v p = absurd p
  map-precedes (z ∷ l) u v (inl p) = let r = Memᴰ.of_map f l p.1 in (z, r.0, inl (refl, r.1), sym p.0, r.2)
  map-precedes (z ∷ l) u v (inr p) = let r = map-precedes l u v p in (r.0, r.1, inr r.2, r.3, r.4)

-- ---- the two together

pub precedes-ordered : {A : Type 0} (l : List A) → Ordered (Precedes l) l
precedes-ordered [] = tt
precedes-ordered (z ∷ l) = (λ y m. inl (refl, m), ordered-imp (Precedes l) l (precedes-ordered l) (λ x y _ _ p. inr p))

module _ {A : Type 0} (R : A → A → Type 0) where
  pub ordered-precedes : (l : List A) → Ordered R l → (x y : A) → Precedes l x y → R x y
  ordered-precedes [] o x y p = absurd p
  ordered-precedes (z ∷ l) o x y (inl p) = subst (λ w. R w y) (sym p.0) (o.0 y p.1)
  ordered-precedes (z ∷ l) o x y (inr p) = ordered-precedes l o.1 x y p

  module _ (irreflexive : (x : A) → R x x → ⊥) (transitive : (x y z : A) → R x y → R y z → R x z) where
    -- R tells which of two members stands first
    pub related-precedes : {x y : A} (l : List A) → Ordered R l → Mem x l → Mem y l → R x y → Precedes l x y
    related-precedes {x} {y} l o m n r = ⊎_elim
        (λ e. absurd (irreflexive x (subst (R x) (sym e) r)))
        (λ c. ⊎_elim (λ p. p) (λ p. absurd (irreflexive x (transitive x y x r (ordered-precedes l o y x p)))) c)
        (precedes-cases l m n)

    first-same : (x y : A) (xs ys : List A) → Ordered R (x ∷ xs) → Ordered R (y ∷ ys) → Mem x (y ∷ ys) → Mem y (x ∷ xs) → x ≡ y
    first-same x y xs ys o o' (Memᴰ.head e) n = e
    first-same x y xs ys o o' (Memᴰ.tail m) (Memᴰ.head e) = sym e
    first-same x y xs ys o o' (Memᴰ.tail m) (Memᴰ.tail n) = absurd (irreflexive x (transitive x y x (o.0 y n) (o'.0 x m)))

    rest-into : (x y : A) (xs ys : List A) → x ≡ y → Ordered R (x ∷ xs) → ((z : A) → Mem z (x ∷ xs) → Mem z (y ∷ ys)) → (z : A) → Mem z xs → Mem z ys
    rest-into x y xs ys e o h z m = ⊎_elim (λ f. absurd (irreflexive x (subst (R x) (f ∙ sym e) (o.0 z m)))) (λ n. n)
        (Memᴰ.cases_cons (h z (Memᴰ.tail m)))

    -- members stand in order in one way only
    pub ordered_same : (xs ys : List A) → Ordered R xs → Ordered R ys → SameMembers xs ys → xs ≡ ys
    ordered_same [] [] o o' s = refl
    ordered_same [] (y ∷ ys) o o' s = absurd (Memᴰ.not-nil (s.from y (Memᴰ.head refl)))
    ordered_same (x ∷ xs) [] o o' s = absurd (Memᴰ.not-nil (s.into x (Memᴰ.head refl)))
    ordered_same (x ∷ xs) (y ∷ ys) o o' s =
        let e : x ≡ y = first-same x y xs ys o o' (s.into x (Memᴰ.head refl)) (s.from y (Memᴰ.head refl)) in
        ap₂ ◌∷◌ e (ordered_same xs ys o.1 o'.1 (record {
          into = rest-into x y xs ys e o s.into;
          from = rest-into y x ys xs (sym e) o'
              s.from;
        }))
