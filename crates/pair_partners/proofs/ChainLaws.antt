-- Chains of points by element. In order: the first number that passes; the places of numbers; the elements of a point; heads and links of one
-- point more; the least of some numbers; chains.
use mathlib.Core.Path.{◌≡◌, refl, sym, ap, ap₂, ◌∙◌, subst}
use mathlib.Core.Bool.{Bool, true, false, cond, ◌&&◌, ◌||◌}
use mathlib.Core.Logic.{⊎_elim}
use mathlib.Core.List.{List}
use Prim.Native.Nat.{ℕ, suc, ◌+◌, ◌*◌, ◌≤◌, ◌<◌}
use native.Mathlib.Omega.{arith}
use native.Mathlib.Decide.{ℕ_discrete}
use native.Mathlib.Nat.{eq-or-lt_of_le}
use native.Mathlib.Numerals.{add-one}
use lib.Dec.{eqb, eqb→eq}
use lib.ListN.{length, get_or, set}
use lib.Seq.{get_or-set_same, get_or-set_other}
use borrow.Author.Tests.{eq-eqb, ne_eqb}
use borrow.Author.Count.{below_more}
use Rattle.lists.proofs.TestLaws.{true-T, and_both, cond_cases}
use Rattle.lists.proofs.PartLaws.{row_fits}
use Rattle.dependence_pair_search.specs.Search.{some}
use Rattle.dependence_pair_search.proofs.SomeLaws.{some-there}
use Rattle.pair_partners.specs.Chains.{number_at, names, First, Heads, LinkedAt, LinkedFrom, Links}
use Rattle.pair_partners.specs.Partners.{meets_access, Least}

-- ---- the first number that passes

module _ (p : ℕ → Bool) (n : ℕ) where
  pub first-end : First p n n n
  first-end = record { after = omega arith; inside = omega arith; passed = λ y a b. absurd (omega arith); there = λ h. absurd (omega arith) }

  pub first-before : (x r : ℕ) → x < n → First p (suc x) n r → First p x n (cond (p x) x r)
  first-before x r l h = let a = h.after in let i = h.inside in cond_cases (First p x n) (p x) x r
      (λ e. record { after = omega arith; inside = omega arith; passed = λ y g k. absurd (omega arith); there = λ _. e })
      (λ e. record {
        after = omega arith;
        inside = i;
        passed = λ y g k. ⊎_elim (λ q. subst (λ z. p z ≡ false) q e) (λ q. h.passed y q k) (eq-or-lt_of_le g);
        there = h.there;
      })

  pub first-later : (x y r : ℕ) → x ≤ y → y ≤ r → First p x n r → First p y n r
  first-later x y r l k h = record { after = k; inside = h.inside; passed = λ z a b. h.passed z (omega arith) b; there = h.there }

  -- what is there is passed
  pub first-after : (x r : ℕ) → (x ≡ r → ⊥) → First p x n r → First p (suc x) n r
  first-after x r d h = let a = h.after in ⊎_elim (λ e. absurd (d e)) (λ l. first-later x (suc x) r (omega arith) l h) (eq-or-lt_of_le a)

-- ---- places

-- a number of access k, of m, at point x, of n
pub number_fits : (n m k x room : ℕ) → k < m → x < n → m * n ≤ room → k * n + x < room
number_fits n m k x room h l r = let f = row_fits n k m h in omega arith

-- ---- the elements of a point

module _ (ids : List ℕ) (ws : List Bool) (n : ℕ) where
  abbrev counted : Bool → ℕ → Bool
  counted all k = all || get_or ws k false

  pub names_more : (all : Bool) (k e x : ℕ)
      → names ids ws n (k + 1) all e x ≡ (counted all k && eqb (number_at ids n k x) e) || names ids ws n k all e x
  unfolding names some
  names_more all k e x = ap (λ j. some j (λ i. counted all i && eqb (number_at ids n i x) e)) (add-one k)

  -- an access that names the element
  pub names_at : (m : ℕ) (all : Bool) (e x : ℕ) → names ids ws n m all e x ≡ true → (k : ℕ) × (k < m) × (number_at ids n k x ≡ e)
  unfolding names
  names_at m all e x h =
      let k = some-there m (λ i. counted all i && eqb (number_at ids n i x) e) (true-T _ h) in
      (k.0, k.1, eqb→eq (number_at ids n k.0 x) e (and_both (counted all k.0) (eqb (number_at ids n k.0 x) e) k.2).1)

  -- ---- heads of one point more

  -- after k accesses of point x
  abbrev pub Heading : Bool → List ℕ → List ℕ → ℕ → ℕ → Type 0
  Heading all heads₀ heads x k = (e : ℕ) → e < length heads₀ → get_or heads e 0 ≡ cond (names ids ws n k all e x) x (get_or heads₀ e 0)

  module _ (all : Bool) where
    pub heading-none : (heads : List ℕ) (x : ℕ) → Heading all heads heads x 0
    unfolding names some
    heading-none heads x e h = refl

    -- the access does not name the element, or does not count
    kept : (heads₀ heads : List ℕ) (x k e : ℕ) → counted all k && eqb (number_at ids n k x) e ≡ false
        → get_or heads e 0 ≡ cond (names ids ws n k all e x) x (get_or heads₀ e 0)
        → get_or heads e 0 ≡ cond (names ids ws n (k + 1) all e x) x (get_or heads₀ e 0)
    kept heads₀ heads x k e q h = h ∙ sym (ap (λ (b : Bool). cond b x (get_or heads₀ e 0))
        (names_more all k e x ∙ ap (◌|| names ids ws n k all e x) q))

    pub heading-more : (heads₀ heads : List ℕ) (x k i h : ℕ) → length heads ≡ length heads₀ → i < length heads → i ≡ number_at ids n k x → h ≡ x
        → counted all k ≡ true → Heading all heads₀ heads x k → Heading all heads₀ (set heads i h) x (k + 1)
    heading-more heads₀ heads x k i h l f q r c g e b = elim (ℕ_discrete e i) [
      | yes s ↦
          let t : number_at ids n k x ≡ e = sym q ∙ sym s in
          ap (λ (j : ℕ). get_or (set heads i h) j 0) s ∙ get_or-set_same heads i h 0 f ∙ r
          ∙ sym (ap (λ (b : Bool). cond b x (get_or heads₀ e 0)) (names_more all k e x
          ∙ ap (◌|| names ids ws n k all e x) (ap₂ ◌&&◌ c (eq-eqb (number_at ids n k x) e t))))
      | no s ↦
          kept heads₀ (set heads i h) x k e (ap₂ ◌&&◌ c (ne_eqb (number_at ids n k x) e (λ t. s (sym t ∙ sym q))))
          (get_or-set_other heads i e h 0 s ∙ g e b)
    ]

    pub heading-same : (heads₀ heads : List ℕ) (x k : ℕ) → counted all k ≡ false → Heading all heads₀ heads x k
        → Heading all heads₀ heads x (k + 1)
    heading-same heads₀ heads x k c g e b = kept heads₀ heads x k e (ap (◌&& eqb (number_at ids n k x) e) c) (g e b)

    module _ (m : ℕ) where
      pub heads-none : (heads : List ℕ) → ((e : ℕ) → e < length heads → get_or heads e 0 ≡ n) → Heads ids ws n m all n heads
      heads-none heads h e l = subst (First (names ids ws n m all e) n n) (sym (h e l)) (first-end (names ids ws n m all e) n)

      pub heads-before : (heads₀ heads : List ℕ) (x : ℕ) → x < n → length heads ≡ length heads₀ → Heads ids ws n m all (suc x) heads₀
          → Heading all heads₀ heads x m → Heads ids ws n m all x heads
      heads-before heads₀ heads x l q h g e b = subst (First (names ids ws n m all e) x n) (sym (g e (omega arith)))
          (first-before (names ids ws n m all e) n x (get_or heads₀ e 0) l (h e (omega arith)))

-- ---- links of one point more

module _ (ids : List ℕ) (n m : ℕ) where
  -- the links of k accesses of point x
  abbrev pub Linking : List ℕ → List ℕ → List ℕ → ℕ → ℕ → Type 0
  Linking heads links₀ links x k =
      ((j : ℕ) → j < k → get_or links (x * m + j) 0 ≡ get_or heads (number_at ids n j x) 0)
      × ((i : ℕ) → x * m + m ≤ i → get_or links i 0 ≡ get_or links₀ i 0)

  pub linking-more : (heads links₀ links : List ℕ) (x k i v : ℕ) → k < m → i ≡ x * m + k → i < length links
      → v ≡ get_or heads (number_at ids n k x) 0
      → Linking heads links₀ links x k → Linking heads links₀ (set links i v) x (k + 1)
  linking-more heads links₀ links x k i v h q l e g = (
    below_more _ k (λ j b. get_or-set_other links i (x * m + j) v 0 (λ s. absurd (omega arith)) ∙ g.0 j b)
        (ap (λ (a : ℕ). get_or (set links i v) a 0) (sym q) ∙ get_or-set_same links i v 0 l ∙ e),
    λ a b. get_or-set_other links i a v 0 (λ s. absurd (omega arith)) ∙ g.1 a b,
  )

  pub linked-before : (ws : List Bool) (all : Bool) (heads links₀ links : List ℕ) (x : ℕ) → x < n
      → ((k : ℕ) → k < m → number_at ids n k x < length heads)
      → Heads ids ws n m all (suc x) heads → LinkedFrom ids ws n m all (suc x) links₀ → Linking heads links₀ links x m
      → LinkedFrom ids ws n m all x links
  linked-before ws all heads links₀ links x l b h f g y a c = ⊎_elim here later (eq-or-lt_of_le a)
    where
      here : x ≡ y → LinkedAt ids ws n m all links y
      here e = subst (LinkedAt ids ws n m all links) e (λ k i. subst (First (names ids ws n m all (number_at ids n k x)) (suc x) n)
          (sym (g.0 k i)) (h (number_at ids n k x) (b k i)))

      later : x < y → LinkedAt ids ws n m all links y
      later k j i = subst (First (names ids ws n m all (number_at ids n j y)) (suc y) n)
          (sym (g.1 (y * m + j) (let s = row_fits m x y k in omega arith))) (f y k c j i)

-- ---- the least of some numbers

module _ (n : ℕ) (l : List ℕ) where
  pub least-none : Least 0 n l n
  least-none = record { inside = omega arith; lower = λ k h. absurd (omega arith); among = λ h. absurd (omega arith) }

  pub least-lower : (k r y : ℕ) → y ≡ get_or l k 0 → y < r → Least k n l r → Least (k + 1) n l y
  least-lower k r y e h g = let i = g.inside in record {
    inside = omega arith;
    lower = below_more (λ j. y ≤ get_or l j 0) k (λ j b. let m = g.lower j b in omega arith) (omega arith);
    among = λ _. (k, omega arith, sym e);
  }

  pub least-same : (k r y : ℕ) → y ≡ get_or l k 0 → r ≤ y → Least k n l r → Least (k + 1) n l r
  least-same k r y e h g = record {
    inside = g.inside;
    lower = below_more (λ j. r ≤ get_or l j 0) k g.lower (omega arith);
    among = λ b. let m = g.among b in let i = m.1 in (m.0, omega arith, m.2);
  }

-- ---- a list of numbers, one by one

-- what holds of those before k, and of what is put there
pub below_set : (P : ℕ → ℕ → Type 0) (l : List ℕ) (k v : ℕ) → k < length l → ((j : ℕ) → j < k → P j (get_or l j 0)) → P k v
    → (j : ℕ) → j < k + 1 → P j (get_or (set l k v) j 0)
below_set P l k v f h p = below_more (λ j. P j (get_or (set l k v) j 0)) k
    (λ j b. subst (P j) (sym (get_or-set_other l k j v 0 (λ s. absurd (omega arith)))) (h j b)) (subst (P k) (sym (get_or-set_same l k v 0 f)) p)

-- ---- chains

module _ (ids : List ℕ) (ws : List Bool) (n m : ℕ) (named written : List ℕ) (h : Links ids ws n m named written) where
  -- the link of access j of point y, which names the element of access k of point x, in the table that k follows
  pub link-next : (x y j k r : ℕ) → y < n → j < m → number_at ids n j y ≡ number_at ids n k x
      → r ≡ cond (get_or ws k false) (get_or named (y * m + j) 0) (get_or written (y * m + j) 0) → First (meets_access ids ws n m x k) (suc y) n r
  link-next x y j k r l i e q = subst (First (meets_access ids ws n m x k) (suc y) n) (sym q)
      (subst (λ z. First (names ids ws n m (get_or ws k false) z) (suc y) n (at (get_or ws k false))) e (by (get_or ws k false)))
    where
      at : Bool → ℕ
      at w = cond w (get_or named (y * m + j) 0) (get_or written (y * m + j) 0)

      by : (w : Bool) → First (names ids ws n m w (number_at ids n j y)) (suc y) n (at w)
      by true = h.to_named y (omega arith) l j i
      by false = h.to-written y (omega arith) l j i

module _ (ids : List ℕ) (ws : List Bool) (n m x y : ℕ) where
  abbrev Comes : ℕ → ℕ → ℕ → Type 0
  Comes z j v = First (meets_access ids ws n m x j) z n v

  -- the chains of the accesses before k have passed y, the others have not
  abbrev pub Advancing : List ℕ → ℕ → Type 0
  Advancing chains k = ((j : ℕ) → j < k → Comes (suc y) j (get_or chains j 0)) × ((j : ℕ) → k ≤ j → j < m → Comes y j (get_or chains j 0))

  pub advance-set : (chains : List ℕ) (k v : ℕ) → k < length chains → Comes (suc y) k v → Advancing chains k → Advancing (set chains k v) (k + 1)
  advance-set chains k v l h g = (
    below_set (Comes (suc y)) chains k v l g.0 h,
    λ j a b. subst (Comes y j) (sym (get_or-set_other chains k j v 0 (λ s. absurd (omega arith)))) (g.1 j (omega arith) b),
  )

  pub advance-keep : (chains : List ℕ) (k : ℕ) → k < m → (get_or chains k 0 ≡ y → ⊥) → Advancing chains k → Advancing chains (k + 1)
  advance-keep chains k l d g = (
    below_more (λ j. Comes (suc y) j (get_or chains j 0)) k g.0
        (first-after (meets_access ids ws n m x k) n y (get_or chains k 0) (λ e. d (sym e)) (g.1 k (omega arith) l)),
    λ j a b. g.1 j (omega arith) b,
  )
