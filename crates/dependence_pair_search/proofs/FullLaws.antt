-- All that two accesses can set: the look for what is missing, and the search that is left because nothing is.
use mathlib.Core.Path.{◌≡◌, refl, sym, ap, ◌∙◌, subst}
use mathlib.Core.Bool.{Bool, true, false, ◌||◌, true≢false}
use mathlib.Core.Logic.{◌⊎◌, inl, inr, ⊎_elim}
use mathlib.Core.List.{List, [], ◌∷◌}
use Prim.Native.Nat.{ℕ, zero, suc, ◌+◌, ◌*◌, ◌-◌, ◌/◌, ◌≤◌, ◌<◌}
use native.Mathlib.Nat.{eq-or-lt_of_le, add-mul, one-mul, lt_of_mul-lt-mul_right}
use native.Mathlib.Omega.{arith}
use native.Mathlib.Decide.{dec_lt}
use lib.Dec.{T, eqb, eqb→eq}
use lib.IntN.{ℤ, pos}
use lib.ListN.{length, get_or, set, take, drop}
use lib.Seq.{get_or-set_same, get_or-set_other}
use borrow.Author.Tests.{eqb-true, eqb-false}
use Rattle.integers.specs.Sign.{Sign}
use Rattle.lists.specs.Order.{Ordered}
use Rattle.lists.specs.Parts.{rows}
use Rattle.lists.proofs.MembershipLaws.{get_d-mem}
use Rattle.lists.proofs.PartLaws.{row_fits, length-rows, rows-get_d}
use Rattle.lists.proofs.TestLaws.{T-same, true-T, and_both, or_cases, or_left, or_right}
use Rattle.model.specs.Directions.{signs}
use Rattle.model.specs.Inside.{Earlier}
use Rattle.dependence_vectors.specs.Numbers.{number}
use Rattle.dependence_vectors.specs.Candidates.{row, code, stride, Agree, Steady}
use Rattle.dependence_pair_search.specs.Search.{some, latest, up_to, Links, hit, found, Adds, Level, LevelElse, FullBelow, Full, Passed}
use Rattle.dependence_pair_search.specs.Search.{Searchable, Followable}
use Rattle.dependence_pair_search.proofs.SomeLaws.{some-there, there-some}
use Rattle.dependence_pair_search.proofs.ChainLaws.{latest-there, up_to-le}
use Rattle.dependence_vectors.proofs.NumberLaws.{number-self, number-earlier, signs-length}
use Rattle.dependence_vectors.proofs.DepthLaws.{OfDepth, depth-number, depth-positive, depth-first, depth-least}
use Rattle.dependence_vectors.proofs.VectorLaws.{row-length}
use Rattle.dependence_vectors.proofs.CandidateLaws.{agreed-steady}

-- ---- the steps of a look

module _ (varying : List Bool) (base : ℕ) (m : List Bool) (s v : ℕ) where
  pub none_passed : Passed varying base m s v v
  none_passed = record { steps = 0; reached = omega arith; marked = λ u t h. absurd (omega arith) }

  pub one-passed : (w : ℕ) → ((u : List Sign) → length u ≤ 6 → Steady varying u → number u ≡ w → get_or m (base + w) false ≡ true)
      → Passed varying base m s v w → Passed varying base m s v (w + s)
  one-passed w h p = record {
    steps = p.steps + 1;
    reached = (let a = p.reached in let b = add-mul p.steps 1 s in let c = one-mul s in omega arith);
    marked = λ u t k l steady e. ⊎_elim
        (λ i. let f : number u ≡ w = e ∙ ap (λ (z : ℕ). v + z * s) i
        ∙ sym p.reached in subst (λ z. get_or m (base + z) false ≡ true) (sym f) (h u l steady f))
        (λ i. p.marked u t i l steady e)
        (eq-or-lt_of_le (let z : t ≤ p.steps = omega arith in z));
  }

-- ---- the look for the vectors of a depth

-- v is the number of a vector of d loops, or beyond them all, and those before it are marked; it is the first as long as it is not known which loops vary
pub record Looking (d s : ℕ) (varying : List Bool) (base : ℕ) (m : List Bool) (known : Bool) (v : ℕ) : Type 0 where
  pub at : OfDepth d v
  pub full : FullBelow d varying base m v
  pub first : known ≡ false → v ≡ (s - 1) / 2

module _ (d s : ℕ) (e : s ≡ stride (6 - d)) where
  same-steps : (t : ℕ) → t * s ≡ t * stride (6 - d)
  same-steps t = ap (t *◌) e

  depth-after : (v t : ℕ) → OfDepth d v → OfDepth d (v + t * s)
  depth-after v t p = (p.0 + t, let a = add-mul p.0 t (stride (6 - d)) in let b = p.1 in let c = same-steps t in omega arith)

  depth-steps : (v w : ℕ) → OfDepth d v → OfDepth d w → v ≤ w → (t : ℕ) × (w ≡ v + t * s)
  depth-steps v w p q h = elim (dec_lt q.0 p.0) [
    | yes k ↦ let a = p.1 in let b = q.1 in let c = row_fits (stride (6 - d)) q.0 p.0 k in let f = depth-positive d s e in absurd
        (omega arith)
    | no k ↦ let l : p.0 + (q.0 - p.0) ≡ q.0 = omega arith in (
      q.0 - p.0,
      let a = p.1 in let b = q.1 in let c = add-mul p.0 (q.0 - p.0) (stride (6 - d)) in let g = ap (◌* stride (6 - d)) l
          in let f = same-steps (q.0 - p.0) in omega arith,
    )
  ]

  full-first : (varying : List Bool) (base : ℕ) (m : List Bool) → FullBelow d varying base m ((s - 1) / 2)
  full-first varying base m u l steady h = let a = depth-least d s e (number u) (depth-number u d l) in absurd (omega arith)

  module _ (varying : List Bool) (base : ℕ) (m : List Bool) where
    pub look-begins : Looking d s varying base m false ((s - 1) / 2)
    look-begins = record { at = depth-first d s e; full = full-first varying base m; first = λ _. refl }

    module _ (v : ℕ) where
      pub look-again : (m' : List Bool) (f : ℕ → Bool) (known : Bool) → Adds m m' f → Looking d s varying base m known v
          → Looking d s varying base m' known v
      look-again m' f known a p = record {
        at = p.at;
        full = λ u l steady h. a (base + number u)
            ∙ ap (◌|| f (base + number u)) (p.full u l steady h);
        first = p.first;
      }

      -- the loops that vary become known
      pub look_known : (varying' : List Bool) → Looking d s varying base m false v → Looking d s varying' base m true v
      look_known varying' p = record {
        at = p.at;
        full = subst (FullBelow d varying' base m) (sym (p.first refl)) (full-first varying' base m);
        first = λ i. absurd (true≢false i);
      }

      pub look-goes-on : (r : ℕ) → d ≤ 6 → Passed varying base m s v r → Looking d s varying base m true v → Looking d s varying base m true r
      look-goes-on r h g p = record {
        at = subst (OfDepth d) (sym g.reached) (depth-after v g.steps p.at);
        full = below;
        first = λ i.
            absurd (true≢false i);
      }
        where
          below : FullBelow d varying base m r
          below u l steady k = elim (dec_lt (number u) v) [
            | yes i ↦ p.full u l steady i
            | no i ↦ let t = depth-steps v (number u) p.at (depth-number u d l) (omega arith) in
                g.marked u t.0 (let a = g.reached in let b = t.1 in lt_of_mul-lt-mul_right s (omega arith)) (omega arith) steady t.1
          ]

-- ---- points in order

-- a list in order, by numbers
pub ordered-get_d : {A : Type 0} (R : A → A → Type 0) (l : List A) (i j : ℕ) (d : A) → Ordered R l → i < j → j < length l → R (get_or l i d) (get_or l j d)
ordered-get_d R [] i j d o h g = absurd (omega arith)
ordered-get_d R (x ∷ l) i zero d o h g = absurd (omega arith)
ordered-get_d R (x ∷ l) zero (suc j) d o h g = o.0 (get_or l j d) (get_d-mem l j d (omega arith))
ordered-get_d R (x ∷ l) (suc i) (suc j) d o h g = ordered-get_d R l i j d o.1 (omega arith) (omega arith)

module _ (d n : ℕ) (s : List ℤ) (shallow : d ≤ 6) (stored : n * d ≤ length s) (rising : Ordered Earlier (rows d n s)) where
  pub row_is : (x : ℕ) → x < n → length (row d s x) ≡ d
  row_is x h = row-length d s x (let a = row_fits d x n h in omega arith)

  pub rows-rise : (x y : ℕ) → x < y → y < n → Earlier (row d s x) (row d s y)
  unfolding row
  rows-rise x y h g = let l = length-rows d n s in
      subst (λ p. Earlier p (take d (drop (y * d) s))) (rows-get_d d n s x [] (omega arith))
      (subst (λ q. Earlier (get_or (rows d n s) x []) q) (rows-get_d d n s y [] g) (ordered-get_d Earlier (rows d n s) x y [] rising h (omega arith)))

  -- the numbers that can be found
  pub code_forward : (own : Bool) (x y : ℕ) → x < up_to own y → y < n → code d s x y < up_to own 364
  unfolding code up_to
  code_forward true x y h g = let a = row_is y g in ⊎_elim
      (λ e. let b = number-self (row d s y) (omega arith) in let c : number (signs (row d s x) (row d s y)) ≡ number
      (signs (row d s y) (row d s y)) = ap (λ z. number (signs (row d s z) (row d s y))) e in omega arith)
      (λ l. let b = row_is x (omega arith) in let c = number-earlier (row d s x) (row d s y) (omega arith) (omega arith) (rows-rise x y l g)
      in omega arith)
      (eq-or-lt_of_le (let z : x ≤ y = omega arith in z))
  code_forward false x y h g = let a = row_is y g in let b = row_is x (omega arith) in number-earlier (row d s x) (row d s y) (omega arith)
      (omega arith) (rows-rise x y h g)

-- ---- loops that do not vary along chains

pub level-turn : (d : ℕ) (s : List ℤ) (links : List ℕ) (k x w : ℕ) → w ≡ get_or links x 0 → (w ≡ 0) ⊎ Agree d s k (w - 1) x → Level d s x links k
    → Level d s (x + 1) links k
level-turn d s links k x w e h f j l g = ⊎_elim (λ i. subst (λ z. get_or links z 0 ≡ suc l → Agree d s k l z) (sym i) (here h)) (f j l)
    (eq-or-lt_of_le (let z : j ≤ x = omega arith in z))
  where
    here : (w ≡ 0) ⊎ Agree d s k (w - 1) x → get_or links x 0 ≡ suc l → Agree d s k l x
    here (inl i) b = absurd (omega arith)
    here (inr i) b = let c : w - 1 ≡ l = omega arith in subst (λ z. Agree d s k z x) c i

pub level-more : (d : ℕ) (s : List ℤ) (n : ℕ) (next start : List ℕ) (k : ℕ) (varying : List Bool) (b : Bool) → k < length varying
    → (b ≡ false → Level d s n next k × Level d s n start k)
    → LevelElse d s n next start k varying → LevelElse d s n next start (k + 1) (set varying k b)
level-more d s n next start k varying b h c else j l e = ⊎_elim
    (λ i. subst (λ z. Level d s n next z × Level d s n start z) (sym i) (c (sym (get_or-set_same varying k b false h)
    ∙ subst (λ z. get_or (set varying k b) z false ≡ false) i e)))
    (λ i. else j i (sym (get_or-set_other varying k j b false (lt-other i)) ∙ e))
    (eq-or-lt_of_le (let z : j ≤ k = omega arith in z))
  where
    lt-other : {j k : ℕ} → j < k → j ≡ k → ⊥
    lt-other h e = omega arith

module _ (d : ℕ) (s : List ℤ) (from next : List ℕ) (k : ℕ) (nexts : Links from from false next) (level : Level d s (length from) next k) where
  -- all sources of an element agree with the latest
  level-sources : (e n x l : ℕ) → n ≤ length from → x < n → get_or from x 0 ≡ e → latest from e n ≡ suc l → Agree d s k x l
  unfolding latest up_to
  level-sources e zero x l h g i j = absurd (omega arith)
  level-sources e (suc m) x l h g i j = go (λ y a b c. level-sources e m x y (omega arith) a b c) (eqb (get_or from m 0) e) refl
    where
      go : ((y : ℕ) → x < m → get_or from x 0 ≡ e → latest from e m ≡ suc y → Agree d s k x y) → (t : Bool) → eqb (get_or from m 0) e ≡ t
          → Agree d s k x l
      go ih true b = let f : suc m ≡ suc l = rw b at j in let f' : m ≡ l = omega arith in
          ⊎_elim (λ q. ap (λ z. get_or s (z * d + k) (pos 0)) (q ∙ f')) (λ q. earlier q f' (latest from e m) refl)
          (eq-or-lt_of_le (let z : x ≤ m = omega arith in z))
        where
          earlier : x < m → m ≡ l → (v : ℕ) → latest from e m ≡ v → Agree d s k x l
          earlier q f zero r = absurd (latest-there from e m x q i r)
          earlier q f (suc y) r = ih y q i r ∙ level m y (omega arith) (nexts m (omega arith)
              ∙ ap (λ z. latest from z m) (eqb-true (get_or from m 0) e b) ∙ r) ∙ ap (λ z. get_or s (z * d + k) (pos 0)) f
      go ih false b = ih l (before (eq-or-lt_of_le (let z : x ≤ m = omega arith in z))) i (rw b at j)
        where
          before : (x ≡ m) ⊎ (x < m) → x < m
          before (inl q) = absurd (eqb-false (get_or from m 0) e b (ap (λ z. get_or from z 0) (sym q) ∙ i))
          before (inr q) = q

  -- and with every sink of it
  level-pair : (to : List ℕ) (own : Bool) (start : List ℕ) → Links from to own start → Level d s (length from) start k
      → (x y : ℕ) → y < length from → x < up_to own y → get_or from x 0 ≡ get_or to y 0 → Agree d s k x y
  level-pair to own start starts sinks x y h g e = go (latest from (get_or to y 0) (up_to own y)) refl
    where
      go : (v : ℕ) → latest from (get_or to y 0) (up_to own y) ≡ v → Agree d s k x y
      go zero r = absurd (latest-there from (get_or to y 0) (up_to own y) x g e r)
      go (suc l) r = level-sources (get_or to y 0) (up_to own y) x l (up_to-le own y (length from) h) g e r ∙ sinks y l h (starts y h ∙ r)

-- ---- the search that is left

pub left-early : (s : List ℤ) (d : ℕ) (varying : List Bool) (from to : List ℕ) (own : Bool) (base : ℕ) (next start : List ℕ) (m₀ m : List Bool)
    (y : ℕ) → Searchable s d from to base m₀ → Followable from to own next start
    → LevelElse d s (length from) next start d varying → y ≤ length from
    → Full d varying own base m → Adds m₀ m (found d s y from to own base) → Adds m₀ m (found d s (length from) from to own base)
unfolding found hit code
left-early s d varying from to own base next start m₀ m y ok links else h full a j = T-same (get_or m j false)
    (get_or m₀ j false || found d s n from to own base j)
    (λ g. ⊎_elim (λ k. or_left (get_or m₀ j false) (found d s n from to own base j) k)
    (λ k. or_right (get_or m₀ j false) (found d s n from to own base j) (let r = some-there y (sink j) k in there-some n r.0 (sink j)
    (let l = r.1 in omega arith) r.2))
    (or_cases (get_or m₀ j false) (found d s y from to own base j) (subst T (a j) g)))
    (λ g. ⊎_elim (λ k. subst T (sym (a j)) (or_left (get_or m₀ j false) (found d s y from to own base j) k)) marked
    (or_cases (get_or m₀ j false) (found d s n from to own base j) g))
  where
    n : ℕ
    n = length from

    sink : ℕ → ℕ → Bool
    sink j y = some (up_to own y) (hit d s from to base j y)

    marked : T (found d s n from to own base j) → T (get_or m j false)
    marked g =
        let p = some-there n (sink j) g in
        let q = some-there (up_to own p.0) (hit d s from to base j p.0) p.2 in
        let y = p.0 in let x = q.0 in
        let k = up_to-le own y n p.1 in let l = q.1 in
        let t = and_both (eqb (get_or from x 0) (get_or to y 0)) (eqb (base + code d s x y) j) q.2 in
        let e : base + code d s x y ≡ j = eqb→eq (base + code d s x y) j t.1 in
        true-T (get_or m j false) (subst (λ z. get_or m z false ≡ true) e
        (full (signs (row d s x) (row d s y)) (sized x y (omega arith) p.1) (steady x y p.1 q.1
        (eqb→eq (get_or from x 0) (get_or to y 0) t.0)) (code_forward d n s ok.shallow ok.stored ok.rising own x y q.1 p.1)))
      where
        sized : (x y : ℕ) → x < n → y < n → length (signs (row d s x) (row d s y)) ≡ d
        sized x y h g = let a = row_is d n s ok.shallow ok.stored ok.rising x h in let b = row_is d n s ok.shallow ok.stored
            ok.rising y g in signs-length (row d s x) (row d s y) (a ∙ sym b) ∙ a

        fits : (x : ℕ) → x < n → x * d + d ≤ length s
        fits x h = let a = row_fits d x n h in let b = ok.stored in omega arith

        steady : (x y : ℕ) → y < n → x < up_to own y → get_or from x 0 ≡ get_or to y 0 → Steady varying (signs (row d s x) (row d s y))
        steady x y h g e = let k = up_to-le own y n h in agreed-steady d s varying x y (fits x (omega arith)) (fits y h)
            (λ k l v. let w = else k l v in level-pair d s from next k links.nexts w.0 to own start links.starts w.1 x y h g e)
