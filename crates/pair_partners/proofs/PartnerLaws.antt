-- The partners of a point. In order: the order of two rows, number by number; numbers between two; the points that conflict; one partner more.
use mathlib.Core.Path.{◌≡◌, refl, sym, ap, ap₂, ◌∙◌, subst}
use mathlib.Core.Bool.{Bool, true, false, cond, ◌&&◌}
use mathlib.Core.Logic.{◌⊎◌, ⊎_elim}
use mathlib.Core.List.{List, [], ◌∷◌, ◌++◌, append-nil}
use Prim.Native.Nat.{ℕ, suc, ◌+◌, ◌*◌, ◌-◌, ◌≤◌, ◌<◌}
use native.Mathlib.Omega.{arith}
use native.Mathlib.Nat.{add-zero, eq-or-lt_of_le}
use lib.Dec.{eqb}
use lib.IntN.{ℤ, pos}
use lib.ListN.{length, get_or, set, take, drop, length-set}
use lib.Seq.{drop-cons, take-suc-set}
use native.Mathlib.Numerals.{add-one}
use Rattle.lists.specs.Tests.{select}
use Rattle.lists.proofs.TestLaws.{true-T, T_true, not-T-false, false-not-T, select-append, select-none}
use Rattle.dependence_pair_search.specs.Search.{some}
use Rattle.dependence_pair_search.proofs.SomeLaws.{some-there, there-some}
use Rattle.model.proofs.Steps.ChainLaws.{up-parts}
use Rattle.model.proofs.Listing.LineOrderLaws.{up_from-mem}
use Rattle.integers.specs.Sign.{Sign, less, equal, greater, sign}
use Rattle.model.specs.Directions.{earlier, by_sign, up_from}
use Rattle.dependence_vectors.specs.Numbers.{digit}
use Rattle.dependence_vectors.specs.Candidates.{row}
use Rattle.pair_partners.specs.Chains.{First}
use Rattle.pair_partners.specs.Partners.{meets_access, conflicting, row_before, between, is_partner, partners, ChainsAt, Least}
use Rattle.pair_partners.proofs.ChainLaws.{first-later}

-- ---- the order of two rows

-- a digit other than 1 decides, and 1 leaves it to the next
differs : (t : Sign) → (digit t ≡ 1 → ⊥) → (u : Bool) → eqb (digit t) 0 ≡ by_sign t true u false
unfolding digit
differs less n u = refl
differs equal n u = absurd (n refl)
differs greater n u = refl

agrees : (t : Sign) → digit t ≡ 1 → (u : Bool) → by_sign t true u false ≡ u
unfolding digit
agrees less n u = absurd (omega arith)
agrees equal n u = refl
agrees greater n u = absurd (omega arith)

module _ (s : List ℤ) where
  -- m numbers from place i on
  abbrev from : ℕ → ℕ → List ℤ
  from i m = take m (drop i s)

  from_cons : (i m : ℕ) → i < length s → from i (suc m) ≡ get_or s i (pos 0) ∷ from (suc i) m
  from_cons i m h = ap (take (suc m)) (drop-cons s i (pos 0) h)

  one_more : (i j m : ℕ) → i < length s → j < length s
      → earlier (from i (suc m)) (from j (suc m))
      ≡ by_sign (sign (get_or s i (pos 0)) (get_or s j (pos 0))) true (earlier (from (suc i) m) (from (suc j) m)) false
  unfolding earlier
  one_more i j m h g = ap₂ earlier (from_cons i m h) (from_cons j m g)

  module _ (d y x k : ℕ) (h : y * d + k < length s) (g : x * d + k < length s) (l : k < d) where
    abbrev a : ℤ
    a = get_or s (y * d + k) (pos 0)

    abbrev b : ℤ
    b = get_or s (x * d + k) (pos 0)

    -- the numbers before k are equal
    abbrev pub Even : ℕ → Type 0
    Even j = row_before d s y x ≡ earlier (from (y * d + j) (d - j)) (from (x * d + j) (d - j))

    split : Even k → row_before d s y x ≡ by_sign (sign a b) true (earlier (from (suc (y * d + k)) (d - suc k)) (from (suc (x * d + k))
        (d - suc k))) false
    split e = e ∙ ap (λ m. earlier (from (y * d + k) m) (from (x * d + k) m)) (let q : d - k ≡ suc (d - suc k) = omega arith in q)
        ∙ one_more (y * d + k) (x * d + k) (d - suc k) h g

    pub rows-differ : Even k → (r : ℕ) → r ≡ digit (sign a b) → (r ≡ 1 → ⊥) → eqb r 0 ≡ row_before d s y x
    rows-differ e r q n = ap (λ z. eqb z 0) q ∙ differs (sign a b) (λ u. n (q ∙ u)) _ ∙ sym (split e)

    pub rows-equal : Even k → (r : ℕ) → r ≡ digit (sign a b) → r ≡ 1 → Even (k + 1)
    rows-equal e r q u = split e ∙ agrees (sign a b) (sym q ∙ u) _
        ∙ ap₂ (λ i j. earlier (from i (d - suc k)) (from j (d - suc k)))
        (let q : suc (y * d + k) ≡ y * d + (k + 1) = omega arith in q) (let q : suc (x * d + k) ≡ x * d + (k + 1) = omega arith in q)
        ∙ ap (λ m. earlier (from (y * d + (k + 1)) m) (from (x * d + (k + 1)) m)) (let q : d - suc k ≡ d - (k + 1) = omega arith in q)

  pub rows-begin : (d y x : ℕ) → row_before d s y x ≡ earlier (from (y * d + 0) (d - 0)) (from (x * d + 0) (d - 0))
  unfolding row_before row
  rows-begin d y x = ap₂ (λ i j. earlier (from i d) (from j d)) (sym (add-zero (y * d))) (sym (add-zero (x * d)))
      ∙ ap (λ m. earlier (from (y * d + 0) m) (from (x * d + 0) m)) (let q : d ≡ d - 0 = omega arith in q)

  pub rows_end : (d y x k : ℕ) → d ≤ k → row_before d s y x ≡ earlier (from (y * d + k) (d - k)) (from (x * d + k) (d - k))
      → false ≡ row_before d s y x
  unfolding earlier
  rows_end d y x k l e = sym (e ∙ ap (λ m. earlier (from (y * d + k) m) (from (x * d + k) m)) (let q : d - k ≡ 0 = omega arith in q))

-- ---- numbers between two

pub between_none : (a : ℕ) → between a a ≡ []
unfolding between up_from
between_none a = ap (up_from a) (let q : a - a ≡ 0 = omega arith in q)

pub between-one : (a : ℕ) → between a (suc a) ≡ a ∷ []
unfolding between up_from
between-one a = ap (up_from a) (let q : suc a - a ≡ 1 = omega arith in q)

pub between-parts : (a b c : ℕ) → a ≤ b → b ≤ c → between a c ≡ between a b ++ between b c
unfolding between
between-parts a b c h g = ap (up_from a) (let q : c - a ≡ (b - a) + (c - b) = omega arith in q) ∙ up-parts a (b - a) (c - b)
    ∙ ap (λ z. up_from a (b - a) ++ up_from z (c - b)) (let q : a + (b - a) ≡ b = omega arith in q)

-- ---- the points that conflict

module _ (ids : List ℕ) (ws : List Bool) (n m x : ℕ) where
  -- the least point that a chain has come to is the first that conflicts
  pub least-conflicts : (y r : ℕ) (chains : List ℕ) → y ≤ n → ChainsAt ids ws n m x y chains → Least m n chains r
      → First (conflicting ids ws n m x) y n r
  unfolding conflicting
  least-conflicts y r chains b h g = record {
    after = ⊎_elim (λ e. omega arith) (λ l. let k = g.among l in let a = (h k.0 k.1).after in let e = k.2 in
        omega arith) (eq-or-lt_of_le g.inside);
    inside = g.inside;
    passed = λ z a l. not-T-false (some m (at z)) (λ t. let k = some-there m (at z) t in let c = h k.0 k.1 in
        let w = g.lower k.0 k.1 in
        false-not-T (at z k.0) (c.passed z a (omega arith)) k.2);
    there = λ l. let k = g.among l in
        T_true (some m (at r)) (there-some m k.0 (at r) k.1 (true-T (at r k.0) (subst (λ z. at z k.0 ≡ true) k.2
        ((h k.0 k.1).there (let e = k.2 in omega arith)))));
  }
    where
      at : ℕ → ℕ → Bool
      at z k = meets_access ids ws n m x k z

  -- where the chains have come to
  pub chains-later : (y r : ℕ) (chains : List ℕ) → ChainsAt ids ws n m x y chains → y ≤ r → Least m n chains r → ChainsAt ids ws n m x r chains
  chains-later y r chains h l g k b = first-later (meets_access ids ws n m x k) n y r (get_or chains k 0) l (g.lower k b) (h k b)

  -- ---- one partner more

  module _ (d : ℕ) (s : List ℤ) where
    abbrev found : ℕ → List ℕ
    found y = select (is_partner ids ws n m d s x) (between (suc x) y)

    -- no partner before the first that conflicts
    none_before : (y r : ℕ) → First (conflicting ids ws n m x) y n r → select (is_partner ids ws n m d s x) (between y r) ≡ []
    unfolding is_partner between
    none_before y r f = select-none (is_partner ids ws n m d s x) (between y r) (λ z i. let b = up_from-mem y (r - y) i in let a = f.after in
        false-not-T (is_partner ids ws n m d s x z) (ap (◌&& row_before d s z x) (f.passed z b.0 (let c = b.1 in omega arith))))

    pub found_none : (r : ℕ) → First (conflicting ids ws n m x) (suc x) n r → found r ≡ []
    found_none r f = none_before (suc x) r f

    pub found-more : (y r : ℕ) → suc x ≤ y → conflicting ids ws n m x y ≡ true → First (conflicting ids ws n m x) (suc y) n r
        → found r ≡ found y ++ cond (row_before d s y x) (y ∷ []) []
    unfolding is_partner select
    found-more y r h e f =
        ap (select t) (between-parts (suc x) y r h (let a = f.after in omega arith))
        ∙ select-append t (between (suc x) y) (between y r)
        ∙ ap (found y ++◌) (ap (select t) (between-parts y (suc y) r (omega arith) f.after ∙ ap (◌++ between (suc y) r) (between-one y))
        ∙ rw (e, none_before (suc y) r f) refl)
      where
        t : ℕ → Bool
        t = is_partner ids ws n m d s x

    -- the chains have come to y, and the partners before it are written
    pub record Finding (out₀ out chains₀ chains : List ℕ) (count y : ℕ) : Type 0 where
      pub after : suc x ≤ y
      pub inside : y ≤ n
      pub room : length out ≡ length out₀
      pub table : length chains ≡ length chains₀
      pub few : count ≤ y
      pub written : take count out ≡ found y
      pub come : ChainsAt ids ws n m x y chains
      pub there : y < n → conflicting ids ws n m x y ≡ true

    pub finding-begin : (out chains : List ℕ) (r : ℕ) → x < n → ChainsAt ids ws n m x (suc x) chains → Least m n chains r
        → Finding out out chains chains 0 r
    finding-begin out chains r l h g = let f = least-conflicts (suc x) r chains l h g in record {
      after = f.after;
      inside = f.inside;
      room = refl;
      table = refl;
      few = omega arith;
      written = sym (found_none r f);
      come = chains-later (suc x) r chains h f.after g;
      there = f.there;
    }

    -- y was written if it is a partner, and the chains were taken on to r
    pub finding-more : (out₀ out out' chains₀ chains chains' : List ℕ) (c c' y r : ℕ) → Finding out₀ out chains₀ chains c y → y < n → c < length out
        → ((row_before d s y x ≡ true) × (out' ≡ set out c y) × (c' ≡ c + 1)) ⊎ ((row_before d s y x ≡ false) × (out' ≡ out) × (c' ≡ c))
        → length chains' ≡ length chains → ChainsAt ids ws n m x (suc y) chains' → Least m n chains' r → Finding out₀ out' chains₀ chains' c' r
    finding-more out₀ out out' chains₀ chains chains' c c' y r h l b w t k g = let f = least-conflicts (suc y) r chains' l k g in let a = f.after in
        let i = h.after in let z = h.few in record {
          after = omega arith;
          inside = f.inside;
          room = ⊎_elim (λ u. ap length u.1 ∙ length-set out c y ∙ h.room) (λ u. ap length u.1 ∙ h.room) w;
          table = t ∙ h.table;
          few = ⊎_elim (λ u. let e = u.2 in omega arith) (λ u. let e = u.2 in omega arith) w;
          written = ⊎_elim
              (λ u. ap₂ take (u.2 ∙ add-one c) u.1 ∙ take-suc-set out c y b ∙ ap (◌++ y ∷ []) h.written
              ∙ sym (found-more y r i (h.there l) f ∙ ap (λ (t : Bool). found y ++ cond t (y ∷ []) []) u.0))
              (λ u. ap₂ take u.2 u.1 ∙ h.written
              ∙ sym (found-more y r i (h.there l) f ∙ ap (λ (t : Bool). found y ++ cond t (y ∷ []) []) u.0 ∙ append-nil (found y))) w;
          come = chains-later (suc y) r chains' k a g;
          there = f.there;
        }

    pub finding-end : (out₀ out chains₀ chains : List ℕ) (c y : ℕ) → Finding out₀ out chains₀ chains c y → n ≤ y
        → (c ≤ n) × (take c out ≡ partners ids ws n m d s x)
    unfolding partners
    finding-end out₀ out chains₀ chains c y h l = let i = h.inside in let z = h.few in let e : y ≡ n = omega arith in
        (omega arith, h.written ∙ ap found e)
