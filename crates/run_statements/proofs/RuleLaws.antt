-- The words that a statement reads, one more at a time, and what the rules make of them, by the rule's number.
use Rattle.std.proofs.Common.{◌≡◌, ℕ, zero, suc, ◌+◌, ◌*◌, ◌%◌, ◌^◌, ◌<◌, ◌≤◌, cond, ltb, max, List, [], ◌∷◌, ◌++◌, length, get_or, sym, refl, ap, ◌∙◌, add-zero, add_assoc, add-suc, mul-le-mul_right, suc-add, add-one, arith, ltb-true, ltb-false, eq-eqb, ne_eqb}
use native.Mathlib.Nat.{mod-add-mod}
use Rattle.lists.proofs.PartLaws.{row_fits}
use Rattle.lists.proofs.TestLaws.{cond_cases}
use Rattle.model.specs.Store.{sum, most, first_of, make}
use Rattle.run_statements.specs.Flat.{number_at, fetched, FetchIn}

-- ---- one read more

fetched-snoc : (numbers : List ℕ) (count x : ℕ) (w : List ℕ) (k n : ℕ)
    → fetched numbers count x w k (suc n) ≡ fetched numbers count x w k n ++ (get_or w (number_at numbers count (k + n) x) 0 ∷ [])
unfolding fetched
fetched-snoc numbers count x w k zero = rw (add-zero k)
fetched-snoc numbers count x w k (suc n) = ap (get_or w (number_at numbers count k x) 0 ∷◌)
    (fetched-snoc numbers count x w (suc k) n ∙ ap (λ (j : ℕ). fetched numbers count x w (suc k) n ++ (get_or w (number_at numbers count j x) 0 ∷ []))
    (suc-add k n ∙ sym (add-suc k n)))

sum-snoc : (l : List ℕ) (v : ℕ) → sum (l ++ (v ∷ [])) ≡ sum l + v
unfolding sum
sum-snoc [] v = omega arith
sum-snoc (u ∷ l) v = omega (arith, sum-snoc l v)

most-snoc : (c : ℕ) (l : List ℕ) (v : ℕ) → most c (l ++ (v ∷ [])) ≡ cond (ltb (most c l) v) v (most c l)
unfolding most
most-snoc c [] v = refl
most-snoc c (u ∷ l) v = most-snoc (cond (ltb c u) u c) l v

module _ (numbers : List ℕ) (count x : ℕ) (w : List ℕ) (k c : ℕ) where
  pub sum-none : c < 4294967296 → c ≡ (c + sum (fetched numbers count x w k 0)) % 2 ^ 32
  unfolding fetched sum
  sum-none h = omega arith

  pub sum-next : (i r v m : ℕ) → r ≡ (c + sum (fetched numbers count x w k i)) % 2 ^ 32 → v ≡ get_or w (number_at numbers count (k + i) x) 0
      → m ≡ (r + v) % 2 ^ 32
      → m ≡ (c + sum (fetched numbers count x w k (i + 1))) % 2 ^ 32
  sum-next i r v m p e q =
      q ∙ ap (λ (t : ℕ). (t + v) % 2 ^ 32) p ∙ mod-add-mod (c + sum (fetched numbers count x w k i)) (2 ^ 32) v
      ∙ ap (λ (t : ℕ). t % 2 ^ 32) (add_assoc c (sum (fetched numbers count x w k i)) v ∙ ap (c +◌) (sym last))
    where
      last : sum (fetched numbers count x w k (i + 1)) ≡ sum (fetched numbers count x w k i) + v
      last = ap (λ (j : ℕ). sum (fetched numbers count x w k j)) (add-one i) ∙ ap sum (fetched-snoc numbers count x w k i)
          ∙ sum-snoc (fetched numbers count x w k i) (get_or w (number_at numbers count (k + i) x) 0)
          ∙ ap (sum (fetched numbers count x w k i) +◌) (sym e)

  pub most-none : c ≡ most c (fetched numbers count x w k 0)
  unfolding fetched most
  most-none = refl

  module _ (i r v : ℕ) (p : r ≡ most c (fetched numbers count x w k i)) (e : v ≡ get_or w (number_at numbers count (k + i) x) 0) where
    most-next : most c (fetched numbers count x w k (i + 1)) ≡ cond (ltb r v) v r
    most-next = ap (λ (j : ℕ). most c (fetched numbers count x w k j)) (add-one i) ∙ ap (most c) (fetched-snoc numbers count x w k i)
        ∙ most-snoc c (fetched numbers count x w k i) (get_or w (number_at numbers count (k + i) x) 0) ∙ rw (← p, ← e)

    pub most-max : max r v ≡ most c (fetched numbers count x w k (i + 1))
    most-max = cond_cases (λ (m : ℕ). max r v ≡ m) (ltb r v) v r (λ e. let h = ltb-true r v e in omega arith)
        (λ e. let h = ltb-false r v e in omega arith) ∙ sym most-next

pub first-none : (numbers : List ℕ) (count x : ℕ) (w : List ℕ) (k n : ℕ) → n ≡ 0 → 0 ≡ first_of (fetched numbers count x w k n)
unfolding fetched first_of
first-none numbers count x w k zero e = refl
first-none numbers count x w k (suc n) e = absurd (omega arith)

pub first_some : (numbers : List ℕ) (count x : ℕ) (w : List ℕ) (k n : ℕ) → (n ≡ 0 → ⊥)
    → get_or w (number_at numbers count k x) 0 ≡ first_of (fetched numbers count x w k n)
unfolding fetched first_of
first_some numbers count x w k zero f = absurd (f refl)
first_some numbers count x w k (suc n) f = refl

-- ---- by the rule's number

module _ (rule c : ℕ) (vs : List ℕ) where
  pub made_one : rule ≡ 1 → (c + sum vs) % 2 ^ 32 ≡ make rule c vs
  unfolding make
  made_one e = rw (eq-eqb rule 1 e)

  pub made-two : rule ≡ 2 → most c vs ≡ make rule c vs
  unfolding make
  made-two e = rw (ne_eqb rule 1 (omega arith), eq-eqb rule 2 e)

  pub made-three : rule ≡ 3 → first_of vs ≡ make rule c vs
  unfolding make
  made-three e = rw (ne_eqb rule 1 (omega arith), ne_eqb rule 2 (omega arith), eq-eqb rule 3 e)

  pub made_none : (rule ≡ 1 → ⊥) → (rule ≡ 2 → ⊥) → (rule ≡ 3 → ⊥) → 0 ≡ make rule c vs
  unfolding make
  made_none f g h = rw (ne_eqb rule 1 f, ne_eqb rule 2 g, ne_eqb rule 3 h)

-- ---- what a read asks

module _ {numbers : List ℕ} {count room x k n : ℕ} (p : FetchIn numbers count room x k n) where
  fewer : (m : ℕ) → m ≤ k + n → m * count ≤ length numbers
  fewer m h = let q = mul-le-mul_right count h in let l = p.numbered in omega arith

  pub one-read : (i : ℕ) → i < n → FetchIn numbers count room x (k + i) 1
  one-read i h = let f = p.few in let m = p.numbered in record {
    few = omega arith;
    point = p.point;
    numbered = fewer (k + i + 1) (omega arith);
    inside = λ j l. p.inside j (omega arith);
  }

  pub first_read : (n ≡ 0 → ⊥) → FetchIn numbers count room x k 1
  first_read h = let f = p.few in let m = p.numbered in let l : 0 < n = positive n h
      in record { few = omega arith; point = p.point; numbered = fewer (k + 1) (omega arith); inside = λ j g. p.inside j (omega arith) }
    where
      positive : (n : ℕ) → (n ≡ 0 → ⊥) → 0 < n
      positive zero h = absurd (h refl)
      positive (suc n) h = omega arith

pub one_number : {numbers : List ℕ} {count room x k : ℕ} → FetchIn numbers count room x k 1 → k * count + x < length numbers
one_number {numbers} {count} {room} {x} {k} p = let m = p.numbered in let l = p.point in let q = row_fits count k (k + 1) (omega arith) in omega
    arith

pub number-inside : {numbers : List ℕ} {count room x k : ℕ} → FetchIn numbers count room x k 1 → (r : ℕ) → r ≡ number_at numbers count k x → r < room
number-inside {numbers} {count} {room} {x} {k} p r e = let i = p.inside k (omega arith) in omega arith
