-- The numbers of vectors that are = at some loops. In order: loops that do not vary; the digits of a number, innermost first.
use mathlib.Core.Path.{◌≡◌, refl, sym, ap, ◌∙◌}
use mathlib.Core.Bool.{Bool, true, false}
use mathlib.Core.Logic.{◌⊎◌, inl, inr, ⊎_elim}
use mathlib.Core.List.{List, [], ◌∷◌, ◌++◌}
use Prim.Native.Nat.{ℕ, zero, suc, ◌+◌, ◌*◌, ◌-◌, ◌/◌, ◌%◌, ◌≤◌, ◌<◌}
use native.Mathlib.Omega.{arith}
use lib.Dec.{ltb}
use lib.IntN.{ℤ, pos}
use lib.ListN.{length, replicate, take, drop, get_or, get_or-eq_default}
use lib.Seq.{take-suc, take_all, get_or-take, get_or-drop}
use borrow.Author.Tests.{ltb-true, ltb-false}
use Rattle.integers.specs.Sign.{Sign, equal, sign}
use Rattle.integers.proofs.SignLaws.{Means, sign-means, sign-self}
use Rattle.model.specs.Directions.{signs}
use Rattle.dependence_vectors.specs.Numbers.{digit, number_after}
use Rattle.dependence_vectors.specs.Candidates.{row, Agree, Steady, Candidate}
use Rattle.dependence_vectors.proofs.HornerLaws.{number-after}
use Rattle.dependence_vectors.proofs.NumberLaws.{digit_lt, digit-unique, after-append, padded, signs-short}
use Rattle.dependence_vectors.proofs.VectorLaws.{row-length, row-short}

-- ---- loops that do not vary

pub le-cases : (u v : ℕ) → (u ≤ v) ⊎ (v < u)
le-cases u v = go (ltb v u) refl
  where
    go : (b : Bool) → ltb v u ≡ b → (u ≤ v) ⊎ (v < u)
    go true e = inr (ltb-true v u e)
    go false e = inl (ltb-false v u e)

pub equal-digit : (a b : ℤ) → digit (sign a b) ≡ 1 → b ≡ a
unfolding digit
equal-digit a b e = let f : sign a b ≡ equal = digit-unique (sign a b) equal e in sym (means f (sign-means a b))
  where
    means : sign a b ≡ equal → Means (sign a b) a b → a ≡ b
    means f m = rw f at m

pub signs-get_d : (p q : List ℤ) (k : ℕ) → length p ≡ length q → k < length p → get_or (signs p q) k equal ≡ sign (get_or p k (pos 0)) (get_or q k (pos 0))
unfolding signs
signs-get_d [] q k e h = absurd (omega arith)
signs-get_d (x ∷ p) [] k e h = absurd (omega arith)
signs-get_d (x ∷ p) (y ∷ q) zero e h = refl
signs-get_d (x ∷ p) (y ∷ q) (suc k) e h = signs-get_d p q k (omega arith) (omega arith)

row-get_d : (d : ℕ) (s : List ℤ) (x k : ℕ) → k < d → get_or (row d s x) k (pos 0) ≡ get_or s (x * d + k) (pos 0)
unfolding row
row-get_d d s x k h = get_or-take d (drop (x * d) s) k (pos 0) h ∙ get_or-drop (x * d) s k (pos 0)

-- signs of two points that agree at every loop that does not vary
pub agreed-steady : (d : ℕ) (s : List ℤ) (varying : List Bool) (x y : ℕ) → x * d + d ≤ length s → y * d + d ≤ length s
    → ((k : ℕ) → k < d → get_or varying k false ≡ false → Agree d s k x y)
    → Steady varying (signs (row d s x) (row d s y))
agreed-steady d s varying x y h g agree k e = ⊎_elim
    (λ l. get_or-eq_default (signs (row d s x) (row d s y)) equal (past l))
    (λ l. signs-get_d (row d s x) (row d s y) k (row-length d s x h ∙ sym (row-length d s y g)) (inside l)
    ∙ simp (row-get_d d s x k l, row-get_d d s y k l, agree k l e, sign-self (get_or s (y * d + k) (pos 0))))
    (le-cases d k)
  where
    past : d ≤ k → length (signs (row d s x) (row d s y)) ≤ k
    past l = let a = signs-short (row d s x) (row d s y) in let b = row-short d s x in omega arith

    inside : k < d → k < length (row d s x)
    inside l = let a = row-length d s x h in omega arith

-- ---- the digits of a number, innermost first

padded-get_d : (u : List Sign) (n k : ℕ) → get_or (u ++ replicate n equal) k equal ≡ get_or u k equal
padded-get_d [] zero k = refl
padded-get_d [] (suc n) zero = refl
padded-get_d [] (suc n) (suc k) = padded-get_d [] n k
padded-get_d (x ∷ u) n zero = refl
padded-get_d (x ∷ u) n (suc k) = padded-get_d u n k

-- w is what is left of v for the k outermost of its six signs
abbrev pub Outer : ℕ → ℕ → ℕ → Type 0
Outer v k w = (u : List Sign) → length u ≡ 6 → number_after 0 u ≡ v → w ≡ number_after 0 (take k u)

pub outer-all : (v : ℕ) → Outer v 6 v
outer-all v u l e = sym e ∙ ap (number_after 0) (sym (take_all 6 u (omega arith)))

pub after-take : (u : List Sign) (k : ℕ) → k < length u → number_after 0 (take (suc k) u) ≡ number_after 0 (take k u) * 3 + digit (get_or u k equal)
unfolding number_after
after-take u k h = ap (number_after 0) (take-suc u k equal h) ∙ after-append (take k u) (get_or u k equal ∷ []) 0

module _ (v k w : ℕ) (h : 0 < k) (g : k ≤ 6) (outer : Outer v k w) where
  parts : (u : List Sign) → length u ≡ 6 → number_after 0 u ≡ v → w ≡ number_after 0 (take (k - 1) u) * 3 + digit (get_or u (k - 1) equal)
  parts u l e = let i : k ≡ suc (k - 1) = omega arith in outer u l e ∙ ap (λ z. number_after 0 (take z u)) i ∙ after-take u (k - 1) (omega arith)

  pub outer-next : Outer v (k - 1) (w / 3)
  outer-next u l e = let a = parts u l e in let b = digit_lt (get_or u (k - 1) equal) in omega arith

  innermost : (u : List Sign) → length u ≡ 6 → number_after 0 u ≡ v → w % 3 ≡ digit (get_or u (k - 1) equal)
  innermost u l e = let a = parts u l e in let b = digit_lt (get_or u (k - 1) equal) in omega arith

  pub no-candidate : (varying : List Bool) → get_or varying (k - 1) false ≡ false → (w % 3 ≡ 1 → ⊥) → Candidate varying v false
  unfolding digit
  no-candidate varying f other u l steady e = absurd (other (innermost (u ++ replicate (6 - length u) equal) (padded u l)
      (sym (number-after u l) ∙ e)
      ∙ ap digit (padded-get_d u (6 - length u) (k - 1) ∙ steady (k - 1) f)))
