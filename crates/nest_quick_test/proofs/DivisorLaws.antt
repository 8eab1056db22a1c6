-- Absolute values and the greatest common divisor of all coefficients of two subscripts: the sign of a coefficient does not count.
use mathlib.Core.Path.{◌≡◌, refl, sym, ◌∙◌, ap}
use mathlib.Core.List.{List, [], ◌∷◌, ◌++◌, map}
use Prim.Native.Nat.{ℕ, zero, suc, ◌+◌, ◌*◌, ◌-◌, ◌%◌, ◌≤◌, ◌<◌}
use native.Mathlib.Omega.{arith}
use native.Mathlib.Nat.{mod-zero}
use lib.Dec.{eqb}
use lib.IntN.{ℤ, pos, negsuc, neg_ℤ, nat_abs}
use lib.ListN.{length, get_or, take, drop}
use lib.Seq.{drop-cons}
use Rattle.integers.specs.Difference.{size}
use Rattle.integers.specs.Gcd.{gcd, gcd_of}
use Rattle.integers.proofs.AffineLaws.{within-at}
use Rattle.model.specs.Quick.{divides, difference}
use Rattle.nest_index_range.proofs.LimitLaws.{copied}
use Rattle.nest_flat.specs.Layout.{form_at}
use Rattle.nest_quick_test.specs.Differences.{gcd_onto, difference_at, WordsIn}
use Rattle.nest_loop_ranges.proofs.TermLaws.{copy}

-- ---- absolute values

abs_neg : (a : ℤ) → nat_abs (neg_ℤ a) ≡ nat_abs a
abs_neg (pos zero) = refl
abs_neg (pos (suc n)) = refl
abs_neg (negsuc n) = refl

-- ---- divisibility

module _ (g m : ℕ) (c : ℤ) (h : size c ≤ 34359738368) (e : m ≡ nat_abs (copy c)) where
  read : m ≡ nat_abs c
  read = e ∙ ap nat_abs (copied c h)

  pub divides-none : g ≡ 0 → eqb m 0 ≡ divides g c
  unfolding divides
  divides-none z = ap (λ (k : ℕ). eqb k 0) (read ∙ sym (ap (λ (k : ℕ). nat_abs c % k) z ∙ mod-zero (nat_abs c)))

  pub divides-some : eqb (m % g) 0 ≡ divides g c
  unfolding divides
  divides-some = ap (λ (k : ℕ). eqb (k % g) 0) read

-- ---- the divisor of many

gcd-first : (w : List ℤ) (g k m j i : ℕ) → k ≡ suc m → i ≡ suc j → j < length w
    → gcd_onto (take k (drop j w)) g ≡ gcd (nat_abs (get_or w j (pos 0))) (gcd_onto (take m (drop i w)) g)
unfolding gcd_onto
gcd-first w g k m j i e f h = rw (e, f, drop-cons w j (pos 0) h)

module _ (w : List ℤ) (at n : ℕ) (p : WordsIn w at n) (g : ℕ) where
  pub gcd-none : g ≡ gcd_onto (take (n - n) (drop (at + n) w)) g
  unfolding gcd_onto
  gcd-none = let z : n - n ≡ 0 = omega arith in rw z

  module _ (i : ℕ) (h : 1 ≤ i) (l : i ≤ n) {c : ℤ} (d : c ≡ get_or w (at + (i - 1)) (pos 0)) where
    word_small : size (get_or w (at + (i - 1)) (pos 0)) ≤ 32767
    word_small = within-at 32767 w p.small (at + (i - 1))

    word-is : copy c ≡ get_or w (at + (i - 1)) (pos 0)
    word-is = let s = word_small in ap copy d ∙ copied (get_or w (at + (i - 1)) (pos 0)) (omega arith)

    pub gcd-more : (r m : ℕ) → r ≡ gcd_onto (take (n - i) (drop (at + i) w)) g → m ≡ nat_abs (copy c)
        → gcd m r ≡ gcd_onto (take (n - (i - 1)) (drop (at + (i - 1)) w)) g
    gcd-more r m e f = let v = p.inside in
        rw (e, f, word-is) (sym (gcd-first w g (n - (i - 1)) (n - i) (at + (i - 1)) (at + i) (omega arith) (omega arith) (omega arith)))

  pub gcd-all : (i r : ℕ) → i ≡ 0 → r ≡ gcd_onto (take (n - i) (drop (at + i) w)) g → r ≡ gcd_onto (take n (drop at w)) g
  gcd-all i r z e = let a : n - i ≡ n = omega arith in let b : at + i ≡ at = omega arith in e ∙ rw (a, b)

-- ---- of two subscripts

gcd-append : (cs ds : List ℤ) → gcd_of (cs ++ ds) ≡ gcd_onto cs (gcd_of ds)
unfolding gcd_of gcd_onto
gcd-append [] ds = refl
gcd-append (c ∷ cs) ds = ap (gcd (nat_abs c)) (gcd-append cs ds)

gcd-neg : (cs : List ℤ) → gcd_of (map neg_ℤ cs) ≡ gcd_onto cs 0
unfolding gcd_of gcd_onto
gcd-neg [] = refl
gcd-neg (c ∷ cs) = ap (λ (m : ℕ). gcd m (gcd_of (map neg_ℤ cs))) (abs_neg c) ∙ ap (gcd (nat_abs c)) (gcd-neg cs)

pub gcd-both : (w : List ℤ) (n u v g r : ℕ) → g ≡ gcd_onto (take n (drop (v * 8 + 1) w)) 0 → r ≡ gcd_onto (take n (drop (u * 8 + 1) w)) g
    → r ≡ gcd_of (difference_at w n u v).coefficients
unfolding difference_at difference form_at
gcd-both w n u v g r e f = f ∙ ap (gcd_onto (take n (drop (u * 8 + 1) w))) (e ∙ sym (gcd-neg (take n (drop (v * 8 + 1) w))))
    ∙ sym (gcd-append (take n (drop (u * 8 + 1) w)) (map neg_ℤ (take n (drop (v * 8 + 1) w))))
