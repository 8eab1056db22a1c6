-- Numbers within ±32767: what the model's test says of numbers, and the test as loops of the code make it.
use mathlib.Core.Path.{◌≡◌, refl, ap, ◌∙◌, subst}
use mathlib.Core.Bool.{Bool, true, false, ◌&&◌}
use mathlib.Core.List.{List, [], ◌∷◌}
use Prim.Native.Nat.{ℕ, ◌<◌, ◌≤◌, ◌+◌}
use native.Mathlib.Omega.{arith}
use native.Mathlib.Numerals.{add-one}
use lib.Dec.{T, leb, leb→le, le→leb}
use lib.IntN.{ℤ, pos, negsuc, nat_abs}
use lib.ListN.{length, get_or, take}
use lib.Seq.{take_all}
use lib.Signed.{◌≤ℤ◌, ◌<ℤ◌}
use Rattle.integers.specs.Affine.{Within}
use Rattle.integers.specs.Difference.{size}
use Rattle.integers.proofs.RangeLaws.{size-nat_abs, size_of}
use Rattle.integers.proofs.DifferenceLaws.{lt-nat}
use Rattle.lists.specs.Tests.{all}
use Rattle.lists.proofs.MembershipLaws.{get_d-mem}
use Rattle.lists.proofs.TestLaws.{T_true, not-T-false, false-not-T, and_both, all-holds, all-take-suc}
use Rattle.model.specs.Judge.{small}
use Rattle.std.specs.List.{list_all}

-- ---- what the test says

pub number_small : (x : ℤ) → T (small x) → size x ≤ 32767
unfolding small
number_small x t = let h = leb→le (nat_abs x) 32767 t in omega (arith, size-nat_abs x)

pub row_small : (cs : List ℤ) → T (all small cs) → Within 32767 cs
unfolding all
row_small [] t = tt
row_small (x ∷ cs) t = let b = and_both (small x) (all small cs) t in (number_small x b.0, row_small cs b.1)

-- ---- one number

pub above-fails : (x : ℤ) → pos 32767 <ℤ x → small x ≡ false
unfolding small
above-fails x h = not-T-false (leb (nat_abs x) 32767) (λ t. let k = leb→le (nat_abs x) 32767 t in let u = lt-nat (pos 32767) x h
    in let q = size-nat_abs x in absurd (omega arith))

pub below_fails : (x : ℤ) → x <ℤ negsuc 32766 → small x ≡ false
unfolding small
below_fails x h = not-T-false (leb (nat_abs x) 32767) (λ t. let k = leb→le (nat_abs x) 32767 t in let u = lt-nat x (negsuc 32766) h
    in let q = size-nat_abs x in absurd (omega arith))

pub between-passes : (x : ℤ) → x ≤ℤ pos 32767 → negsuc 32766 ≤ℤ x → small x ≡ true
unfolding small
between-passes x h g = T_true (leb (nat_abs x) 32767) (le→leb (nat_abs x) 32767 (let s = size_of x 32767 h g in let q = size-nat_abs x in omega arith))

-- ---- a list, element by element

-- as std's `all` over an iterator says it
pub list_all-all : {A : Type 0} (t : A → Bool) (l : List A) → list_all t l ≡ all t l
unfolding all
list_all-all t [] = refl
list_all-all t (x ∷ l) = ap (t x &&◌) (list_all-all t l)

module _ {A : Type 0} (t : A → Bool) (l : List A) where
  pub all_none : all t (take 0 l) ≡ true
  unfolding all
  all_none = refl

  pub all-next : (k : ℕ) (d : A) → k < length l → all t (take k l) ≡ true → t (get_or l k d) ≡ true → all t (take (k + 1) l) ≡ true
  all-next k d h e q = rw (add-one k) (all-take-suc t l k d h ∙ rw (e, q))

  pub all_done : (k : ℕ) → length l ≤ k → all t (take k l) ≡ true → all t l ≡ true
  all_done k h e = subst (λ w. all t w ≡ true) (take_all k l h) e

  pub all-broken : (k : ℕ) (d : A) → k < length l → t (get_or l k d) ≡ false → all t l ≡ false
  all-broken k d h e = not-T-false (all t l) (λ s. false-not-T (t (get_or l k d)) e (all-holds t l s (get_or l k d) (get_d-mem l k d h)))
