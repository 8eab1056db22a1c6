-- What the code computes of digits and numbers is what it says of vectors. In order: the value of six digits; a number changed by its digits;
-- exchange, reversal and section; skew; the mark that is pulled.
use mathlib.Core.Path.{◌≡◌, refl, sym, ◌∙◌, ap, ap₂, subst}
use mathlib.Core.Bool.{Bool, true, false, ◌&&◌, ◌||◌, or-false}
use mathlib.Core.List.{List, [], ◌∷◌}
use Prim.Native.Nat.{ℕ, ◌+◌, ◌*◌, ◌-◌, ◌≤◌, ◌<◌}
use native.Mathlib.Omega.{arith}
use native.Mathlib.Numerals.{add-one}
use lib.Dec.{T, eqb, ltb}
use lib.ListN.{length, get_or, set}
use Rattle.integers.specs.Sign.{Sign, less, equal, greater, turned}
use Rattle.lists.specs.Place.{under, on_head, swapped}
use Rattle.lists.specs.Tests.{any}
use Rattle.lists.proofs.MembershipLaws.{all-get_d-default, all_nil, all_cons}
use Rattle.lists.proofs.TestLaws.{cond_cases}
use Rattle.model.specs.Steps.{any_sign}
use Rattle.model.specs.Directions.{vector_count}
use Rattle.dependence_vectors.specs.Numbers.{digit, digits_in, base3, number}
use Rattle.step_preimages.specs.Numbers.{digits_of, Digits, marked}
use Rattle.step_preimages.specs.Sources.{Source, joined, joined_digit, may_be_digit, gave, gave_digits, added_sign, Signed, SkewSource, skew_source}
use Rattle.step_preimages.proofs.NumberLaws.{digits-below, number_digits, digits_of-number, vector-digits}
use Rattle.step_preimages.proofs.DigitLaws.{digit_at, digit_set, set-digits, digit-turned, turned-digits, swapped-digits, joined_digits, joined-digits, may_be-digits}

-- ---- the value of six digits, as the code has it

pub digit-below : (d : List ℕ) (i : ℕ) → Digits d → get_or d i 0 < 3
digit-below d i h = all-get_d-default (λ x. x < 3) d i 0 (omega arith) h.small

pub six-small : (d : List ℕ) → Digits d → (get_or d 0 0 < 3) × (get_or d 1 0 < 3) × (get_or d 2 0 < 3) × (get_or d 3 0 < 3) × (get_or d 4 0 < 3)
    × (get_or d 5 0 < 3)
six-small d h = (digit-below d 0 h, digit-below d 1 h, digit-below d 2 h, digit-below d 3 h, digit-below d 4 h, digit-below d 5 h)

pub six-value : (d : List ℕ) → length d ≡ 6 → ((((get_or d 0 0 * 3 + get_or d 1 0) * 3 + get_or d 2 0) * 3 + get_or d 3 0) * 3 + get_or d 4 0) * 3 + get_or d 5
    0 ≡ base3 d
unfolding base3
six-value (x ∷ y ∷ z ∷ u ∷ v ∷ w ∷ []) e = omega arith
six-value [] e = absurd (omega arith)
six-value (x ∷ []) e = absurd (omega arith)
six-value (x ∷ y ∷ []) e = absurd (omega arith)
six-value (x ∷ y ∷ z ∷ []) e = absurd (omega arith)
six-value (x ∷ y ∷ z ∷ u ∷ []) e = absurd (omega arith)
six-value (x ∷ y ∷ z ∷ u ∷ v ∷ []) e = absurd (omega arith)
six-value (x ∷ y ∷ z ∷ u ∷ v ∷ w ∷ r ∷ d) e = absurd (omega arith)

-- ---- a number changed by its digits

pub these-digits : (d : List ℕ) (n : ℕ) → n < vector_count → d ≡ digits_of n → Digits d
these-digits d n h e = rw e (number_digits n h)

vector-of : (d : List ℕ) (n : ℕ) → d ≡ digits_of n → (v : List Sign) → number v ≡ n → d ≡ digits_in 6 v
vector-of d n e v f = e ∙ ap digits_of (sym f) ∙ digits_of-number v

source_is : (g : List Sign → List Sign) (loops n r : ℕ) (d x : List ℕ) → d ≡ digits_of n → Digits x → r ≡ base3 x
    → ((v : List Sign) → loops ≤ length v → length v ≤ 6 → d ≡ digits_in 6 v → x ≡ digits_in 6 (g v)) → Source g loops n r
unfolding number
source_is g loops n r d x e k f h = record {
  below = rw f (digits-below x k);
  same = λ v a b q. f ∙ ap base3 (h v a b (vector-of d n e v q));
}

-- ---- exchange, reversal and section

module _ (d : List ℕ) (n a : ℕ) (below : n < vector_count) (e : d ≡ digits_of n) where
  ok : Digits d
  ok = these-digits d n below e

  abbrev swap : List ℕ
  swap = set (set d a (get_or d (a + 1) 0)) (a + 1) (get_or d a 0)

  pub swap-digits : Digits swap
  swap-digits = set-digits (set d a (get_or d (a + 1) 0)) (a + 1) (get_or d a 0) (set-digits d a (get_or d (a + 1) 0) ok (digit-below d (a + 1) ok))
      (digit-below d a ok)

  pub swap-source : (r : ℕ) → r ≡ base3 swap → Source (under a swapped) (a + 2) n r
  swap-source r f = source_is (under a swapped) (a + 2) n r d swap e swap-digits f
      (λ v h l q. rw (add-one a, q) (swapped-digits 6 v a (omega arith) l))

  abbrev turn : List ℕ
  turn = set d a (2 - get_or d a 0)

  pub turn-digits : Digits turn
  turn-digits = set-digits d a (2 - get_or d a 0) ok (omega arith)

  pub turn-source : (r : ℕ) → r ≡ base3 turn → Source (under a (on_head turned)) (a + 1) n r
  turn-source r f = source_is (under a (on_head turned)) (a + 1) n r d turn e turn-digits f (λ v h l q. rw q (turned-digits 6 v a (omega arith) l))

-- the code's digits, each as it was made
module _ (d : List ℕ) (n a : ℕ) (below : n < vector_count) (e : d ≡ digits_of n) (x : List ℕ) (f : x ≡ joined_digits d a) where
  joined_small : (i : ℕ) → joined_digit d a i < 3
  joined_small i = let k = these-digits d n below e in
      cond_cases S (ltb i a) _ _ (λ _. digit-below d i k)
      (λ _. cond_cases S (ltb a i) _ _ (λ _. digit-below d (i + 1) k)
      (λ _. cond_cases S (eqb (get_or d a 0) 1) _ _ (λ _. digit-below d (a + 1) k) (λ _. digit-below d a k)))
    where
      S : ℕ → Type 0
      S y = y < 3

  pub join-digits : Digits x
  join-digits = rw f (record {
    six = refl;
    small = all_cons S (joined_small 0) (all_cons S (joined_small 1) (all_cons S (joined_small 2)
        (all_cons S (joined_small 3) (all_cons S (joined_small 4) (all_cons S (omega arith) (all_nil S))))));
  })
    where
      S : ℕ → Type 0
      S y = y < 3

  pub join_source : (r : ℕ) → r ≡ base3 x → Source (under a joined) (a + 2) n r
  join_source r g = source_is (under a joined) (a + 2) n r d x e join-digits g (λ v h l q. f ∙ rw q (joined-digits v a h l (vector-digits v).six))

-- ---- skew

pub signed-plus : (c : Bool) (x : ℕ) → x < 3 → c ≡ true → Signed c x x
signed-plus true x h e = record { small = h; same = λ t q. q }
signed-plus false x h e = let z : ◌≡◌ {A = Bool} true false = sym e in record { small = h; same = λ t q. absurd (subst T z tt) }

pub signed-minus : (c : Bool) (x : ℕ) → x < 3 → c ≡ false → Signed c x (2 - x)
signed-minus true x h e = record { small = omega arith; same = λ t q. absurd (subst T e tt) }
signed-minus false x h e = record { small = omega arith; same = λ t q. ap (λ y. 2 - y) q ∙ digit-turned t }

gave-digits : (old : List Bool) (v : List Sign) (b : ℕ) (s t : Sign) → b < length v → length v ≤ 6
    → gave_digits old (digits_in 6 v) b (digit s) (digit t) ≡ gave old v b s t
unfolding gave_digits number
gave-digits old v b s t h l = ap₂ (λ x y. may_be_digit (digit t) (digit s) x && get_or old (base3 y) false) (digit_at 6 v b h l) (digit_set 6 v b t h l)
    ∙ ap (λ x. x && marked old (set v b t)) (may_be-digits t s (get_or v b equal))

-- by the three signs that may have stood at b
pub skew-source-is : (old : List Bool) (d : List ℕ) (n a b s : ℕ) (c : Bool) → d ≡ digits_of n → a < b → Signed c (get_or d a 0) s
    → (r : Bool) → r ≡ (gave_digits old d b s 0 || (gave_digits old d b s 1 || gave_digits old d b s 2)) → SkewSource old a b c n r
unfolding skew_source any any_sign digit
skew-source-is old d n a b s c e h k r w v i l q =
    let f = vector-of d n e v q in
    let x = added_sign c (get_or v a equal) in
    let g : s ≡ digit x = k.same (get_or v a equal) (ap (λ y. get_or y a 0) f ∙ digit_at 6 v a (omega arith) l) in
    w ∙ rw (
      f,
      g,
      gave-digits old v b x less i l,
      gave-digits old v b x equal i l,
      gave-digits old v b x greater i l,
      or-false
          (gave old v b x greater),
    )

-- ---- the mark that is pulled

pub source-mark : (g : List Sign → List Sign) (loops n r : ℕ) → Source g loops n r → (old : List Bool) (v : List Sign) → loops ≤ length v
    → length v ≤ 6 → number v ≡ n
    → get_or old r false ≡ marked old (g v)
source-mark g loops n r s old v h l e = ap (λ m. get_or old m false) (s.same v h l e)
