-- Numbers of vectors. In order: base three, its bound, that lists of digits with one number are equal; the digits of a vector and of a number;
-- numbers of vectors of one depth are distinct, and each below vector_count is that of a vector; which vectors point backwards.
use mathlib.Core.Path.{◌≡◌, refl, sym, ◌∙◌, ap, ap₂, subst}
use mathlib.Core.List.Memᴰ
use mathlib.Core.List.{List, [], ◌∷◌, map}
use Prim.Native.Nat.{ℕ, zero, suc, ◌+◌, ◌*◌, ◌/◌, ◌%◌, ◌^◌, ◌≤◌, ◌<◌}
use native.Mathlib.Omega.{arith}
use native.Mathlib.Nat.{pow-suc}
use native.Mathlib.Decide.{dec_lt}
use lib.Dec.{ltb}
use lib.ListN.{length, take, drop}
use lib.Seq.{length-take-le}
use borrow.Author.Tests.{lt-ltb, le-ltb}
use Rattle.integers.specs.Sign.{Sign, less, equal, greater}
use Rattle.lists.specs.Membership.{All}
use Rattle.lists.proofs.MembershipLaws.{all_nil, all_cons}
use Rattle.lists.proofs.PartLaws.{row-unique}
use Rattle.model.specs.Directions.{backwards, vector_count}
use Rattle.dependence_vectors.specs.Numbers.{digit, digits_in, base3, number}
use Rattle.dependence_vectors.proofs.NumberLaws.{digit_lt, digit-unique}
use Rattle.step_preimages.specs.Numbers.{digits_of, sign_of, vector_of, Digits}

-- ---- base three

abbrev Small : List ℕ → Type 0
Small = All (λ x. x < 3)

rest-small : {x : ℕ} {d : List ℕ} → Small (x ∷ d) → Small d
rest-small a y m = a y (Memᴰ.tail m)

base3-below : (d : List ℕ) → Small d → base3 d < 3 ^ length d
unfolding base3
base3-below [] a = omega arith
base3-below (x ∷ d) a = let h = a x (Memᴰ.head refl) in let r = base3-below d (rest-small a) in scale x (3 ^ length d) (base3 d) h r
    (pow-suc 3 (length d))
  where
    scale : (x w y : ℕ) → x < 3 → y < w → {z : ℕ} → z ≡ w * 3 → x * w + y < z
    scale zero w y h k e = omega arith
    scale (suc zero) w y h k e = omega arith
    scale (suc (suc zero)) w y h k e = omega arith
    scale (suc (suc (suc x))) w y h k e = absurd (omega arith)

base3-injective : (d e : List ℕ) → length d ≡ length e → Small d → Small e → base3 d ≡ base3 e → d ≡ e
unfolding base3
base3-injective [] [] l a b h = refl
base3-injective [] (y ∷ e) l a b h = absurd (omega arith)
base3-injective (x ∷ d) [] l a b h = absurd (omega arith)
base3-injective (x ∷ d) (y ∷ e) l a b h =
    let m : length d ≡ length e = omega arith in
    let k : base3 e < 3 ^ length d = rw m (base3-below e (rest-small b)) in
    let r = row-unique (3 ^ length d) x y (base3 d) (base3 e) (base3-below d (rest-small a)) k (h ∙ ap (λ n. y * 3 ^ n + base3 e) (sym m)) in
    ap₂ ◌∷◌ r.0 (base3-injective d e m (rest-small a) (rest-small b) r.1)

pub digits-below : (d : List ℕ) → Digits d → base3 d < vector_count
digits-below d h = rw h.six at (base3-below d h.small)

pub digits-unique : (d e : List ℕ) → Digits d → Digits e → base3 d ≡ base3 e → d ≡ e
digits-unique d e h k = base3-injective d e (h.six ∙ sym k.six) h.small k.small

-- ---- the digits of a vector

length-digits_in : (k : ℕ) (v : List Sign) → length (digits_in k v) ≡ k
unfolding digits_in
length-digits_in zero v = refl
length-digits_in (suc k) [] = ap suc (length-digits_in k [])
length-digits_in (suc k) (s ∷ v) = ap suc (length-digits_in k v)

digits_in-small : (k : ℕ) (v : List Sign) → Small (digits_in k v)
unfolding digits_in
digits_in-small zero v = all_nil (λ x. x < 3)
digits_in-small (suc k) [] = all_cons (λ x. x < 3) (omega arith) (digits_in-small k [])
digits_in-small (suc k) (s ∷ v) = all_cons (λ x. x < 3) (digit_lt s) (digits_in-small k v)

pub vector-digits : (v : List Sign) → Digits (digits_in 6 v)
vector-digits v = record { six = length-digits_in 6 v; small = digits_in-small 6 v }

digits_in-injective : (k : ℕ) (u v : List Sign) → length u ≡ length v → length v ≤ k → digits_in k u ≡ digits_in k v → u ≡ v
unfolding digits_in
digits_in-injective k [] [] l h e = refl
digits_in-injective k [] (t ∷ v) l h e = absurd (omega arith)
digits_in-injective k (s ∷ u) [] l h e = absurd (omega arith)
digits_in-injective zero (s ∷ u) (t ∷ v) l h e = absurd (omega arith)
digits_in-injective (suc k) (s ∷ u) (t ∷ v) l h e =
    let p : digit s ≡ digit t = cc in
    let q : digits_in k u ≡ digits_in k v = cc in
    ap₂ ◌∷◌ (digit-unique s t p) (digits_in-injective k u v (omega arith) (omega arith) q)

pub number-below : (v : List Sign) → number v < vector_count
unfolding number
number-below v = digits-below (digits_in 6 v) (vector-digits v)

-- vectors of one depth have distinct numbers
pub number-injective : (u v : List Sign) → length u ≡ length v → length v ≤ 6 → number u ≡ number v → u ≡ v
unfolding number
number-injective u v l h e = digits_in-injective 6 u v l h (digits-unique (digits_in 6 u) (digits_in 6 v) (vector-digits u) (vector-digits v) e)

-- ---- the digits of a number

pub number_digits : (n : ℕ) → n < vector_count → Digits (digits_of n)
unfolding digits_of
number_digits n h = record {
  six = refl;
  small = all_cons S (omega arith) (all_cons S (omega arith) (all_cons S (omega arith)
      (all_cons S (omega arith) (all_cons S (omega arith) (all_cons S (omega arith) (all_nil S))))));
}
  where
    S : ℕ → Type 0
    S x = x < 3

pub base3-digits_of : (n : ℕ) → base3 (digits_of n) ≡ n
unfolding digits_of base3
base3-digits_of n = weigh (n / 243) (n / 81) (n / 27) (n / 9) (n / 3) n (omega arith) (omega arith) (omega arith) (omega arith) (omega arith)
  where
    weigh : (a b c d e n : ℕ) → b ≡ a * 3 + b % 3 → c ≡ b * 3 + c % 3 → d ≡ c * 3 + d % 3 → e ≡ d * 3 + e % 3 → n ≡ e * 3 + n % 3
        → a * 243 + (b % 3 * 81 + (c % 3 * 27 + (d % 3 * 9 + (e % 3 * 3 + (n % 3 * 1 + 0))))) ≡ n
    weigh a b c d e n p q r s t = omega arith

-- the digits of a vector's number are those of its signs
pub digits_of-number : (v : List Sign) → digits_of (number v) ≡ digits_in 6 v
unfolding number
digits_of-number v = let h = number-below v in digits-unique (digits_of (number v)) (digits_in 6 v) (number_digits (number v) h) (vector-digits v)
    (base3-digits_of (number v))

-- ---- a number below vector_count is that of a vector, of any depth from which on its digits are those of =

digit-sign_of : (x : ℕ) → x < 3 → digit (sign_of x) ≡ x
unfolding sign_of digit
digit-sign_of zero h = refl
digit-sign_of (suc zero) h = refl
digit-sign_of (suc (suc zero)) h = refl
digit-sign_of (suc (suc (suc x))) h = absurd (omega arith)

-- the digits from a depth on are those of =
abbrev pub Level : ℕ → List ℕ → Type 0
Level d xs = All (λ x. x ≡ 1) (drop d xs)

digits_in-signs : (d : ℕ) (xs : List ℕ) → Small xs → Level d xs → digits_in (length xs) (take d (map sign_of xs)) ≡ xs
unfolding digits_in
digits_in-signs zero [] a l = refl
digits_in-signs (suc d) [] a l = refl
digits_in-signs zero (x ∷ xs) a l = ap₂ ◌∷◌ (sym (l x (Memᴰ.head refl))) (digits_in-signs zero xs (rest-small a) (λ y m. l y (Memᴰ.tail m)))
digits_in-signs (suc d) (x ∷ xs) a l = ap₂ ◌∷◌ (digit-sign_of x (a x (Memᴰ.head refl))) (digits_in-signs d xs (rest-small a) l)

pub number-vector_of : (d n : ℕ) → n < vector_count → Level d (digits_of n) → number (vector_of d n) ≡ n
unfolding number vector_of
number-vector_of d n h l =
    let k = number_digits n h in
    ap base3 (ap (λ m. digits_in m (take d (map sign_of (digits_of n)))) (sym k.six) ∙ digits_in-signs d (digits_of n) k.small l) ∙ base3-digits_of n

pub length-vector_of : (d n : ℕ) → d ≤ 6 → length (vector_of d n) ≡ d
unfolding vector_of digits_of
length-vector_of d n h = length-take-le d (map sign_of (digits_of n)) h

-- every number below vector_count is that of one vector of six signs
pub number-six : (n : ℕ) → n < vector_count
    → (v : List Sign) × (length v ≡ 6) × (number v ≡ n) × ((u : List Sign) → length u ≡ 6 → number u ≡ n → u ≡ v)
number-six n h =
    let v = vector_of 6 n in
    let l = length-vector_of 6 n (omega arith) in
    let e = number-vector_of 6 n h (level n) in
    (v, l, e, λ u k f. number-injective u v (k ∙ sym l) (omega arith) (f ∙ sym e))
  where
    level : (n : ℕ) → Level 6 (digits_of n)
    level n = unfold digits_of in all_nil (λ x. x ≡ 1)

-- ---- pointing backwards

digits_in-below : (k : ℕ) (v : List Sign) → base3 (digits_in k v) < 3 ^ k
digits_in-below k v = subst (λ n. base3 (digits_in k v) < 3 ^ n) (length-digits_in k v) (base3-below (digits_in k v) (digits_in-small k v))

beyond-middle : (k : ℕ) (v : List Sign) → length v ≤ k → ltb (base3 (digits_in k [])) (base3 (digits_in k v)) ≡ backwards v
unfolding base3 digits_in backwards digit
beyond-middle k [] h = le-ltb (base3 (digits_in k [])) (base3 (digits_in k [])) (omega arith)
beyond-middle zero (s ∷ v) h = absurd (omega arith)
beyond-middle (suc k) (less ∷ v) h = rw (length-digits_in k [], length-digits_in k v)
    (le-ltb (1 * 3 ^ k + base3 (digits_in k [])) (0 * 3 ^ k + base3 (digits_in k v)) (omega (arith, digits_in-below k v)))
beyond-middle (suc k) (equal ∷ v) h = rw (length-digits_in k [], length-digits_in k v)
    (added (1 * 3 ^ k) (base3 (digits_in k [])) (base3 (digits_in k v)) ∙ beyond-middle k v (omega arith))
  where
    added : (a x y : ℕ) → ltb (a + x) (a + y) ≡ ltb x y
    added a x y = elim (dec_lt x y) [
      | yes l ↦ lt-ltb (a + x) (a + y) (omega arith) ∙ sym (lt-ltb x y l)
      | no f ↦ le-ltb (a + x) (a + y) (omega arith) ∙ sym (le-ltb x y (omega arith))
    ]
beyond-middle (suc k) (greater ∷ v) h = rw (length-digits_in k [], length-digits_in k v)
    (lt-ltb (1 * 3 ^ k + base3 (digits_in k [])) (2 * 3 ^ k + base3 (digits_in k v)) (omega (arith, digits_in-below k [])))

-- a vector points backwards if its number is beyond that of = alone, 364
pub backwards-number : (v : List Sign) → length v ≤ 6 → ltb 364 (number v) ≡ backwards v
unfolding number base3 digits_in
backwards-number v h = beyond-middle 6 v h
