-- Numbers of vectors. In order: digits; numbers of one length rise; numbers below vector_count; a vector is given by its number; the numbers of
-- vectors of d loops; points in order have a number below 364.
use mathlib.Core.Path.{◌≡◌, refl, sym, ap, ap₂, ◌∙◌, subst}
use mathlib.Core.Bool.{true, false}
use mathlib.Core.List.{List, [], ◌∷◌, ◌++◌}
use Prim.Native.Nat.{ℕ, zero, suc, ◌+◌, ◌*◌, ◌-◌, ◌/◌, ◌≤◌, ◌<◌}
use native.Mathlib.Nat.{le_antisymm, mul_assoc, mul_comm, add-mul, one-mul, zero-add, suc-add}
use native.Mathlib.Omega.{arith}
use lib.Dec.{T}
use lib.IntN.{ℤ}
use lib.ListN.{length, replicate, length-append, length-replicate}
use mir.Syntax.{w64}
use mir.Val.{SFits, of_z, to_z}
use Rattle.integers.specs.Sign.{Sign, less, equal, greater, sign}
use Rattle.integers.proofs.RangeLaws.{back}
use Rattle.integers.proofs.SignLaws.{sign-self}
use Rattle.model.specs.Directions.{signs, earlier, by_sign, vector_count}
use Rattle.model.specs.Inside.{Earlier}
use Rattle.dependence_vectors.specs.Numbers.{digit, number_after, number}
use Rattle.dependence_vectors.specs.Candidates.{stride, middle}
use Rattle.dependence_vectors.proofs.HornerLaws.{number-after}

-- ---- digits

pub digit_lt : (s : Sign) → digit s < 3
unfolding digit
digit_lt less = omega arith
digit_lt equal = omega arith
digit_lt greater = omega arith

-- the sign of two values that went through their bits
pub sign-back : (a b : ℤ) {n : ℕ} → SFits w64 a → SFits w64 b → n ≡ digit (sign (to_z w64 (of_z w64 a)) (to_z w64 (of_z w64 b))) → n ≡ digit (sign a b)
sign-back a b f g e = rw (back f, back g) at e

pub digit-unique : (s t : Sign) → digit s ≡ digit t → s ≡ t
unfolding digit
digit-unique less less e = refl
digit-unique less equal e = absurd (omega arith)
digit-unique less greater e = absurd (omega arith)
digit-unique equal less e = absurd (omega arith)
digit-unique equal equal e = refl
digit-unique equal greater e = absurd (omega arith)
digit-unique greater less e = absurd (omega arith)
digit-unique greater equal e = absurd (omega arith)
digit-unique greater greater e = refl

-- ---- numbers of one length

pub after-ge : (n : ℕ) (v : List Sign) → n ≤ number_after n v
unfolding number_after
after-ge n [] = omega arith
after-ge n (s ∷ v) = let h = after-ge (n * 3 + digit s) v in omega arith

-- n times 3 for each sign
scaled : ℕ → ℕ → ℕ
scaled zero n = n
scaled (suc k) n = scaled k (n * 3)

scaled-rises : (k m n : ℕ) → m ≤ n → scaled k m ≤ scaled k n
unfolding scaled
scaled-rises zero m n h = h
scaled-rises (suc k) m n h = scaled-rises k (m * 3) (n * 3) (omega arith)

after-lt : (v : List Sign) (n : ℕ) → number_after n v < scaled (length v) (n + 1)
unfolding number_after scaled
after-lt [] n = omega arith
after-lt (s ∷ v) n = let h = after-lt v (n * 3 + digit s) in let g = scaled-rises (length v) (n * 3 + digit s + 1) ((n + 1) * 3)
    (let d = digit_lt s in omega arith) in omega arith

scaled-le : (v : List Sign) (n : ℕ) → scaled (length v) n ≤ number_after n v
unfolding number_after scaled
scaled-le [] n = omega arith
scaled-le (s ∷ v) n = let h = scaled-le v (n * 3 + digit s) in let g = scaled-rises (length v) (n * 3) (n * 3 + digit s) (omega arith) in omega arith

after-rises : (v w : List Sign) (m n : ℕ) → length v ≡ length w → m < n → number_after m v < number_after n w
after-rises v w m n e h = let a = after-lt v m in let b = scaled-le w n in let c = scaled-rises (length v) (m + 1) n (omega arith) in
    let d : scaled (length v) n ≡ scaled (length w) n = ap (λ k. scaled k n) e in omega arith

after-unique : (v w : List Sign) (m n : ℕ) → length v ≡ length w → number_after m v ≡ number_after n w → (m ≡ n) × (v ≡ w)
unfolding number_after
after-unique [] [] m n l e = (e, refl)
after-unique [] (t ∷ w) m n l e = absurd (omega arith)
after-unique (s ∷ v) [] m n l e = absurd (omega arith)
after-unique (s ∷ v) (t ∷ w) m n l e =
    let r = after-unique v w (m * 3 + digit s) (n * 3 + digit t) (omega arith) e in
    let q = r.0 in let a = digit_lt s in let b = digit_lt t in
    (omega arith, ap₂ ◌∷◌ (digit-unique s t (omega arith)) r.1)

pub after-append : (v w : List Sign) (n : ℕ) → number_after n (v ++ w) ≡ number_after (number_after n v) w
unfolding number_after
after-append [] w n = refl
after-append (s ∷ v) w n = after-append v w (n * 3 + digit s)

-- ---- at most six signs

pub padded : (v : List Sign) → length v ≤ 6 → length (v ++ replicate (6 - length v) equal) ≡ 6
padded v h = let a = length-append v (replicate (6 - length v) equal) in let b = length-replicate (6 - length v) equal in omega arith

scaled-six : (k : ℕ) → k ≡ 6 → scaled k (0 + 1) ≡ vector_count
unfolding scaled
scaled-six k e = rw e

pub number_lt : (v : List Sign) → length v ≤ 6 → number v < vector_count
number_lt v h =
    let n = number-after v h in
    let w : List Sign = v ++ replicate (6 - length v) equal in
    let a = after-lt w 0 in
    let b = scaled-six (length w) (padded v h) in
    omega arith

append-unique : (v w u : List Sign) → length v ≡ length w → v ++ u ≡ w ++ u → v ≡ w
append-unique [] [] u l e = refl
append-unique [] (t ∷ w) u l e = absurd (omega arith)
append-unique (s ∷ v) [] u l e = absurd (omega arith)
append-unique (s ∷ v) (t ∷ w) u l e = let r : s ≡ t = cc in let q : v ++ u ≡ w ++ u = cc in ap₂ ◌∷◌ r (append-unique v w u (omega arith) q)

pub number-unique : (v w : List Sign) → length v ≡ length w → length w ≤ 6 → number v ≡ number w → v ≡ w
number-unique v w l h e =
    let f : number_after 0 (v ++ replicate (6 - length w) equal) ≡ number_after 0 (w ++ replicate (6 - length w) equal) =
    rw l at (sym (number-after v (omega arith)) ∙ e ∙ number-after w h) in
    append-unique v w (replicate (6 - length w) equal) l
    (after-unique (v ++ replicate (6 - length w) equal) (w ++ replicate (6 - length w) equal) 0 0 (simp length-append (omega arith)) f).1

-- ---- the numbers of vectors of d loops

thrice : (n s : ℕ) → (n * 3 + 1) * s ≡ n * (s * 3) + s
thrice n s = rw (add-mul (n * 3) 1 s, mul_assoc n 3 s, one-mul s, mul_comm 3 s)

after_equal : (k n : ℕ) → number_after n (replicate k equal) ≡ n * stride k + middle k
unfolding number_after stride middle digit
after_equal zero n = omega arith
after_equal (suc k) n = let a = after_equal k (n * 3 + 1) in let b = after_equal k (0 * 3 + 1) in let c = thrice n (stride k) in let d = thrice 0
    (stride k) in omega arith

pub number-splits : (v : List Sign) (d : ℕ) → length v ≡ d → d ≤ 6 → number v ≡ number_after 0 v * stride (6 - d) + middle (6 - d)
number-splits v d e h = number-after v (omega arith) ∙ rw e (after-append v (replicate (6 - d) equal) 0 ∙ after_equal (6 - d) (number_after 0 v))

above : (n d : ℕ) → n ≤ d → (d ≡ n → ⊥) → n + 1 ≤ d
above n d h e = omega arith

pub no-missing-loop : (d : ℕ) → d ≤ 6 → (d ≡ 0 → ⊥) → (d ≡ 1 → ⊥) → (d ≡ 2 → ⊥) → (d ≡ 3 → ⊥) → (d ≡ 4 → ⊥) → (d ≡ 5 → ⊥) → 1 ≡ stride (6 - d)
unfolding stride
no-missing-loop d h a b e f g i = six h (above 5 d (above 4 d (above 3 d (above 2 d (above 1 d (above 0 d (zero-le d) a) b) e) f) g) i)
  where
    zero-le : (d : ℕ) → 0 ≤ d
    zero-le d = omega arith

    six : d ≤ 6 → 6 ≤ d → 1 ≡ stride (6 - d)
    six h k = let e : d ≡ 6 = le_antisymm h k in rw e

pub stride-middle : (k : ℕ) → stride k ≡ middle k * 2 + 1
unfolding stride middle number_after digit
stride-middle zero = refl
stride-middle (suc k) = let h = stride-middle k in let a = after_equal k (0 * 3 + 1) in let b = thrice 0 (stride k) in omega arith

pub stride-half : (k s : ℕ) → s ≡ stride k → (s - 1) / 2 ≡ middle k
stride-half k s e = let a = stride-middle k in omega arith

pub stride-positive : (k : ℕ) → 0 < stride k
unfolding stride
stride-positive zero = omega arith
stride-positive (suc k) = let h = stride-positive k in omega arith

-- ---- signs of two points

pub signs-length : (p q : List ℤ) → length p ≡ length q → length (signs p q) ≡ length p
unfolding signs
signs-length [] q e = refl
signs-length (x ∷ p) [] e = absurd (omega arith)
signs-length (x ∷ p) (y ∷ q) e = ap suc (signs-length p q (omega arith))

pub signs-short : (p q : List ℤ) → length (signs p q) ≤ length p
unfolding signs
signs-short [] q = omega arith
signs-short (x ∷ p) [] = omega arith
signs-short (x ∷ p) (y ∷ q) = let h = signs-short p q in omega arith

signs-self : (p : List ℤ) → signs p p ≡ replicate (length p) equal
unfolding signs
signs-self [] = refl
signs-self (x ∷ p) = ap₂ ◌∷◌ (sign-self x) (signs-self p)

-- the number of = alone is 364, and points in order have a lesser one
equal-six : (k : ℕ) → k ≡ 6 → number_after 0 (replicate k equal) ≡ 364
unfolding number_after digit
equal-six k e = rw e

replicate-append : (m n : ℕ) → replicate m equal ++ replicate n equal ≡ replicate (m + n) equal
replicate-append zero n = rw (zero-add n)
replicate-append (suc m) n = rw (suc-add m n) (ap (equal ∷◌) (replicate-append m n))

pub number-self : (p : List ℤ) → length p ≤ 6 → number (signs p p) ≡ 364
number-self p h = number-after (signs p p) (let l = signs-length p p refl in omega arith)
    ∙ rw (signs-self p, length-replicate (length p) equal, replicate-append (length p) (6 - length p))
    (equal-six (length p + (6 - length p)) (omega arith))

earlier-lt : (p q : List ℤ) (u : List Sign) (n : ℕ) → length p ≡ length q → Earlier p q
    → number_after n (signs p q ++ u) < number_after n (replicate (length p) equal ++ u)
unfolding earlier signs number_after digit
earlier-lt [] q u n e h = absurd h
earlier-lt (x ∷ p) [] u n e h = absurd h
earlier-lt (x ∷ p) (y ∷ q) u n e h = go (λ g. earlier-lt p q u (n * 3 + 1) (omega arith) g) (sign x y) h
  where
    l : length p ≡ length q
    l = omega arith

    even : length (signs p q ++ u) ≡ length (replicate (length p) equal ++ u)
    even = simp (length-append, length-replicate, signs-length p q l)

    go : (Earlier p q → number_after (n * 3 + 1) (signs p q ++ u) < number_after (n * 3 + 1) (replicate (length p) equal ++ u))
        → (s : Sign) → T (by_sign s true (earlier p q) false)
        → number_after n ((s ∷ signs p q) ++ u) < number_after n ((equal ∷ replicate (length p) equal) ++ u)
    go later less g = after-rises (signs p q ++ u) (replicate (length p) equal ++ u) (n * 3 + 0) (n * 3 + 1) even (omega arith)
    go later equal g = later g
    go later greater g = absurd g

pub number-earlier : (p q : List ℤ) → length p ≤ 6 → length p ≡ length q → Earlier p q → number (signs p q) < 364
number-earlier p q f l h =
    let a = signs-length p q l in
    let n = number-after (signs p q) (omega arith) in
    let b = earlier-lt p q (replicate (6 - length p) equal) 0 l h in
    rw n (rw a (subst (λ k. number_after 0 (signs p q ++ replicate (6 - length p) equal) < k)
    (ap (number_after 0) (replicate-append (length p) (6 - length p)) ∙ equal-six (length p + (6 - length p)) (omega arith)) b))
