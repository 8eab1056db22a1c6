-- The bytes of a line and of a number.
use mathlib.Core.Path.{◌≡◌, refl, sym, ap, ◌∙◌}
use mathlib.Core.List.{List, [], ◌∷◌, ◌++◌, map, map-append}
use Prim.Native.Nat.{ℕ, zero, suc, ◌+◌, ◌*◌, ◌-◌, ◌/◌, ◌%◌, ◌≤◌, ◌<◌}
use native.Mathlib.Numerals.{add-one}
use native.Mathlib.Omega.{arith}
use lib.ListN.{length, take, set, get_or, replicate, length-append, length-map, length-set, length-replicate}
use lib.Seq.{take_at}
use borrow.Author.Tests.{lt-ltb, le-ltb}
use Rattle.integers.specs.Sign.{Sign, less, equal, greater}
use Rattle.model.specs.Directions.{flow, kinds, Line, kind_count}
use Rattle.model.specs.Listing.{digits, decimal, letter, sign_char, line_text}
use Rattle.dependence_vectors.specs.Numbers.{digit, number_after, number}
use Rattle.dependence_vectors.proofs.HornerLaws.{number-after}
use Rattle.dependence_vectors.proofs.NumberLaws.{digit_lt}
use Rattle.dependence_listing_text.specs.Text.{Field}

-- ---- numbers in decimal

digits_last : (f n : ℕ) → n < 10 → digits (suc f) n ≡ (48 + n) ∷ []
unfolding digits
digits_last f n h = rw (lt-ltb n 10 h)

digits_more : (f n : ℕ) → 10 ≤ n → digits (suc f) n ≡ digits f (n / 10) ++ ((48 + n % 10) ∷ [])
unfolding digits
digits_more f n h = rw (le-ltb n 10 h)

-- with k digits more behind it
digits-one : (f g n : ℕ) → f ≡ g + 1 → n < 10 → digits f n ≡ (48 + n) ∷ []
digits-one f g n e h = rw (e, add-one g) (digits_last g n h)

digits-next : (f g n : ℕ) → f ≡ g + 1 → 10 ≤ n → digits f n ≡ digits g (n / 10) ++ ((48 + n % 10) ∷ [])
digits-next f g n e h = rw (e, add-one g) (digits_more g n h)

pub decimal-1 : (n : ℕ) → n < 10 → decimal n ≡ (48 + n) ∷ []
unfolding decimal
decimal-1 n h = digits_last n n h

pub decimal-2 : (n : ℕ) → 10 ≤ n → n < 100 → decimal n ≡ (48 + n / 10) ∷ (48 + n % 10) ∷ []
unfolding decimal
decimal-2 n g h = digits_more n n g ∙ rw (digits-one n (n - 1) (n / 10) (omega arith) (omega arith))

decimal-3 : (n : ℕ) → 100 ≤ n → n < 1000 → decimal n ≡ (48 + n / 100) ∷ (48 + n / 10 % 10) ∷ (48 + n % 10) ∷ []
unfolding decimal
decimal-3 n g h = let a : n / 10 / 10 ≡ n / 100 = omega arith in
    digits_more n n (omega arith) ∙ rw (
      digits-next n (n - 1) (n / 10) (omega arith) (omega arith),
      digits-one (n - 1) (n - 2) (n / 10 / 10)
          (omega arith) (omega arith),
      a,
    )

decimal-4 : (n : ℕ) → 1000 ≤ n → n < 10000 → decimal n ≡ (48 + n / 1000) ∷ (48 + n / 100 % 10) ∷ (48 + n / 10 % 10) ∷ (48 + n % 10) ∷ []
unfolding decimal
decimal-4 n g h = let a : n / 10 / 10 ≡ n / 100 = omega arith in let b : n / 100 / 10 ≡ n / 1000 = omega arith in
    digits_more n n (omega arith) ∙ rw (
      digits-next n (n - 1) (n / 10) (omega arith) (omega arith),
      digits-next (n - 1) (n - 2) (n / 10 / 10) (omega arith) (omega arith),
      digits-one (n - 2) (n - 3) (n / 10 / 10 / 10) (omega arith) (omega arith),
      a,
      b,
    )

decimal-5 : (n : ℕ) → 10000 ≤ n → n < 100000 → decimal n ≡ (48 + n / 10000) ∷ (48 + n / 1000 % 10) ∷ (48 + n / 100 % 10) ∷ (48 + n / 10 % 10) ∷
    (48 + n % 10) ∷ []
unfolding decimal
decimal-5 n g h = let a : n / 10 / 10 ≡ n / 100 = omega arith in let b : n / 100 / 10 ≡ n / 1000 = omega arith in let c : n / 1000 / 10 ≡ n /
    10000 = omega arith in
    digits_more n n (omega arith) ∙ rw (
      digits-next n (n - 1) (n / 10) (omega arith) (omega arith),
      digits-next (n - 1) (n - 2) (n / 10 / 10) (omega arith) (omega arith),
      digits-next (n - 2) (n - 3) (n / 10 / 10 / 10) (omega arith) (omega arith),
      digits-one (n - 3) (n - 4) (n / 10 / 10 / 10 / 10) (omega arith) (omega arith),
      a,
      b,
      c,
    )

-- ---- fields

pub field-1 : (n e x : ℕ) → n < 10 → x ≡ 48 + n → Field (x ∷ e ∷ 0 ∷ 0 ∷ 0 ∷ 0 ∷ []) 2 n e
field-1 n e x h i = record { six = refl; short = omega arith; is = rw (i, decimal-1 n h) }

pub field-2 : (n e x y : ℕ) → 10 ≤ n → n < 100 → x ≡ 48 + n / 10 → y ≡ 48 + n % 10 → Field (x ∷ y ∷ e ∷ 0 ∷ 0 ∷ 0 ∷ []) 3 n e
field-2 n e x y g h i j = record { six = refl; short = omega arith; is = rw (i, j, decimal-2 n g h) }

pub field-3 : (n e x y z : ℕ) → 100 ≤ n → n < 1000 → x ≡ 48 + n / 100 → y ≡ 48 + n / 10 % 10 → z ≡ 48 + n % 10
    → Field (x ∷ y ∷ z ∷ e ∷ 0 ∷ 0 ∷ []) 4 n e
field-3 n e x y z g h i j k = record { six = refl; short = omega arith; is = rw (i, j, k, decimal-3 n g h) }

pub field-4 : (n e x y z u : ℕ) → 1000 ≤ n → n < 10000 → x ≡ 48 + n / 1000 → y ≡ 48 + n / 100 % 10 → z ≡ 48 + n / 10 % 10 → u ≡ 48 + n % 10
    → Field (x ∷ y ∷ z ∷ u ∷ e ∷ 0 ∷ []) 5 n e
field-4 n e x y z u g h i j k l = record { six = refl; short = omega arith; is = rw (i, j, k, l, decimal-4 n g h) }

pub field-5 : (n e x y z u v : ℕ) → 10000 ≤ n → n < 100000 → x ≡ 48 + n / 10000 → y ≡ 48 + n / 1000 % 10 → z ≡ 48 + n / 100 % 10
    → u ≡ 48 + n / 10 % 10 → v ≡ 48 + n % 10 → Field (x ∷ y ∷ z ∷ u ∷ v ∷ e ∷ []) 6 n e
field-5 n e x y z u v g h i j k l m = record { six = refl; short = omega arith; is = rw (i, j, k, l, m, decimal-5 n g h) }

-- ---- signs

sign-char : (s : Sign) → sign_char s ≡ 60 + digit s
unfolding sign_char digit
sign-char less = refl
sign-char equal = refl
sign-char greater = refl

abbrev pub six_signs : ℕ → List ℕ
six_signs v = (60 + v / 243) ∷ (60 + v / 81 % 3) ∷ (60 + v / 27 % 3) ∷ (60 + v / 9 % 3) ∷ (60 + v / 3 % 3) ∷ (60 + v % 3) ∷ []

six-digits : (v a b c d e f : ℕ) → a < 3 → b < 3 → c < 3 → d < 3 → e < 3 → f < 3 → v ≡ ((((((0 * 3 + a) * 3 + b) * 3 + c) * 3 + d) * 3 + e) * 3 + f)
    → six_signs v ≡ (60 + a) ∷ (60 + b) ∷ (60 + c) ∷ (60 + d) ∷ (60 + e) ∷ (60 + f) ∷ []
six-digits v a b c d e f ha hb hc hd he hf i =
    let p : v / 243 ≡ a = omega arith in
    let q : v / 81 % 3 ≡ b = omega arith in
    let r : v / 27 % 3 ≡ c = omega arith in
    let s : v / 9 % 3 ≡ d = omega arith in
    let t : v / 3 % 3 ≡ e = omega arith in
    let u : v % 3 ≡ f = omega arith in
    rw (p, q, r, s, t, u)

six-signs : (v : List Sign) → length v ≡ 6 → map sign_char v ≡ six_signs (number_after 0 v)
unfolding number_after
six-signs [] h = absurd (omega arith)
six-signs (a ∷ []) h = absurd (omega arith)
six-signs (a ∷ b ∷ []) h = absurd (omega arith)
six-signs (a ∷ b ∷ c ∷ []) h = absurd (omega arith)
six-signs (a ∷ b ∷ c ∷ d ∷ []) h = absurd (omega arith)
six-signs (a ∷ b ∷ c ∷ d ∷ e ∷ []) h = absurd (omega arith)
six-signs (a ∷ b ∷ c ∷ d ∷ e ∷ f ∷ []) h = rw (sign-char a, sign-char b, sign-char c, sign-char d, sign-char e, sign-char f)
    (sym (six-digits (number_after 0 (a ∷ b ∷ c ∷ d ∷ e ∷ f ∷ [])) (digit a) (digit b) (digit c) (digit d) (digit e) (digit f) (digit_lt a)
    (digit_lt b) (digit_lt c) (digit_lt d) (digit_lt e) (digit_lt f) refl))
six-signs (a ∷ b ∷ c ∷ d ∷ e ∷ f ∷ g ∷ v) h = absurd (omega arith)

-- the first signs of six
pub signs-text : (v : List Sign) (d : ℕ) → d ≤ 6 → length v ≡ d → map sign_char v ≡ take d (six_signs (number v))
signs-text v d h e =
    let r : List Sign = replicate (6 - length v) equal in
    let a = length-append v r in let b = length-replicate (6 - length v) equal in
    sym (take_at (map sign_char v) (map sign_char r) d (length-map v sign_char ∙ e))
    ∙ ap (take d) (sym (map-append sign_char v r) ∙ six-signs (v ++ r) (omega arith) ∙ ap six_signs (sym (number-after v (omega arith))))

-- ---- lines

pub letter-is : (k x : ℕ) → k < kind_count → (k ≡ 0 → x ≡ 70) → (k ≡ 1 → x ≡ 65) → (k ≡ 2 → x ≡ 79) → x ≡ letter (get_or kinds k flow)
unfolding letter kinds
letter-is zero x h a b c = a refl
letter-is (suc zero) x h a b c = b refl
letter-is (suc (suc zero)) x h a b c = c refl
letter-is (suc (suc (suc k))) x h a b c = absurd (omega arith)

abbrev pub thirteen : ℕ → ℕ → ℕ → ℕ → List ℕ
thirteen a b c v = a ∷ 32 ∷ b ∷ 32 ∷ c ∷ 32 ∷ (60 + v / 243) ∷ (60 + v / 81 % 3) ∷ (60 + v / 27 % 3) ∷ (60 + v / 9 % 3) ∷ (60 + v / 3 % 3) ∷
    (60 + v % 3) ∷ 10 ∷ []

-- thirteen bytes, with the newline after the last sign
pub line-bytes : (l : Line) (d a b c v : ℕ) → d ≤ 6 → length l.vector ≡ d → v ≡ number l.vector → l.source < 9 → l.sink < 9
    → a ≡ letter l.kind → b ≡ 49 + l.source → c ≡ 49 + l.sink
    → (length (set (thirteen a b c v) (6 + d) 10) ≡ 13) × (take (d + 7) (set (thirteen a b c v) (6 + d) 10) ≡ line_text l)
unfolding line_text
line-bytes l d a b c v h w e s t ea eb ec =
    let p : decimal (suc l.source) ≡ b ∷ [] = decimal-1 (suc l.source) (omega arith)
    ∙ ap (◌∷ []) (let z : 48 + suc l.source ≡ b = omega arith in z) in
    let q : decimal (suc l.sink) ≡ c ∷ [] = decimal-1 (suc l.sink) (omega arith)
    ∙ ap (◌∷ []) (let z : 48 + suc l.sink ≡ c = omega arith in z) in
    let r : map sign_char l.vector ≡ take d (six_signs v) = rw e (signs-text l.vector d h w) in
    (simp length-set, rw (p, q, r, ← ea) (go d h))
  where
    go : (d : ℕ) → d ≤ 6 → take (d + 7) (set (thirteen a b c v) (6 + d) 10) ≡ a ∷ 32 ∷ b ∷ 32 ∷ c ∷ 32 ∷ (take d (six_signs v) ++ (10 ∷ []))
    go zero h = refl
    go (suc zero) h = refl
    go (suc (suc zero)) h = refl
    go (suc (suc (suc zero))) h = refl
    go (suc (suc (suc (suc zero)))) h = refl
    go (suc (suc (suc (suc (suc zero))))) h = refl
    go (suc (suc (suc (suc (suc (suc zero)))))) h = refl
    go (suc (suc (suc (suc (suc (suc (suc d))))))) h = absurd (omega arith)

-- as the code puts them together
pub line-array : (l : Line) (d a b c v p q r s t u : ℕ) → p ≡ 60 + v / 243 → q ≡ 60 + v / 81 % 3 → r ≡ 60 + v / 27 % 3 → s ≡ 60 + v / 9 % 3
    → t ≡ 60 + v / 3 % 3 → u ≡ 60 + v % 3
    → d ≤ 6 → length l.vector ≡ d → v ≡ number l.vector → l.source < 9 → l.sink < 9 → a ≡ letter l.kind → b ≡ 49 + l.source
    → c ≡ 49 + l.sink
    → (length (set (a ∷ 32 ∷ b ∷ 32 ∷ c ∷ 32 ∷ p ∷ q ∷ r ∷ s ∷ t ∷ u ∷ 10 ∷ []) (6 + d) 10) ≡ 13)
    × (take (d + 7) (set (a ∷ 32 ∷ b ∷ 32 ∷ c ∷ 32 ∷ p ∷ q ∷ r ∷ s ∷ t ∷ u ∷ 10 ∷ []) (6 + d) 10) ≡ line_text l)
line-array l d a b c v p q r s t u e₁ e₂ e₃ e₄ e₅ e₆ h w e f g ea eb ec = rw (e₁, e₂, e₃, e₄, e₅, e₆) (line-bytes l d a b c v h w e f g ea eb ec)

-- every line of d loops has d + 7 bytes
pub line-length : (l : Line) (d : ℕ) → length l.vector ≡ d → l.source < 9 → l.sink < 9 → length (line_text l) ≡ d + 7
unfolding line_text
line-length l d w s t = rw (decimal-1 (suc l.source) (omega arith), decimal-1 (suc l.sink) (omega arith))
    (let a = length-append (map sign_char l.vector) (10 ∷ []) in let b = length-map l.vector sign_char in omega arith)
