-- Line i of all that there could be: its parts, and the place of its mark.
use mathlib.Core.Path.{◌≡◌, refl, sym, ap, ◌∙◌, subst}
use mathlib.Core.List.Memᴰ
use mathlib.Core.List.{List, [], ◌∷◌, ◌++◌, map, flat_map}
use Prim.Native.Nat.{ℕ, zero, suc, ◌+◌, ◌*◌, ◌-◌, ◌/◌, ◌%◌, ◌≤◌, ◌<◌}
use native.Mathlib.Nat.{div-add-mod', mod-lt, mul-le-mul, mul-zero, lt_of_mul-lt-mul_right, mul_assoc, mul_comm, add-mul, zero-mul, zero-add, suc-mul}
use native.Mathlib.Omega.{arith}
use lib.ListN.{length, get_or, length-map, length-append, get_or-append}
use lib.Seq.{get_or-append-add}
use Rattle.integers.specs.Sign.{Sign, less, equal, greater}
use Rattle.lists.specs.Membership.{Mem}
use Rattle.lists.proofs.FlatMapLaws.{length-flat_map-even}
use Rattle.lists.proofs.PartLaws.{get_d_map, row_fits}
use Rattle.model.specs.Directions.{Kind, flow, kinds, Line, up_from, sign_vectors, all_lines, kind_count, vector_count}
use Rattle.model.specs.Grammar.{most_statements}
use Rattle.model.proofs.Steps.ChainLaws.{up-length, up-get_d}
use Rattle.dependence_vectors.specs.Numbers.{digit, number_after, number, kind_number, place, marks_for}
use Rattle.dependence_vectors.specs.Candidates.{stride, middle}
use Rattle.dependence_vectors.proofs.NumberLaws.{stride-positive, stride-half, number_lt, number-splits}
use Rattle.dependence_listing_text.specs.Text.{line_at, line_count}

-- ---- parts of one width

flat_map-get_d : {A B : Type 0} (f : A → List B) (w : ℕ) (l : List A) (j r : ℕ) (c : A) (e : B) → ((x : A) → Mem x l → length (f x) ≡ w)
    → j < length l → r < w
    → get_or (flat_map f l) (j * w + r) e ≡ get_or (f (get_or l j c)) r e
unfolding flat_map
flat_map-get_d f w [] j r c e h a b = absurd (omega arith)
flat_map-get_d f w (x ∷ l) zero r c e h a b = let i = h x (Memᴰ.head refl) in rw (zero-mul w, zero-add r)
    (get_or-append (f x) (flat_map f l) e r (omega arith))
flat_map-get_d f w (x ∷ l) (suc j) r c e h a b = let i = h x (Memᴰ.head refl) in
    ap (λ k. get_or (f x ++ flat_map f l) k e) (let s = suc-mul j w in let z : suc j * w + r ≡ length (f x) + (j * w + r) = omega arith in z)
    ∙ get_or-append-add (f x) (flat_map f l) (j * w + r) e ∙ flat_map-get_d f w l j r c e (λ y m. h y (Memᴰ.tail m)) (omega arith) b

-- ---- vectors by number

sign_vectors-length : (d : ℕ) → length (sign_vectors d) ≡ stride d
unfolding sign_vectors stride flat_map
sign_vectors-length zero = refl
sign_vectors-length (suc d) = let e = sign_vectors-length d in simp (length-append, length-map) (omega arith)

abbrev sign_at : ℕ → Sign
sign_at c = get_or (less ∷ equal ∷ greater ∷ []) c equal

sign_at-digit : (c : ℕ) → c < 3 → digit (sign_at c) ≡ c
unfolding digit
sign_at-digit zero h = refl
sign_at-digit (suc zero) h = refl
sign_at-digit (suc (suc zero)) h = refl
sign_at-digit (suc (suc (suc c))) h = absurd (omega arith)

-- the vector at number c × 3^d + r of the longer ones
sign_vectors-at : (d c r : ℕ) → c < 3 → r < stride d → get_or (sign_vectors (suc d)) (c * stride d + r) [] ≡ sign_at c ∷ get_or (sign_vectors d) r []
unfolding sign_vectors
sign_vectors-at d c r h g = let l = sign_vectors-length d in
    flat_map-get_d (λ s. map (λ v. s ∷ v) (sign_vectors d)) (stride d) (less ∷ equal ∷ greater ∷ []) c r equal []
    (λ s m. length-map (sign_vectors d) (λ v. s ∷ v) ∙ l) h g
    ∙ get_d_map (λ v. sign_at c ∷ v) (sign_vectors d) r [] [] (omega arith)

-- a number by its quotient and rest
pub record Split (x w q : ℕ) : Type 0 where
  pub quotient : x / w < q
  pub rest : x % w < w
  pub is : x ≡ x / w * w + x % w

pub split : (x w q : ℕ) → x < q * w → Split x w q
split x w q h = let p : 0 < w = positive w h in let e = div-add-mod' x w in let r = mod-lt x p in
    record { quotient = lt_of_mul-lt-mul_right w (omega arith); rest = r; is = sym e }
  where
    positive : (w : ℕ) → x < q * w → 0 < w
    positive zero h = let e = mul-zero q in absurd (omega arith)
    positive (suc w) h = omega arith

no_sign : (m : ℕ) → (number_after m (get_or (sign_vectors 0) 0 []) ≡ m * 1 + 0) × (length (get_or (sign_vectors 0) 0 []) ≡ 0)
unfolding number_after sign_vectors
no_sign m = (omega arith, refl)

one-sign : (m d w c r : ℕ) (v u : List Sign) → v ≡ sign_at c ∷ u → c < 3 → w ≡ c * stride d + r
    → (number_after (m * 3 + c) u ≡ (m * 3 + c) * stride d + r) × (length u ≡ d)
    → (number_after m v ≡ m * (stride d * 3) + w) × (length v ≡ suc d)
unfolding number_after
one-sign m d w c r v u e h i k = rw (e, sign_at-digit c h) (
  k.0
      ∙ rw (add-mul (m * 3) c (stride d), mul_assoc m 3 (stride d), mul_comm 3 (stride d)) (omega arith),
  ap suc k.1,
)

-- the vectors are in the order of their numbers
pub sign_vectors-number : (d w m : ℕ) → w < stride d → (number_after m (get_or (sign_vectors d) w []) ≡ m * stride d + w)
    × (length (get_or (sign_vectors d) w []) ≡ d)
unfolding stride
sign_vectors-number zero w m h = let e : w ≡ 0 = omega arith in rw e (no_sign m)
sign_vectors-number (suc d) w m h =
    let p = split w (stride d) 3 (let c = mul_comm 3 (stride d) in omega arith) in
    let c = w / stride d in let r = w % stride d in
    one-sign m d w c r (get_or (sign_vectors (suc d)) w []) (get_or (sign_vectors d) r [])
    (ap (λ x. get_or (sign_vectors (suc d)) x []) p.is ∙ sign_vectors-at d c r p.quotient p.rest) p.quotient p.is
    (sign_vectors-number d r (m * 3 + c) p.rest)

-- ---- lines by number

module _ (n d : ℕ) where
  abbrev of_kind : ℕ → ℕ → Kind → List Line
  of_kind s t k = map (λ v. record { kind = k; source = s; sink = t; vector = v }) (sign_vectors d)

  abbrev of_sink : ℕ → ℕ → List Line
  of_sink s t = flat_map (of_kind s t) kinds

  abbrev of_source : ℕ → List Line
  of_source s = flat_map (of_sink s) (up_from 0 n)

  kind-length : (s t : ℕ) (k : Kind) → length (of_kind s t k) ≡ stride d
  kind-length s t k = length-map (sign_vectors d) (λ v. record { kind = k; source = s; sink = t; vector = v }) ∙ sign_vectors-length d

  sink-length : (s t : ℕ) → length (of_sink s t) ≡ kind_count * stride d
  unfolding kinds
  sink-length s t = length-flat_map-even (of_kind s t) (stride d) kinds (λ k m. kind-length s t k)

  source-length : (s : ℕ) → length (of_source s) ≡ n * (kind_count * stride d)
  source-length s = length-flat_map-even (of_sink s) (kind_count * stride d) (up_from 0 n) (λ t m. sink-length s t)
      ∙ ap (◌* (kind_count * stride d)) (up-length 0 n)

  pub lines-length : length (all_lines n d) ≡ line_count n d
  unfolding all_lines
  lines-length = length-flat_map-even of_source (n * (kind_count * stride d)) (up_from 0 n) (λ s m. source-length s)
      ∙ ap (◌* (n * (kind_count * stride d))) (up-length 0 n)
      ∙ sym (rw (mul_assoc (n * n) kind_count (stride d), mul_assoc n n (kind_count * stride d)))

  -- the place of a line among all
  nested : (s t k w : ℕ) → ((s * n + t) * kind_count + k) * stride d + w
      ≡ s * (n * (kind_count * stride d)) + (t * (kind_count * stride d) + (k * stride d + w))
  nested s t k w = rw (
    add-mul ((s * n + t) * kind_count) k (stride d),
    mul_assoc (s * n + t) kind_count (stride d),
    add-mul (s * n) t
        (kind_count * stride d),
    mul_assoc s n (kind_count * stride d),
  ) (omega arith)

  abbrev none : Line
  none = record { kind = flow; source = 0; sink = 0; vector = [] }

  pub line-is : (s t k w : ℕ) → s < n → t < n → k < kind_count → w < stride d
      → line_at n d (((s * n + t) * kind_count + k) * stride d + w) ≡ record {
        kind = get_or kinds k flow;
        source = s;
        sink = t;
        vector = get_or
            (sign_vectors d) w [];
      }
  unfolding line_at all_lines kinds
  line-is s t k w a b c e =
      let f = row_fits (stride d) k kind_count c in let g = row_fits (kind_count * stride d) t n b in
      rw (nested s t k w)
      (flat_map-get_d of_source (n * (kind_count * stride d)) (up_from 0 n) s (t * (kind_count * stride d) + (k * stride d + w)) 0 none
      (λ s m. source-length s) (let l = up-length 0 n in omega arith) (omega arith)
      ∙ ap (λ s. get_or (of_source s) (t * (kind_count * stride d) + (k * stride d + w)) none) (up-get_d 0 n s a ∙ zero-add s)
      ∙ flat_map-get_d (of_sink s) (kind_count * stride d) (up_from 0 n) t (k * stride d + w) 0 none (λ t m. sink-length s t)
      (let l = up-length 0 n in omega arith) (omega arith)
      ∙ ap (λ t. get_or (of_sink s t) (k * stride d + w) none) (up-get_d 0 n t b ∙ zero-add t)
      ∙ flat_map-get_d (of_kind s t) (stride d) kinds k w flow none (λ k m. kind-length s t k) c e
      ∙ get_d_map (λ v. record { kind = get_or kinds k flow; source = s; sink = t; vector = v }) (sign_vectors d) w [] none
      (let l = sign_vectors-length d in omega arith))

-- ---- line i

pub kind-number : (k : ℕ) → k < kind_count → kind_number (get_or kinds k flow) ≡ k
unfolding kinds
kind-number zero h = refl
kind-number (suc zero) h = refl
kind-number (suc (suc zero)) h = refl
kind-number (suc (suc (suc k))) h = absurd (omega arith)

-- the block of i (source, sink and kind), its first part without the kind, and its vector's number
pub record At (n d i : ℕ) : Type 0 where
  pub block : i / stride d < n * n * kind_count
  pub source : i / stride d / kind_count / n < n
  pub sink : i / stride d / kind_count % n < n
  pub vector : i % stride d < stride d
  pub line : line_at n d i ≡ record {
    kind = get_or kinds (i / stride d % kind_count) flow;
    source = i / stride d / kind_count / n;
    sink = i / stride d /
        kind_count % n;
    vector = get_or (sign_vectors d) (i % stride d) [];
  }
  pub numbered : number (line_at n d i).vector ≡ i % stride d * stride (6 - d) + middle (6 - d)
  pub wide : length (line_at n d i).vector ≡ d
  pub marked : place n (line_at n d i) ≡ i / stride d * vector_count + (i % stride d * stride (6 - d) + middle (6 - d))

pub line-at : (n d i : ℕ) → d ≤ 6 → i < line_count n d → At n d i
unfolding place
line-at n d i f h =
    let p = split i (stride d) (n * n * kind_count) h in
    let q = split (i / stride d) kind_count (n * n) p.quotient in
    let r = split (i / stride d / kind_count) n n q.quotient in
    let s = i / stride d / kind_count / n in let t = i / stride d / kind_count % n in let k = i / stride d % kind_count in let w = i % stride d in
    let a = r.is in let b = q.is in let c = p.is in
    let blocks : (s * n + t) * kind_count + k ≡ i / stride d = omega arith in
    let whole : ((s * n + t) * kind_count + k) * stride d + w ≡ i = rw blocks (sym c) in
    let l = subst (λ j. line_at n d j ≡ record { kind = get_or kinds k flow; source = s; sink = t; vector = get_or (sign_vectors d) w [] }) whole
    (line-is n d s t k w r.quotient r.rest q.rest p.rest) in
    let v = sign_vectors-number d w 0 p.rest in
    let e : number (get_or (sign_vectors d) w []) ≡ w * stride (6 - d) + middle (6 - d) = number-splits (get_or (sign_vectors d) w []) d v.1 f
    ∙ ap (λ z. z * stride (6 - d) + middle (6 - d)) (v.0 ∙ zero-times (stride d) w) in
    record {
      block = p.quotient;
      source = r.quotient;
      sink = r.rest;
      vector = p.rest;
      line = l;
      numbered = rw l e;
      wide = rw l v.1;
      marked = rw l (rw (kind-number k q.rest, e, blocks));
    }
  where
    zero-times : (m w : ℕ) → 0 * m + w ≡ w
    zero-times m w = rw (zero-mul m, zero-add w)

-- the number of its vector
pub vector-small : (d w : ℕ) → d ≤ 6 → w < stride d → w * stride (6 - d) + middle (6 - d) < vector_count
vector-small d w h g =
    let v = sign_vectors-number d w 0 g in
    let a = number_lt (get_or (sign_vectors d) w []) (let l = v.1 in omega arith) in
    let b = number-splits (get_or (sign_vectors d) w []) d v.1 h in
    let c : number_after 0 (get_or (sign_vectors d) w []) ≡ w = v.0 ∙ rw (zero-mul (stride d), zero-add w) in
    let e : number_after 0 (get_or (sign_vectors d) w []) * stride (6 - d) ≡ w * stride (6 - d) = ap (◌* stride (6 - d)) c in omega arith

-- ---- as the code finds them

pub power-is : (d p : ℕ) → d ≤ 6 → p ≡ stride (6 - (6 - d)) → (p ≡ stride d) × (0 < p)
power-is d p h e = let a : 6 - (6 - d) ≡ d = omega arith in let f : p ≡ stride d = e ∙ ap stride a in let g = stride-positive d in (f, omega arith)

pub vector-is : (d i s p : ℕ) → d ≤ 6 → p ≡ stride d → s ≡ stride (6 - d)
    → (i % p * s + (s - 1) / 2 ≡ i % stride d * stride (6 - d) + middle (6 - d)) × (i % p * s + (s - 1) / 2 < vector_count)
vector-is d i s p h e f = let a = stride-half (6 - d) s f in let b = vector-small d (i % stride d) h (mod-lt i (stride-positive d)) in
    let g : i % p * s + (s - 1) / 2 ≡ i % stride d * stride (6 - d) + middle (6 - d) = rw (a, e, f) in (g, omega arith)

pub count_small : (n p : ℕ) → n ≤ most_statements → p ≤ vector_count
    → (n * n ≤ most_statements * most_statements) × (n * n * kind_count * p ≤ marks_for most_statements)
count_small n p h g = let a : n * n ≤ most_statements * most_statements = mul-le-mul h h in
    let b : n * n * kind_count ≤ most_statements * most_statements * kind_count = omega arith in (a, mul-le-mul b g)

-- the marks of a block are as far apart as a block has lines for
whole-block : (d : ℕ) → d ≤ 6 → stride d * stride (6 - d) ≡ vector_count
unfolding stride
whole-block zero h = refl
whole-block (suc zero) h = refl
whole-block (suc (suc zero)) h = refl
whole-block (suc (suc (suc zero))) h = refl
whole-block (suc (suc (suc (suc zero)))) h = refl
whole-block (suc (suc (suc (suc (suc zero))))) h = refl
whole-block (suc (suc (suc (suc (suc (suc zero)))))) h = refl
whole-block (suc (suc (suc (suc (suc (suc (suc d))))))) h = absurd (omega arith)

pub mark-at : (n d i s : ℕ) → d ≤ 6 → s ≡ stride (6 - d) → At n d i → (place n (line_at n d i) ≡ i * s + (s - 1) / 2)
    × (i * s + (s - 1) / 2 < marks_for n)
mark-at n d i s h e a =
    let q = i / stride d in let r = i % stride d in
    let x : i * s ≡ q * vector_count + r * s = ap (◌* s) (sym (div-add-mod' i (stride d))) ∙ add-mul (q * stride d) r s
    ∙ ap (◌+ r * s) (mul_assoc q (stride d) s ∙ ap (q *◌) (ap (stride d *◌) e ∙ whole-block d h)) in
    let y : r * stride (6 - d) ≡ r * s = ap (r *◌) (sym e) in
    let m = stride-half (6 - d) s e in
    let v = vector-small d r h a.vector in
    let b = a.block in
    (a.marked ∙ (let z : q * vector_count + (r * stride (6 - d) + middle (6 - d)) ≡ i * s + (s - 1) / 2 = omega arith in z), omega arith)

pub parts_in : (n d i b : ℕ) → At n d i → b ≡ i / stride d → (0 < n) × (b / kind_count / n < n) × (b / kind_count % n < n)
parts_in n d i b a e = let s = a.source in rw e (omega arith, s, a.sink)
