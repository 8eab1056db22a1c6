-- The sums are the lengths of the model's words. In order: parts; loops; arrays; accesses and statements; the nest.
use mathlib.Core.Path.{◌≡◌, refl, ap, ◌∙◌}
use mathlib.Core.List.Memᴰ
use mathlib.Core.List.{List, [], ◌∷◌, ◌++◌, map, flat_map}
use Prim.Native.Nat.{ℕ, zero, suc, ◌+◌, ◌*◌, ◌-◌, ◌/◌, ◌≤◌, ◌<◌}
use native.Mathlib.Nat.{add-mul}
use native.Mathlib.Omega.{arith}
use lib.IntN.{ℤ, pos}
use lib.ListN.{length, get_or, take, drop, length-append, length-drop, length-map}
use lib.Seq.{length-take-le}
use Rattle.lists.specs.Membership.{All}
use Rattle.model.specs.Encode.{counted, limit_words, loop_words, array_words, access_words, statement_words, nest_words, encode}
use Rattle.model.specs.Store.{sum}
use Rattle.model.proofs.Grammar.RoundTripLaws.{encode-length}
use Rattle.nest_flat.specs.Flat.{limit_at, limits_at, loop_at, loops_from, NestOk}
use Rattle.nest_flat.specs.Layout.{arrays_of, access_at, accesses_from, AccessesOk}
use Rattle.ticket_encoding_words.specs.Loops.{LimitsIn, LoopIn}
use Rattle.ticket_encoding_words.proofs.WritingLaws.{spans}
use Rattle.ticket_encoding_words.proofs.SectionLaws.{side-spans, loops-spans, lower_in, upper_in}
use Rattle.ticket_lengths.specs.Slices.{statement_at, statements_at, nest_at, SlicesIn}
use Rattle.ticket_lengths.specs.Lengths.{sums, loop_length, array_length, access_length, nest_length, LengthIn}
use Rattle.ticket_lengths.proofs.SumLaws.{sums-append, sums_same, sums-constant, array-ends}
use Rattle.ticket_lengths.proofs.SliceLaws.{arrays-spans, access-spans, accesses-spans}

-- ---- parts

spans-length : (f : ℕ → List ℤ) (j n : ℕ) → length (spans f j n) ≡ sums (λ i. length (f i)) j n
unfolding spans sums
spans-length f j zero = refl
spans-length f j (suc n) = length-append (f j) (spans f (suc j) n) ∙ ap (length (f j) +◌) (spans-length f (suc j) n)

part_length : {A : Type 0} (l : List A) (i n : ℕ) → i + n ≤ length l → length (take n (drop i l)) ≡ n
part_length l i n h = length-take-le n (drop i l) (let e = length-drop i l in omega arith)

-- ---- loops

limit-length : (s : List ℤ) (k j : ℕ) → j * 8 + 2 + k ≤ length s → length (limit_words (limit_at s k j)) ≡ k + 2
unfolding limit_words limit_at
limit-length s k j h = let e = part_length s (j * 8 + 2) k h in omega arith

side-length : (s : List ℤ) (k j n : ℕ) → LimitsIn s k j n → length (counted limit_words (limits_at s k j n)) ≡ n * (k + 2) + 1
side-length s k j n p =
    let w = p.words in let o = p.outside in let i = p.inside in
    let e = spans-length (λ m. limit_words (limit_at s k m)) j n
    ∙ sums_same (λ m. length (limit_words (limit_at s k m))) (λ _. k + 2) j n (λ m b. limit-length s k (j + m) (omega arith))
    ∙ sums-constant (k + 2) j n in
    ap length (side-spans s k j n) ∙ omega arith

loop-length : (s : List ℤ) (c : List ℕ) (k : ℕ) → LoopIn s c k → length (loop_words (loop_at s c k)) ≡ loop_length c k
unfolding loop_words loop_at loop_length
loop-length s c k p =
    let a = get_or c (k * 2) 0 in let b = get_or c (k * 2 + 1) 0 in
    let l = side-length s k (k * 32) a (lower_in s c k p) in let u = side-length s k (k * 32 + 16) b (upper_in s c k p) in let d = add-mul a b
    (k + 2) in
    length-append (counted limit_words (limits_at s k (k * 32) a)) (counted limit_words (limits_at s k (k * 32 + 16) b)) ∙ omega arith

loops-length : (s : List ℤ) (c : List ℕ) (depth : ℕ) → NestOk s c depth
    → length (counted loop_words (loops_from s c 0 depth)) ≡ sums (loop_length c) 0 depth + 1
loops-length s c depth p =
    let e = spans-length (λ m. loop_words (loop_at s c m)) 0 depth
    ∙ sums_same (λ m. length (loop_words (loop_at s c m))) (loop_length c) 0 depth (λ m b. loop-length s c (0 + m)
    (record { depth = depth; nest = p; there = omega arith })) in
    ap length (loops-spans s c depth) ∙ omega arith

-- ---- arrays

arrays-long : (a : List ℕ) → ((i : ℕ) → i < length a / 4 → get_or a (i * 4) 0 ≤ 3)
    → length (counted array_words (arrays_of a)) ≡ sums (array_length a) 0 (length a / 4) + 1
unfolding array_length
arrays-long a h =
    let e = spans-length (λ j. map pos (take (get_or a (j * 4) 0 + 1) (drop (j * 4) a))) 0 (length a / 4)
    ∙ sums_same (λ j. length (map pos (take (get_or a (j * 4) 0 + 1) (drop (j * 4) a)))) (array_length a) 0 (length a / 4)
    (λ m b. one (0 + m) (omega arith)) in
    ap length (arrays-spans a h) ∙ omega arith
  where
    one : (j : ℕ) → j < length a / 4 → length (map pos (take (get_or a (j * 4) 0 + 1) (drop (j * 4) a))) ≡ get_or a (j * 4) 0 + 1
    one j b = length-map (take (get_or a (j * 4) 0 + 1) (drop (j * 4) a)) pos
        ∙ part_length a (j * 4) (get_or a (j * 4) 0 + 1) (let e = array-ends a j b in let f = h j b in omega arith)

-- ---- accesses and statements

module _ (w : List ℤ) (o a : List ℕ) (n : ℕ) (p : AccessesOk w o a n) where
  access-length : (k : ℕ) → k < length o → length (access_words (access_at w o a n k)) ≡ access_length o a n k
  unfolding access_length
  access-length k h =
      let d = get_or a (get_or o k 0 * 4) 0 in
      let f : d ≤ 3 = p.dimensions (get_or o k 0) (p.there k h) in
      let l = p.words in let s = p.shallow in
      let e = spans-length (λ i. take (n + 1) (drop (i * 8) w)) (k * 3) d
      ∙ sums_same (λ i. length (take (n + 1) (drop (i * 8) w))) (λ _. n + 1) (k * 3) d (λ m b. part_length w ((k * 3 + m) * 8) (n + 1) (omega arith))
      ∙ sums-constant (n + 1) (k * 3) d in
      ap length (access-spans w o a n k (omega arith) f) ∙ omega arith

three-parts : (as' bs cs : List ℤ) → length (((as' ++ []) ++ bs) ++ cs) ≡ length as' + length bs + length cs
three-parts as' bs cs = simp (length-append) (omega arith)

module _ (w : List ℤ) (o a : List ℕ) (n : ℕ) where
  abbrev g : ℕ → ℕ
  g k = length (access_words (access_at w o a n k))

  reads-length : (k m : ℕ) → length (counted access_words (accesses_from w o a n k m)) ≡ sums g k m + 1
  unfolding counted
  reads-length k m = let e = ap length (accesses-spans w o a n k m) ∙ spans-length (λ i. access_words (access_at w o a n i)) k m in omega arith

  module _ (rs es : List ℕ) where
    -- a statement has three words beside those of its accesses
    statement-length : (k i m : ℕ) (ms : List ℕ) → 1 ≤ m
        → length (flat_map statement_words (statements_at w o a n rs es k i (m ∷ ms))) ≡ 3 + sums g k m + length
        (flat_map statement_words (statements_at w o a n rs es (k + m) (suc i) ms))
    unfolding statements_at statement_at statement_words flat_map sums
    statement-length k i zero ms h = absurd (omega arith)
    statement-length k i (suc m) ms h =
        let e : suc m - 1 ≡ m = omega arith in
        let r = reads-length (suc k) (suc m - 1) ∙ ap (λ j. sums g (suc k) j + 1) e in
        let t = three-parts (access_words (access_at w o a n k)) (counted access_words (accesses_from w o a n (suc k) (suc m - 1)))
        (flat_map statement_words (statements_at w o a n rs es (k + suc m) (suc i) ms)) in
        omega arith

    statements-length : (k i : ℕ) (ms : List ℕ) → All (λ m. 1 ≤ m) ms
        → length (flat_map statement_words (statements_at w o a n rs es k i ms)) ≡ length ms * 3 + sums g k (sum ms)
    unfolding statements_at flat_map sum sums
    statements-length k i [] h = refl
    statements-length k i (m ∷ ms) h =
        let s = statement-length k i m ms (h m (Memᴰ.head refl)) in
        let r = statements-length (k + m) (suc i) ms (λ x q. h x (Memᴰ.tail q)) in
        let t = sums-append g k m (sum ms) in omega arith

-- ---- the nest

module _ (s : List ℤ) (c : List ℕ) (n : ℕ) (v a ms rs es o : List ℕ) (w : List ℤ) (p : SlicesIn s c n v a ms rs es o w) where
  all-statements : length (counted statement_words (statements_at w o a n rs es 0 0 ms)) ≡ length ms * 3 + sums (access_length o a n) 0 (length o) + 1
  unfolding counted
  all-statements =
      let l = statements-length w o a n rs es 0 0 ms p.each in
      let t = ap (sums (g w o a n) 0) p.all-accesses
      ∙ sums_same (g w o a n) (access_length o a n) 0 (length o) (λ m b. access-length w o a n p.accesses (0 + m) (omega arith)) in
      omega arith

  pub length-in : LengthIn c n v a o (length ms)
  length-in = let q = p.nest in let r = p.accesses in record {
    loops = record { counts = q.counts; shallow = q.shallow; lower = λ k h. (q.lower-count k h).1; upper = λ k h. (q.upper-count k h).1 };
    written = p.written;
    accessed = record { arrays = record { few = r.few; dimensions = r.dimensions }; many = r.many; shallow = r.shallow; there = r.there };
    few = p.few-statements;
  }

  nest-length : nest_length c n v a o (length ms) * 2 ≡ length (encode (nest_at s c n v a ms rs es o w))
  unfolding nest_length nest_words nest_at
  nest-length =
      let L = counted loop_words (loops_from s c 0 n) in let R = counted array_words (arrays_of v) in let S = counted statement_words
      (statements_at w o a n rs es 0 0 ms) in
      let x = loops-length s c n p.nest in let y = arrays-long v p.written.dimensions in let z = all-statements in
      let d = length-append L (R ++ (S ++ (pos 0 ∷ []))) in let f = length-append R (S ++ (pos 0 ∷ [])) in let h = length-append S (pos 0 ∷ []) in
      let e = encode-length (nest_at s c n v a ms rs es o w) in omega arith

  pub length-is : {r : ℕ} → r ≡ nest_length c n v a o (length ms) * 2 → r ≡ length (encode (nest_at s c n v a ms rs es o w))
  length-is e = e ∙ nest-length
