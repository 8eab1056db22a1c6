-- Laws of a record's words: the indices of a point, the words as they are written, and how many they are.
use mathlib.Core.Path.{◌≡◌, sym, ap, ◌∙◌, subst}
use mathlib.Core.List.{List, [], ◌∷◌, ◌++◌, append_assoc}
use Prim.Native.Nat.{ℕ, zero, suc, ◌+◌, ◌*◌, ◌-◌, ◌/◌, ◌%◌, ◌≤◌, ◌<◌}
use native.Mathlib.Nat.{mul-le-mul, div-lt_iff_lt-mul, mod-lt}
use native.Mathlib.Numerals.{add-one}
use native.Mathlib.Omega.{arith}
use lib.IntN.{ℤ, pos}
use lib.ListN.{length, get_or, take, drop, set, replicate, length-append, length-drop, get_or-replicate, get_or-append}
use lib.Seq.{length-take-le, get_or-take, get_or-drop, get_or-append-add}
use mir.Syntax.{w16, w64}
use mir.Val.{SFits, to_z, of_z}
use mir.Facts.{to_z-of_z}
use Rattle.lists.specs.Parts.{rows, put}
use Rattle.lists.proofs.MembershipLaws.{all_get_d}
use Rattle.lists.proofs.PartLaws.{put-put, set-put, length-rows, row_fits, rows-get_d}
use Rattle.lists.proofs.CopyLaws.{copy-room, copy_more, copy_done}
use Rattle.integers.specs.Difference.{size}
use Rattle.integers.specs.Affine.{Within}
use Rattle.integers.proofs.AffineLaws.{within-at}
use Rattle.integers.proofs.RangeLaws.{back, size_fits, word_fits}
use Rattle.model.specs.Grammar.{ticket_loops, most_points}
use Rattle.model.specs.Directions.{Kind, kind_count, kinds, flow, anti, output}
use Rattle.model.specs.Listing.{letter}
use Rattle.model.specs.Pairs.{indices_in}
use Rattle.dependence_vectors.specs.Candidates.{row}
use Rattle.pair_records.specs.Conflicts.{PointsIn, record_room, record_words, block_count}

-- ---- the indices of a point

pub indices-length : (p : List ℤ) → length (indices_in p) ≡ ticket_loops
unfolding indices_in
indices-length p = length-take-le ticket_loops (p ++ replicate ticket_loops (pos 0))
    (let a = length-append p (replicate ticket_loops (pos 0)) in omega arith)

module _ (s : List ℤ) (d n : ℕ) (ok : PointsIn s d n) (x : ℕ) (h : x < n) where
  pub point-inside : (x * d + d ≤ length s) × (x * d + d ≤ 16384)
  point-inside = let r = row_fits d x n h in let t = ok.stored in
      let q : n * d ≤ most_points * ticket_loops = mul-le-mul ok.few-points ok.shallow in (omega arith, omega arith)

  row-length : length (row d s x) ≡ d
  unfolding row
  row-length = let r = point-inside.0 in length-take-le d (drop (x * d) s) (simp length-drop (omega arith))

  pub index-there : (l : ℕ) → l < d → get_or (indices_in (row d s x)) l (pos 0) ≡ get_or s (x * d + l) (pos 0)
  unfolding indices_in row
  index-there l g = let w = row-length in let f = ok.shallow in
      get_or-take ticket_loops (row d s x ++ replicate ticket_loops (pos 0)) l (pos 0) (omega arith)
      ∙ get_or-append (row d s x) (replicate ticket_loops (pos 0)) (pos 0) l (omega arith)
      ∙ get_or-take d (drop (x * d) s) l (pos 0) g ∙ get_or-drop (x * d) s l (pos 0)

  pub index-beyond : (l : ℕ) → d ≤ l → l < ticket_loops → get_or (indices_in (row d s x)) l (pos 0) ≡ pos 0
  unfolding indices_in
  index-beyond l g f = let w = row-length in let e : l ≡ length (row d s x) + (l - d) = omega arith in
      get_or-take ticket_loops (row d s x ++ replicate ticket_loops (pos 0)) l (pos 0) f
      ∙ ap (λ i. get_or (row d s x ++ replicate ticket_loops (pos 0)) i (pos 0)) e
      ∙ get_or-append-add (row d s x) (replicate ticket_loops (pos 0)) (l - d) (pos 0)
      ∙ get_or-replicate ticket_loops (l - d) (pos 0) (pos 0) (omega arith)

  pub index-near : (l : ℕ) → l < d → size (get_or s (x * d + l) (pos 0)) ≤ 32767
  index-near l g =
      let k = length-rows d n s in
      let e : get_or (rows d n s) x [] ≡ take d (drop (x * d) s) = rows-get_d d n s x [] h in
      let w : Within 32767 (take d (drop (x * d) s)) = subst (Within 32767) e (all_get_d (Within 32767) (rows d n s) x [] ok.near (omega arith)) in
      subst (λ z. size z ≤ 32767) (get_or-take d (drop (x * d) s) l (pos 0) g ∙ get_or-drop (x * d) s l (pos 0))
      (within-at 32767 (take d (drop (x * d) s)) w l)

  -- ---- as they are written

  module _ (o : List ℤ) (at : ℕ) (p : at + ticket_loops ≤ length o) (out : List ℤ) (l : ℕ)
      (e : out ≡ put o at (take l (indices_in (row d s x)))) where
    fits : at + length (indices_in (row d s x)) ≤ length o
    fits = let k = indices-length (row d s x) in omega arith

    pub indices-room : l ≤ ticket_loops → length out ≡ length o
    indices-room g = let k = indices-length (row d s x) in copy-room o (indices_in (row d s x)) at fits out l e (omega arith)

    pub index-written : l < ticket_loops → (z : ℤ) → get_or (indices_in (row d s x)) l (pos 0) ≡ z
        → set out (at + l) z ≡ put o at (take (l + 1) (indices_in (row d s x)))
    index-written g z q = let k = indices-length (row d s x) in ap (set out (at + l)) (sym q)
        ∙ copy_more o (indices_in (row d s x)) at fits out l e (pos 0) (omega arith)

    pub indices-written : l ≡ ticket_loops → out ≡ put o at (indices_in (row d s x))
    indices-written g = copy_done o (indices_in (row d s x)) at fits out l e (g ∙ sym (indices-length (row d s x)))

-- ---- the words of a record

pub record-length : (s : List ℤ) (d m x y j : ℕ) → length (record_words s d m x y j) ≡ record_room
unfolding record_words
record-length s d m x y j = let a = indices-length (row d s x) in let b = indices-length (row d s y) in simp length-append (omega arith)

-- one word more
set_next : (o : List ℤ) (p : ℕ) (xs : List ℤ) (i : ℕ) (a : ℤ) → i ≡ p + length xs → i < length o → set (put o p xs) i a ≡ put o p (xs ++ (a ∷ []))
set_next o p xs i a e h = ap (λ k. set (put o p xs) k a) e ∙ set-put o p xs a (omega arith)

-- three words after two lists of four
pub words-written : (o : List ℤ) (at : ℕ) (xs ys : List ℤ) (a b c : ℤ) → length xs ≡ ticket_loops → length ys ≡ ticket_loops
    → at + record_room ≤ length o
    → set (set (set (put (put o at xs) (at + 4) ys) (at + 8) a) (at + 8 + 1) b) (at + 8 + 2) c ≡ put o at (xs ++ (ys ++ (a ∷ b ∷ c ∷ [])))
words-written o at xs ys a b c h g r =
    let l = length-append xs ys in
    let la = length-append (xs ++ ys) (a ∷ []) in
    let lb = length-append ((xs ++ ys) ++ (a ∷ [])) (b ∷ []) in
    ap (λ w. set (set (set w (at + 8) a) (at + 8 + 1) b) (at + 8 + 2) c)
    (ap (λ k. put (put o at xs) (at + k) ys) (sym h) ∙ put-put o at xs ys (omega arith))
    ∙ ap (λ w. set (set w (at + 8 + 1) b) (at + 8 + 2) c) (set_next o at (xs ++ ys) (at + 8) a (omega arith) (omega arith))
    ∙ ap (λ w. set w (at + 8 + 2) c) (set_next o at ((xs ++ ys) ++ (a ∷ [])) (at + 8 + 1) b (omega arith) (omega arith))
    ∙ set_next o at (((xs ++ ys) ++ (a ∷ [])) ++ (b ∷ [])) (at + 8 + 2) c (omega arith) (omega arith)
    ∙ ap (put o at) (simp append_assoc)

-- the parts of a block's number
pub block-parts : (m j : ℕ) → j < block_count m → (0 < m) × (j / kind_count / m < m) × (j / kind_count % m < m)
unfolding block_count
block-parts zero j h = absurd (omega arith)
block-parts (suc m) j h = let p : 0 < suc m = omega arith in let q : j / kind_count < suc m * suc m = omega arith in
    (p, (div-lt_iff_lt-mul p).1 q, mod-lt (j / kind_count) p)

pub record-written : (s : List ℤ) (d m x y j : ℕ) (o o₁ o₂ : List ℤ) (at : ℕ) (a b c : ℤ) → o₁ ≡ put o at (indices_in (row d s x))
    → o₂ ≡ put o₁ (at + 4) (indices_in (row d s y)) → a ≡ pos (j / kind_count / m + 1) → b ≡ pos (j / kind_count % m + 1)
    → c ≡ pos (letter (get_or kinds (j % kind_count) flow)) → at + record_room ≤ length o
    → set (set (set o₂ (at + 8) a) (at + 8 + 1) b) (at + 8 + 2) c ≡ put o at (record_words s d m x y j)
unfolding record_words
record-written s d m x y j o o₁ o₂ at a b c e f ea eb ec h =
    ap (λ w. set (set (set w (at + 8) a) (at + 8 + 1) b) (at + 8 + 2) c) (f ∙ ap (λ w. put w (at + 4) (indices_in (row d s y))) e)
    ∙ words-written o at (indices_in (row d s x)) (indices_in (row d s y)) a b c (indices-length (row d s x)) (indices-length (row d s y)) h
    ∙ rw (ea, eb, ec, add-one (j / kind_count / m), add-one (j / kind_count % m))

-- ---- words as the machine has them

pub narrowed : (z : ℤ) → size z ≤ 32767 → (SFits w16 (to_z w64 (of_z w64 z))) × (to_z w16 (of_z w16 (to_z w64 (of_z w64 z))) ≡ z)
narrowed z h = let e = back {z = z} (size_fits h (omega arith)) in let f = word_fits {z = z} h in
    (subst (SFits w16) (sym e) f, ap (λ y. to_z w16 (of_z w16 y)) e ∙ to_z-of_z f)

pub near-read : (z : ℤ) → size z ≤ 32767 → (size (to_z w64 (of_z w64 z)) ≤ 32767) × (to_z w64 (of_z w64 z) ≡ z)
near-read z h = let e = back {z = z} (size_fits h (omega arith)) in (subst (λ y. size y ≤ 32767) (sym e) h, e)

-- a word that is stored
pub word_back : (z r : ℤ) → size z ≤ 32767 → r ≡ z → to_z w16 (of_z w16 r) ≡ z
word_back z r h e = ap (λ y. to_z w16 (of_z w16 y)) e ∙ to_z-of_z (word_fits {z = z} h)

pub letter-small : (k : Kind) → letter k < 128
unfolding letter
letter-small flow = omega arith
letter-small anti = omega arith
letter-small output = omega arith
