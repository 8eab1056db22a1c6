-- Words written one after another. In order: two parts; parts, each made from its number (`spans`); a loop that writes them (`Filling`); one
-- word; words of a slice.
use mathlib.Core.Path.{◌≡◌, refl, sym, ap, ap₂, ◌∙◌, subst}
use mathlib.Core.List.{List, [], ◌∷◌, ◌++◌, map, flat_map, append_assoc, append-nil}
use Prim.Native.Nat.{ℕ, zero, suc, ◌+◌, ◌-◌, ◌/◌, ◌%◌, ◌≤◌, ◌<◌}
use native.Mathlib.Nat.{add-zero, zero-add, add-suc, suc-add}
use native.Mathlib.Omega.{arith}
use lib.IntN.{ℤ, pos, negsuc}
use lib.ListN.{length, get_or, take, drop, length-append, length-map}
use lib.Seq.{drop-cons, drop-drop, take-length}
use mir.Syntax.{w16}
use mir.Val.{of_z}
use borrow.Rule.Slice.PartMut.{put_mid}
use Rattle.std.proofs.lemmas.List.{get_or-map}
use Rattle.lists.specs.Parts.{put}
use Rattle.lists.proofs.MembershipLaws.{all_left, all_right}
use Rattle.lists.proofs.PartLaws.{put-nil, put-put, length-put}
use Rattle.model.specs.Words.{bits, word_bytes, bytes_of}
use Rattle.model.specs.Ranges.{Small}
use Rattle.model.proofs.Grammar.WordLaws.{bytes-append, length-bytes}
use Rattle.ticket_encoding_words.specs.Writing.{Writable, Written}

-- ---- two parts

written_none : (o : List ℕ) (at : ℕ) → Written o o at [] at
unfolding bytes_of flat_map
written_none o at = record { same = sym (put-nil o at); next = omega arith }

pub written-length : {o o' : List ℕ} {at r : ℕ} {ws : List ℤ} → Writable o at ws → Written o o' at ws r → length o' ≡ length o
written-length {o} {o'} {at} {r} {ws} h w =
    let e = length-bytes ws in let s = h.room in ap length w.same ∙ length-put o at (bytes_of ws) (omega arith)

module _ {o : List ℕ} {at : ℕ} (us vs : List ℤ) (h : Writable o at (us ++ vs)) where
  pub writable-left : Writable o at us
  writable-left = let s = h.room in let e = length-append us vs in record { room = omega arith; small = all_left Small us vs h.small }

  pub writable-right : {o' : List ℕ} {r : ℕ} → Written o o' at us r → Writable o' r vs
  writable-right w =
      let s = h.room in let e = length-append us vs in let f = written-length writable-left w in let n = w.next in
      record { room = omega arith; small = all_right Small us vs h.small }

  pub written_both : {o' o'' : List ℕ} {r q : ℕ} → Written o o' at us r → Written o' o'' r vs q → Written o o'' at (us ++ vs) q
  written_both {o'} {o''} {r} {q} w v =
      let s = h.room in let e = length-append us vs in let b = length-bytes us in let n = w.next in let m = v.next in
      let p : r ≡ at + length (bytes_of us) = omega arith in
      record {
        same = v.same ∙ ap (λ l. put l r (bytes_of vs)) w.same ∙ ap (λ i. put (put o at (bytes_of us)) i (bytes_of vs)) p
            ∙ put-put o at (bytes_of us) (bytes_of vs) (omega arith) ∙ ap (put o at) (sym (bytes-append us vs));
        next = omega arith;
      }

-- ---- one part after another

-- parts j, j + 1, .. of n parts
unfoldable pub spans : (ℕ → List ℤ) → ℕ → ℕ → List ℤ
spans f j zero = []
spans f j (suc n) = f j ++ spans f (suc j) n

module _ (f : ℕ → List ℤ) where
  spans-append : (j m n : ℕ) → spans f j (m + n) ≡ spans f j m ++ spans f (j + m) n
  unfolding spans
  spans-append j zero n = ap₂ (spans f) (sym (add-zero j)) (zero-add n)
  spans-append j (suc m) n =
      ap (spans f j) (suc-add m n) ∙ ap (f j ++◌) (spans-append (suc j) m n
      ∙ ap (λ i. spans f (suc j) m ++ spans f i n) (suc-add j m ∙ sym (add-suc j m)))
      ∙ sym (append_assoc (f j) (spans f (suc j) m) (spans f (j + suc m) n))

  -- one part more
  spans-next : (j k : ℕ) → spans f j (k + 1) ≡ spans f j k ++ f (j + k)
  unfolding spans
  spans-next j k = spans-append j k 1 ∙ ap (spans f j k ++◌) (append-nil (f (j + k)))

-- ---- a loop that writes n parts from part j on, after k rounds

pub record Filling (f : ℕ → List ℤ) (o : List ℕ) (at j n : ℕ) (out : List ℕ) (next k : ℕ) : Type 0 where
  pub low : k ≤ n
  pub whole : Writable o at (spans f j n)
  pub written : Written o out at (spans f j k) next

module _ {f : ℕ → List ℤ} {o : List ℕ} {at j n : ℕ} where
  fill_start : Writable o at (spans f j n) → Filling f o at j n o at 0
  unfolding spans
  fill_start w = record { low = omega arith; whole = w; written = written_none o at }

  module _ {out : List ℕ} {next k : ℕ} (i : Filling f o at j n out next k) where
    both : k < n → Writable o at (spans f j k ++ f (j + k))
    both h = let e : n ≡ (k + 1) + (n - (k + 1)) = omega arith in
        subst (Writable o at) (spans-next f j k)
        (writable-left (spans f j (k + 1)) (spans f (j + (k + 1)) (n - (k + 1)))
        (subst (Writable o at) (ap (spans f j) e ∙ spans-append f j (k + 1) (n - (k + 1))) i.whole))

    pub fill-next : k < n → Writable out next (f (j + k))
    fill-next h = writable-right (spans f j k) (f (j + k)) (both h) i.written

    pub fill_more : {out' : List ℕ} {q : ℕ} → k < n → Written out out' next (f (j + k)) q → Filling f o at j n out' q (k + 1)
    fill_more {out'} {q} h v = record {
      low = omega arith;
      whole = i.whole;
      written = subst (λ ws. Written o out' at ws q) (sym (spans-next f j k)) (written_both (spans f j k) (f (j + k)) (both h) i.written v);
    }

    fill_done : n ≤ k → Written o out at (spans f j n) next
    fill_done h = let s = i.low in let e : k ≡ n = omega arith in subst (λ m. Written o out at (spans f j m) next) e i.written

-- from the first part on

module _ {f : ℕ → List ℤ} {o : List ℕ} {at n : ℕ} {out : List ℕ} {next k : ℕ} (i : Filling f o at 0 n out next k) (h : k < n) where
  pub front-next : Writable out next (f k)
  front-next = subst (λ m. Writable out next (f m)) (zero-add k) (fill-next i h)

  pub front-more : {out' : List ℕ} {q : ℕ} → Written out out' next (f k) q → Filling f o at 0 n out' q (k + 1)
  front-more {out'} {q} v = fill_more i h (subst (λ m. Written out out' next (f m) q) (sym (zero-add k)) v)

-- a word and then the parts

pub head-room : {o : List ℕ} {at : ℕ} {ws rest : List ℤ} {w : ℤ} → ws ≡ w ∷ rest → Writable o at ws → Writable o at (w ∷ [])
head-room {o} {at} {ws} {rest} {w} e h = writable-left (w ∷ []) rest (subst (Writable o at) e h)

module _ {f : ℕ → List ℤ} {o o' : List ℕ} {at r j n : ℕ} {ws : List ℤ} {w : ℤ} (e : ws ≡ w ∷ spans f j n) (h : Writable o at ws)
    (v : Written o o' at (w ∷ []) r) where
  pub head-start : Filling f o' r j n o' r 0
  head-start = fill_start (writable-right (w ∷ []) (spans f j n) (subst (Writable o at) e h) v)

  pub head_done : {out : List ℕ} {next k : ℕ} → Filling f o' r j n out next k → n ≤ k → Written o out at ws next
  head_done {out} {next} {k} i b = subst (λ us. Written o out at us next) (sym e)
      (written_both (w ∷ []) (spans f j n) (subst (Writable o at) e h) v (fill_done i b))

-- parts with nothing before them

module _ {f : ℕ → List ℤ} {o : List ℕ} {at j n : ℕ} {ws : List ℤ} (e : ws ≡ spans f j n) where
  pub bare-start : Writable o at ws → Filling f o at j n o at 0
  bare-start h = fill_start (subst (Writable o at) e h)

  pub bare-done : {out : List ℕ} {next k : ℕ} → Filling f o at j n out next k → n ≤ k → Written o out at ws next
  bare-done {out} {next} {k} i b = subst (λ us. Written o out at us next) (sym e) (fill_done i b)

-- ---- one word

-- numbers below 0 are the upper half of the 16-bit numbers
pub bits-same : (w : ℤ) → of_z w16 w ≡ bits w
unfolding bits
bits-same (pos n) = refl
bits-same (negsuc n) = omega arith

-- its two bytes in the place of those two
pub word-written : (o : List ℕ) (at : ℕ) (w : ℤ) (v : ℕ) (ys bs : List ℕ) → v ≡ bits w → v < 65536
    → bs ≡ v % 256 ∷ (v / 256) % 256 ∷ [] → ys ≡ bs
    → Written o (put_mid at (at + 2 - at) o ys) at (w ∷ []) (at + 2)
unfolding bytes_of word_bytes flat_map put
word-written o at w v ys bs q h e f = let d : at + 2 - at ≡ 2 = omega arith in let m : (v / 256) % 256 ≡ v / 256 = omega arith in record {
  same = rw (f, e, m, q, d, drop-drop);
  next = refl;
}

-- ---- words of a slice

pub words-spans : (l : List ℤ) (i n : ℕ) → i + n ≤ length l → take n (drop i l) ≡ spans (λ k. get_or l k (pos 0) ∷ []) i n
unfolding spans
words-spans l i zero h = refl
words-spans l i (suc n) h =
    ap (take (suc n)) (drop-cons l i (pos 0) (omega arith)) ∙ ap (get_or l i (pos 0) ∷◌) (words-spans l (suc i) n (omega arith))

pub mapped-spans : {A : Type 0} (f : A → ℤ) (xs : List A) → map f xs ≡ spans (λ k. get_or (map f xs) k (pos 0) ∷ []) 0 (length xs)
mapped-spans f xs = let e = length-map xs f in
    sym (take-length (map f xs)) ∙ words-spans (map f xs) 0 (length (map f xs)) (omega arith)
    ∙ ap (spans (λ k. get_or (map f xs) k (pos 0) ∷ []) 0) e

-- the next one, at the number that stands for each
module _ {A : Type 0} (f : A → ℤ) (xs : List A) {k : ℕ} {x : A} (h : k < length xs) (e : x ≡ get_or xs k x) where
  word-at : get_or (map f xs) k (pos 0) ≡ f x
  word-at = get_or-map f xs k x (pos 0) h ∙ ap f (sym e)

  pub word_in : {o : List ℕ} {at : ℕ} → Writable o at (get_or (map f xs) k (pos 0) ∷ []) → Writable o at (f x ∷ [])
  word_in {o} {at} w = subst (λ y. Writable o at (y ∷ [])) word-at w

  pub word_out : {o o' : List ℕ} {at r : ℕ} → Written o o' at (f x ∷ []) r → Written o o' at (get_or (map f xs) k (pos 0) ∷ []) r
  word_out {o} {o'} {at} {r} w = subst (λ y. Written o o' at (y ∷ []) r) (sym word-at) w

-- n words from word i on, up to word e
module _ {A : Type 0} (f : A → ℤ) (xs : List A) (i n e : ℕ) (q : e ≡ i + n) {ws : List ℤ} (s : ws ≡ map f (take n (drop i xs))) where
  abbrev part : List ℤ
  part = map f (take (e - i) (drop i xs))

  part-same : ws ≡ part
  part-same = let r : e - i ≡ n = omega arith in s ∙ ap (λ m. map f (take m (drop i xs))) (sym r)

  pub part-room : {o : List ℕ} {at : ℕ} → Writable o at ws → Writable o at part
  part-room {o} {at} w = subst (Writable o at) part-same w

  pub part-written : {o o' : List ℕ} {at r : ℕ} → Written o o' at part r → Written o o' at ws r
  part-written {o} {o'} {at} {r} w = subst (λ us. Written o o' at us r) (sym part-same) w
