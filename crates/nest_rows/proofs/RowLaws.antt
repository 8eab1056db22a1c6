-- A number as it is read from 16 bits to 32 and written back; a row read and written number by number.
use mathlib.Core.Path.{◌≡◌, refl, sym, ap, ap₂, ◌∙◌}
use mathlib.Core.Bool.{Bool, true, false}
use mathlib.Core.List.{List, [], ◌∷◌, ◌++◌}
use Prim.Native.Nat.{ℕ, suc, ◌+◌, ◌-◌, ◌≤◌, ◌<◌}
use native.Mathlib.Omega.{arith}
use native.Mathlib.Numerals.{add-one}
use lib.IntN.{ℤ, pos}
use lib.ListN.{length, get_or, take, drop, set, length-drop}
use lib.Seq.{take-suc, take-suc-set, take-take, length-take-le, drop-cons, get_or-drop, take-set-lt, get_or-take, paste}
use Rattle.std.proofs.lemmas.List.{drop-take}
use Rattle.std.proofs.lemmas.List.Edits.{take-paste}
use Rattle.lists.specs.Place.{under, swapped}
use Rattle.lists.proofs.PlaceLaws.{under-swapped}
use mir.Syntax.{w16, w32}
use mir.Val.{SFits, to_z, of_z}
use mir.Facts.{to_z-of_z}
use Rattle.lists.specs.Parts.{put}
use Rattle.lists.specs.Tests.{all}
use Rattle.lists.proofs.PartLaws.{length-put}
use Rattle.lists.proofs.CopyLaws.{copy_more}
use Rattle.lists.proofs.TestLaws.{true-T}
use Rattle.integers.specs.Difference.{size}
use Rattle.integers.specs.Affine.{Within}
use Rattle.integers.proofs.RangeLaws.{sfits_up, sfits-down, sfits, word_fits}
use Rattle.integers.proofs.AffineLaws.{within-at}
use Rattle.model.specs.Judge.{small}
use Rattle.nest_rows.specs.Rows.{RowIs, Tried}
use Rattle.nest_rows.proofs.SmallLaws.{row_small}

-- ---- one word

pub word_wide : {z : ℤ} → SFits w16 z → SFits w32 z
word_wide {z} h = let u = sfits_up w16 z h in let d = sfits-down w16 z h in sfits (omega arith)

module _ (z : ℤ) (h : size z ≤ 32767) where
  -- as it is read, and as it is written
  pub number_read : to_z w32 (of_z w32 z) ≡ z
  number_read = to_z-of_z {w = w32} (sfits (omega arith))

  pub number_fits : SFits w16 (to_z w32 (of_z w32 z))
  number_fits = rw number_read (word_fits h)

  pub number-written : to_z w16 (of_z w16 (to_z w32 (of_z w32 z))) ≡ z
  number-written = to_z-of_z number_fits ∙ number_read

-- ---- a row that is read: the first k numbers are there

pub read_more : (w : List ℤ) (at k : ℕ) (r : List ℤ) (z : ℤ) → k < length r → at + k < length w → take k r ≡ take k (drop at w)
    → z ≡ get_or w (at + k) (pos 0)
    → take (k + 1) (set r k z) ≡ take (k + 1) (drop at w)
read_more w at k r z h g e q = let d = length-drop at w in
    rw add-one (take-suc-set r k z h ∙ ap₂ (λ (x : List ℤ) (y : ℤ). x ++ (y ∷ [])) e (q ∙ sym (get_or-drop at w k (pos 0)))
    ∙ sym (take-suc (drop at w) k (pos 0) (omega arith)))

-- six words, one by one
module _ (w : List ℤ) (at : ℕ) (h : at + 6 ≤ length w) where
  read_one : (k m n : ℕ) (z : ℤ) (l : List ℤ) → m ≡ suc k → k < length w → z ≡ get_or w k (pos 0) → l ≡ take n (drop m w)
      → z ∷ l ≡ take (suc n) (drop k w)
  read_one k m n z l q g e f = ap₂ ◌∷◌ e (f ∙ ap (λ (i : ℕ). take n (drop i w)) q) ∙ sym (ap (take (suc n)) (drop-cons w k (pos 0) g))

  pub six-read : (a b c d e f : ℤ) → a ≡ get_or w at (pos 0) → b ≡ get_or w (at + 1) (pos 0) → c ≡ get_or w (at + 2) (pos 0) → d ≡ get_or w (at + 3) (pos 0)
      → e ≡ get_or w (at + 4) (pos 0) → f ≡ get_or w (at + 5) (pos 0)
      → a ∷ b ∷ c ∷ d ∷ e ∷ f ∷ [] ≡ take 6 (drop at w)
  six-read a b c d e f p q r s t u =
      read_one at (at + 1) 5 a _ (omega arith) (omega arith) p (read_one (at + 1) (at + 2) 4 b _ (omega arith) (omega arith) q
      (read_one (at + 2) (at + 3) 3 c _ (omega arith) (omega arith) r
      (read_one (at + 3) (at + 4) 2 d _ (omega arith) (omega arith) s (read_one (at + 4) (at + 5) 1 e _ (omega arith) (omega arith) t
      (read_one (at + 5) (at + 6) 0 f [] (omega arith) (omega arith) u refl)))))

-- those that count
pub row-part : (w : List ℤ) (at n : ℕ) (r : List ℤ) → at + 6 ≤ length w → n ≤ 6 → r ≡ take 6 (drop at w) → RowIs n r (take n (drop at w))
row-part w at n r h g e = let d = length-drop at w in record {
  is = ap (take n) e ∙ take-take n 6 (drop at w) g;
  room = ap length e
      ∙ length-take-le 6 (drop at w) (omega arith);
}

-- ---- places of a row, as std's methods leave them

module _ {A : Type 0} (n a : ℕ) where
  exchanged-at : (d : A) (l : List A) → n ≤ length l → a + 1 < n
      → take n (set (set l a (get_or l (a + 1) d)) (a + 1) (get_or l a d)) ≡ under a swapped (take n l)
  exchanged-at d l g h =
      let k : length (take n l) ≡ n = length-take-le n l g in
      take-set-lt n (set l a (get_or l (a + 1) d)) (a + 1) (get_or l a d) h
      ∙ ap (λ w. set w (a + 1) (get_or l a d)) (take-set-lt n l a (get_or l (a + 1) d) (omega arith))
      ∙ rw (← (get_or-take n l a d (omega arith)), ← (get_or-take n l (a + 1) d h), add-one) (sym (under-swapped a (take n l) d (omega arith)))

  pub exchanged : (l m : List A) → n ≤ length l → a + 1 < n → ((d : A) → m ≡ set (set l a (get_or l (a + 1) d)) (a + 1) (get_or l a d))
      → take n m ≡ under a swapped (take n l)
  exchanged [] m g h e = absurd (omega arith)
  exchanged (x ∷ l) m g h e = ap (take n) (e x) ∙ exchanged-at x (x ∷ l) g h

  pub doubled : (l m : List A) → n < length l → a < n → m ≡ paste l (a + 1) (drop a l) (n - a)
      → take (n + 1) m ≡ take (a + 1) l ++ drop a (take n l)
  doubled l m g h e =
      let d = length-drop a l in
      let at : a + 1 + (n - a) ≡ n + 1 = omega arith in
      let back : a + (n - a) ≡ n = omega arith in
      ap (take (n + 1)) e ∙ ap (λ i. take i (paste l (a + 1) (drop a l) (n - a))) (sym at)
      ∙ take-paste l (a + 1) (drop a l) (n - a) (omega arith) (omega arith)
      ∙ ap (take (a + 1) l ++◌) (sym (drop-take a (n - a) l) ∙ ap (λ i. drop a (take i l)) back)

-- ---- a row that is written

module _ (o row : List ℤ) (at : ℕ) (p : (at + length row ≤ length o) × Within 32767 row) where
  near : (j : ℕ) → size (get_or row j (pos 0)) ≤ 32767
  near j = within-at 32767 row p.1 j

  pub narrow-in : (j : ℕ) → size (to_z w32 (of_z w32 (get_or row j (pos 0)))) ≤ 32767
  narrow-in j = rw (number_read (get_or row j (pos 0)) (near j)) (near j)

  module _ (out : List ℤ) (j : ℕ) (e : out ≡ put o at (take j row)) where
    pub row_more : j < length row → {z : ℤ} → z ≡ to_z w32 (of_z w32 (get_or row j (pos 0)))
        → set out (at + j) (to_z w16 (of_z w16 z)) ≡ put o at (take (j + 1) row)
    row_more h q =
        ap (set out (at + j)) (ap (λ (x : ℤ). to_z w16 (of_z w16 x)) q ∙ number-written (get_or row j (pos 0)) (near j))
        ∙ copy_more o row at p.0 out j e (pos 0) h

-- ---- words tried

module _ (test : Bool) (s : List ℤ) (at : ℕ) (xs : List ℤ) where
  pub tried-no : (r : Bool) → r ≡ test → r ≡ false → Tried test s at xs false s
  tried-no r e f = record { passed = sym f ∙ e; made = λ n. absurd (let z : ◌≡◌ {A = ℕ} 0 1 = cc in omega arith); kept = λ _. refl; room = refl }

  pub tried-yes : (r : Bool) (t : List ℤ) → r ≡ test → r ≡ true → at + length xs ≤ length s → t ≡ put s at xs → Tried test s at xs true t
  tried-yes r t e f h q = record {
    passed = sym f ∙ e;
    made = λ _. q;
    kept = λ n. absurd (let z : ◌≡◌ {A = ℕ} 0 1 = cc in omega arith);
    room = ap
        length q ∙ length-put s at xs h;
  }

pub passed-small : (r : Bool) (cs : List ℤ) → r ≡ all small cs → r ≡ true → Within 32767 cs
passed-small r cs e f = row_small cs (true-T (all small cs) (sym e ∙ f))
