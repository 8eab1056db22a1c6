-- Forms: folded number by number; how large their numbers are; their values. Then the form of an access, dimension by dimension.
use mathlib.Core.Path.{◌≡◌, refl, sym, ◌∙◌, ap, ap₂, subst}
use mathlib.Core.List.{List, [], ◌∷◌, ◌++◌, zip_with}
use Prim.Native.Nat.{ℕ, zero, suc, ◌+◌, ◌*◌, ◌-◌, ◌≤◌, ◌<◌}
use native.Mathlib.Omega.{arith}
use native.Mathlib.Nat.{mul-le-mul_left, add-zero}
use native.Mathlib.Numerals.{add-one}
use lib.Dec.{T}
use lib.IntN.{ℤ, pos, nat_abs, ◌+ℤ◌, ◌*ℤ◌}
use lib.Signed.{non_neg}
use lib.ListN.{length, get_or, take, drop, set, replicate, length-drop, length-set}
use lib.Seq.{length-take-le, take-take, take-suc, take-suc-set, drop-drop, get_or-take, get_or-drop, take-length}
use mir.Syntax.{w16, w64}
use mir.Val.{Fits, SFits, to_z, of_z}
use Rattle.lists.proofs.MembershipLaws.{length-zip_with, zip_with-more}
use Rattle.integers.specs.Difference.{size}
use Rattle.integers.specs.Affine.{dot, affine, Within, AffineIn}
use Rattle.integers.proofs.RangeLaws.{sfits, from-nat, back, cast_ok, size-nat_abs, size-add, size-mul}
use Rattle.integers.proofs.AffineLaws.{within-at, within-take, within_more, affine-scaled, dot-front, dot-zeros}
use Rattle.integers.proofs.Polynomial.{◌⊕◌}
use Rattle.integers.proofs.Linear.{lin, ◌≐◌}
use Rattle.model.specs.Bounds.{subscript_at}
use Rattle.nest_index_range.proofs.LimitLaws.{copied, within-drop}
use Rattle.nest_index_range.specs.Ranges.{Narrow}
use Rattle.nest_flat.specs.Layout.{form_at, ArrayIn, AccessesOk}
use Rattle.nest_elements.specs.Forms.{words_at, folded, form_to, raised, form_of, value_at, FoldIn, ValueIn, PlacedIn}
use Rattle.nest_elements.proofs.LayoutLaws.{array-in}

-- ---- one number

pub number_fits : (x y : ℤ) (n : ℕ) → (size x ≤ 134246399) × (n ≤ 4096) × (size y ≤ 32767) → SFits w64 (x *ℤ pos n) × SFits w64 (x *ℤ pos n +ℤ y)
number_fits x y n h = let e = h.1 in let p = size-mul x (pos n) {n = 4096} h.0 (omega arith)
    in (sfits (omega arith), sfits (omega (arith, size-add (x *ℤ pos n) y)))

-- ---- a form and the words of a subscript

pub words-length : (w : List ℤ) (j : ℕ) → j * 8 + 8 ≤ length w → length (words_at w j) ≡ 8
unfolding words_at
words-length w j h = length-take-le 8 (drop (j * 8) w) (let l = length-drop (j * 8) w in omega arith)

word_read : (w : List ℤ) (j l : ℕ) → l < 8 → get_or (words_at w j) l (pos 0) ≡ get_or w (j * 8 + l) (pos 0)
unfolding words_at
word_read w j l h = get_or-take 8 (drop (j * 8) w) l (pos 0) h ∙ get_or-drop (j * 8) w l (pos 0)

-- the first l words are copied
module _ (w : List ℤ) (j : ℕ) (p : j * 8 + 8 ≤ length w) where
  pub copy_more : (l : ℕ) (r : List ℤ) (z : ℤ) → l < 8 → length r ≡ 8 → Within 32767 w → take l r ≡ take l (words_at w j)
      → z ≡ get_or w (j * 8 + l) (pos 0)
      → take (l + 1) (set r l (to_z w64 (of_z w64 z))) ≡ take (l + 1) (words_at w j)
  copy_more l r z h lr small e q =
      let k = words-length w j p in
      let s = within-at 32767 w small (j * 8 + l) in
      let v : to_z w64 (of_z w64 z) ≡ get_or (words_at w j) l (pos 0) = ap (λ (t : ℤ). to_z w64 (of_z w64 t)) q
      ∙ copied (get_or w (j * 8 + l) (pos 0)) (omega arith) ∙ sym (word_read w j l h) in
      rw add-one (take-suc-set r l (to_z w64 (of_z w64 z)) (omega arith) ∙ ap₂ (λ (x : List ℤ) (y : ℤ). x ++ (y ∷ [])) e v
      ∙ sym (take-suc (words_at w j) l (pos 0) (omega arith)))

  pub copy-all : (r : List ℤ) (l : ℕ) → l ≡ 8 → length r ≡ 8 → take l r ≡ take l (words_at w j) → r ≡ words_at w j
  copy-all r l h lr e =
      let whole : (x : List ℤ) → length x ≡ 8 → take l x ≡ x = λ x q. ap (λ (m : ℕ). take m x) (h ∙ sym q) ∙ take-length x in
      sym (whole r lr) ∙ e ∙ whole (words_at w j) (words-length w j p)

module _ {f : List ℤ} {n : ℕ} {w : List ℤ} {j : ℕ} (p : FoldIn f n w j) where
  module _ (l : ℕ) {y : ℤ} (d : y ≡ get_or w (j * 8 + l) (pos 0)) where
    copied-number : to_z w64 (of_z w64 (get_or f l (pos 0))) ≡ get_or f l (pos 0)
    copied-number = let s = within-at 134246399 f p.near l in copied (get_or f l (pos 0)) (omega arith)

    copied-word : to_z w64 (of_z w64 y) ≡ get_or w (j * 8 + l) (pos 0)
    copied-word = let s = within-at 32767 w p.small (j * 8 + l) in ap (λ (z : ℤ). to_z w64 (of_z w64 z)) d
        ∙ copied (get_or w (j * 8 + l) (pos 0)) (omega arith)

    pub number_in : (size (to_z w64 (of_z w64 (get_or f l (pos 0)))) ≤ 134246399) × (n ≤ 4096) × (size (to_z w64 (of_z w64 y)) ≤ 32767)
    number_in = (rw copied-number (within-at 134246399 f p.near l), p.extents, rw copied-word (within-at 32767 w p.small (j * 8 + l)))

    pub fold_more : (r : List ℤ) (z : ℤ) → l < 8 → length r ≡ 8 → length f ≡ 8 → take l r ≡ folded n (take l f) (take l (words_at w j))
        → z ≡ to_z w64 (of_z w64 (get_or f l (pos 0))) *ℤ pos n +ℤ to_z w64 (of_z w64 y)
        → take (l + 1) (set r l (to_z w64 (of_z w64 z))) ≡ folded n (take (l + 1) f) (take (l + 1) (words_at w j))
    unfolding folded
    fold_more r z h lr lf e q =
        let v : z ≡ get_or f l (pos 0) *ℤ pos n +ℤ get_or w (j * 8 + l) (pos 0) = q ∙ rw (copied-number, copied-word) refl in
        let s = number_fits (get_or f l (pos 0)) (get_or w (j * 8 + l) (pos 0)) n (rw (← copied-number, ← copied-word) number_in) in
        let k = words-length w j p.inside in
        zip_with-more (λ x y. x *ℤ pos n +ℤ y) (pos 0) (pos 0) l r f (words_at w j) (to_z w64 (of_z w64 z)) (omega arith) (omega arith) (omega arith) e
        (ap (λ (t : ℤ). to_z w64 (of_z w64 t)) v ∙ back s.1 ∙ ap (λ (t : ℤ). get_or f l (pos 0) *ℤ pos n +ℤ t) (sym (word_read w j l h)))

  pub fold-all : (r : List ℤ) (l : ℕ) → l ≡ 8 → length r ≡ 8 → length f ≡ 8 → take l r ≡ folded n (take l f) (take l (words_at w j))
      → r ≡ folded n f (words_at w j)
  fold-all r l h lr lf e =
      let whole : (x : List ℤ) → length x ≡ 8 → take l x ≡ x = λ x q. ap (λ (m : ℕ). take m x) (h ∙ sym q) ∙ take-length x in
      sym (whole r lr) ∙ e ∙ ap₂ (folded n) (whole f lf) (whole (words_at w j) (words-length w j p.inside))

-- ---- sizes

pub within-zeros : (n m : ℕ) → Within n (replicate m (pos 0))
within-zeros n zero = tt
within-zeros n (suc m) = (omega arith, within-zeros n m)

pub within-folded : (m n m' : ℕ) (f g : List ℤ) → Within m f → Within 32767 g → m * n + 32767 ≤ m' → Within m' (folded n f g)
unfolding folded zip_with
within-folded m n m' [] g p q h = tt
within-folded m n m' (x ∷ f) [] p q h = tt
within-folded m n m' (x ∷ f) (y ∷ g) p q h = let b = q.0 in
    (omega (arith, size-add (x *ℤ pos n) y, size-mul x (pos n) {n = n} p.0 (omega arith)), within-folded m n m' f g p.1 q.1 h)

pub within-words : (w : List ℤ) (j : ℕ) → Within 32767 w → Within 32767 (words_at w j)
unfolding words_at
within-words w j h = within-take 32767 (drop (j * 8) w) 8 (within-drop 32767 w (j * 8) h)

-- ---- values

module _ (point : List ℤ) (few : length point ≤ 6) where
  value-is : (x : ℤ) (f : List ℤ) → length f ≡ 7 → value_at (x ∷ f) point ≡ affine x f point
  unfolding value_at affine
  value-is x f e = ap (λ (t : ℤ). x +ℤ t) (dot-front (length point) f point (omega arith) (omega arith))

  pub value-folded : (n : ℕ) (f g : List ℤ) → length f ≡ 8 → length g ≡ 8 → value_at (folded n f g) point ≡ value_at f point *ℤ pos n +ℤ value_at g point
  unfolding folded zip_with
  value-folded n [] g e h = absurd (omega arith)
  value-folded n (x ∷ f) [] e h = absurd (omega arith)
  value-folded n (x ∷ f) (y ∷ g) e h =
      value-is (x *ℤ pos n +ℤ y) (zip_with (λ a b. a *ℤ pos n +ℤ b) f g) (length-zip_with (λ a b. a *ℤ pos n +ℤ b) f g (omega arith) ∙ omega arith)
      ∙ affine-scaled (pos n) x y f g point (omega arith)
      ∙ ap₂ (λ (s t : ℤ). s *ℤ pos n +ℤ t) (sym (value-is x f (omega arith))) (sym (value-is y g (omega arith)))

  pub value_none : value_at (replicate 8 (pos 0)) point ≡ pos 0
  unfolding affine
  value_none = value-is (pos 0) (replicate 7 (pos 0)) refl ∙ ap (λ (t : ℤ). pos 0 +ℤ t) (dot-zeros 7 point)

  pub value-raised : (b : ℕ) (f : List ℤ) → length f ≡ 8 → value_at (raised b f) point ≡ value_at f point +ℤ pos b
  unfolding raised affine
  value-raised b [] e = absurd (omega arith)
  value-raised b (x ∷ f) e =
      value-is (x +ℤ pos b) f (omega arith)
      ∙ lin (x ∷ pos b ∷ dot f point ∷ []) (λ x b d. x ⊕ b ⊕ d ≐ x ⊕ d ⊕ b) tt
      ∙ ap (λ (t : ℤ). t +ℤ pos b) (sym (value-is x f (omega arith)))

  -- the words of a subscript are its form
  pub value-words : (w : List ℤ) (j : ℕ) → value_at (words_at w j) point ≡ subscript_at point (form_at w (length point) j)
  unfolding value_at words_at subscript_at form_at
  value-words w j = ap₂ (λ (e : ℤ) (cs : List ℤ). affine e cs point)
      (get_or-take 8 (drop (j * 8) w) 0 (pos 0) (omega arith) ∙ get_or-drop (j * 8) w 0 (pos 0) ∙ ap (λ (i : ℕ). get_or w i (pos 0)) (add-zero (j * 8)))
      (ap (take (length point)) (behind (drop (j * 8) w)) ∙ take-take (length point) 7 (drop 1 (drop (j * 8) w)) (omega arith)
      ∙ ap (take (length point)) (drop-drop 1 (j * 8) w))
    where
      behind : (l : List ℤ) → drop 1 (take 8 l) ≡ take 7 (drop 1 l)
      behind [] = refl
      behind (x ∷ l) = refl

-- ---- a form with b more

pub raised-length : (b : ℕ) (f : List ℤ) → length f ≡ 8 → length (raised b f) ≡ 8
unfolding raised
raised-length b f e = length-set f 0 (get_or f 0 (pos 0) +ℤ pos b) ∙ e

pub raised-in : (b : ℕ) (f point : List ℤ) → length f ≡ 8 → Within 2147483648 f → b ≤ 16384 → length point ≤ 6 → Within 100000 point
    → AffineIn (get_or (raised b f) 0 (pos 0)) (take (length point) (drop 1 (raised b f))) point
unfolding raised
raised-in b [] point e s h l p = absurd (omega arith)
raised-in b (x ∷ f) point e s h l p = let q = length-take-le (length point) f (omega arith) in let z = s.0 in record {
  matched = sym q;
  few = omega arith;
  constant = omega (arith, size-add x (pos b));
  coefficients = within-take 2147483648 f (length point) s.1;
  indices = within_more point p (omega arith);
}

module _ (f : List ℤ) (b : ℕ) (p : Within 549873283071 f × (b ≤ 16384)) where
  sum-read : to_z w64 (of_z w64 (get_or f 0 (pos 0))) +ℤ to_z w64 b ≡ get_or f 0 (pos 0) +ℤ pos b
  sum-read = let s = within-at 549873283071 f p.0 0 in let h = p.1 in
      let x : to_z w64 (of_z w64 (get_or f 0 (pos 0))) ≡ get_or f 0 (pos 0) = back (sfits (omega arith)) in let y : to_z w64 b ≡ pos b = from-nat
      (omega arith) in ap₂ ◌+ℤ◌ x y

  sum_fits : SFits w64 (get_or f 0 (pos 0) +ℤ pos b)
  sum_fits = let s = within-at 549873283071 f p.0 0 in let h = p.1 in sfits (omega (arith, size-add (get_or f 0 (pos 0)) (pos b)))

  pub raise-fits : SFits w64 (to_z w64 (of_z w64 (get_or f 0 (pos 0))) +ℤ to_z w64 b)
  raise-fits = rw sum-read sum_fits

  pub raise-is : set f 0 (to_z w64 (of_z w64 (to_z w64 (of_z w64 (get_or f 0 (pos 0))) +ℤ to_z w64 b))) ≡ raised b f
  unfolding raised
  raise-is = ap (set f 0) (ap (λ (z : ℤ). to_z w64 (of_z w64 z)) sum-read ∙ back sum_fits)

-- ---- the value at a point, as the machine reads it

module _ {f point : List ℤ} (p : ValueIn f point) where
  constant-read : to_z w64 (of_z w64 (get_or f 0 (pos 0))) ≡ get_or f 0 (pos 0)
  constant-read = let s = p.lent.constant in back (sfits (omega arith))

  span-is : 1 + length point - 1 ≡ length point
  span-is = omega arith

  pub value_lent : AffineIn (to_z w64 (of_z w64 (get_or f 0 (pos 0)))) (take (1 + length point - 1) (drop 1 f)) point
  value_lent = rw (constant-read, span-is) p.lent

  pub value_read : {r : ℤ} → r ≡ affine (to_z w64 (of_z w64 (get_or f 0 (pos 0)))) (take (1 + length point - 1) (drop 1 f)) point
      → (to_z w64 (of_z w64 r) ≡ value_at f point) × Narrow (to_z w64 (of_z w64 r))
  unfolding value_at
  value_read {r} e =
      let g : r ≡ value_at f point = e ∙ rw (constant-read, span-is) in
      let h : to_z w64 (of_z w64 r) ≡ value_at f point = ap (λ (z : ℤ). to_z w64 (of_z w64 z)) g ∙ copied _ p.narrow in
      (h, subst Narrow (sym h) p.narrow)

-- a place, as unsigned
module _ {f point : List ℤ} (p : PlacedIn f point) {r : ℤ} (e : (r ≡ value_at f point) × Narrow r) where
  place_read : to_z w64 (of_z w64 r) ≡ value_at f point
  place_read = copied r e.1 ∙ e.0

  pub place-cast : T (non_neg (to_z w64 (of_z w64 r))) × Fits w16 (nat_abs (to_z w64 (of_z w64 r)))
  place-cast = let s = size-nat_abs (value_at f point) in let b = p.below in
      rw place_read ((cast_ok (value_at f point) p.inside (sfits (omega arith))).0, record { fits = omega arith })

  pub place-result : nat_abs (to_z w64 (of_z w64 r)) ≡ nat_abs (value_at f point)
  place-result = ap nat_abs place_read

-- ---- an access

-- how large a form of d dimensions can be, of words within ±32767 and extents up to 4096
abbrev pub reach : ℕ → ℕ
reach zero = 0
reach (suc d) = reach d * 4096 + 32767

module _ {w : List ℤ} {o a : List ℕ} {n k : ℕ} (ok : AccessesOk w o a n) (t : k < length o) where
  pub its-array : ArrayIn a (get_or o k 0)
  its-array = array-in w o a n (get_or o k 0) ok (ok.there k t)

  pub flat : get_or a (get_or o k 0 * 4) 0 ≤ 3
  flat = ok.dimensions (get_or o k 0) (ok.there k t)

  pub form-length : (d : ℕ) → d ≤ 3 → length (form_to w o a k d) ≡ 8
  unfolding form_to folded
  form-length zero h = refl
  form-length (suc d) h =
      let l = words-length w (k * 3 + d) (let v = ok.words in omega arith) in
      length-zip_with (λ x y. x *ℤ pos (get_or a (get_or o k 0 * 4 + 1 + d) 0) +ℤ y) (form_to w o a k d) (words_at w (k * 3 + d))
      (form-length d (omega arith) ∙ sym l) ∙ l

  pub form-near : (d : ℕ) → Within (reach d) (form_to w o a k d)
  unfolding form_to
  form-near zero = within-zeros 0 8
  form-near (suc d) = within-folded (reach d) (get_or a (get_or o k 0 * 4 + 1 + d) 0) (reach (suc d)) (form_to w o a k d) (words_at w (k * 3 + d))
      (form-near d) (within-words w (k * 3 + d) ok.small)
      (let e = mul-le-mul_left (reach d) (ok.extents (get_or o k 0 * 4 + 1 + d)) in omega arith)

  -- ---- the loop over its dimensions

  module _ {d : ℕ} (h : d < get_or a (get_or o k 0 * 4) 0) {f : List ℤ} (e : f ≡ form_to w o a k d) where
    pub fold-in : FoldIn f (get_or a (get_or o k 0 * 4 + 1 + d) 0) w (k * 3 + d)
    fold-in = let z = flat in let v = ok.words in let m = ok.many in record {
      near = subst (Within 134246399) (sym e) (within_more (form_to w o a k d) (form-near d) (near d (omega arith)));
      extents = ok.extents (get_or o k 0 * 4 + 1 + d);
      inside = omega arith;
      small = ok.small;
    }
      where
        near : (d : ℕ) → d ≤ 2 → reach d ≤ 134246399
        near zero h = omega arith
        near (suc zero) h = omega arith
        near (suc (suc zero)) h = omega arith
        near (suc (suc (suc d))) h = absurd (omega arith)

    pub fold_next : {r : List ℤ} → r ≡ folded (get_or a (get_or o k 0 * 4 + 1 + d) 0) f (words_at w (k * 3 + d)) → r ≡ form_to w o a k (d + 1)
    unfolding form_to
    fold_next q = q ∙ rw (e, add-one d)

  module _ {d : ℕ} (h : d ≤ get_or a (get_or o k 0 * 4) 0) (g : get_or a (get_or o k 0 * 4) 0 ≤ d) {f : List ℤ} (e : f ≡ form_to w o a k d) where
    pub raise-in : Within 549873283071 f
    raise-in = let z = flat in subst (Within 549873283071) (sym e) (within_more (form_to w o a k d) (form-near d) (far d (omega arith)))
      where
        far : (d : ℕ) → d ≤ 3 → reach d ≤ 549873283071
        far zero h = omega arith
        far (suc zero) h = omega arith
        far (suc (suc zero)) h = omega arith
        far (suc (suc (suc zero))) h = omega arith
        far (suc (suc (suc (suc d)))) h = absurd (omega arith)

    pub form-done : (b : ℕ) {r : List ℤ} → r ≡ raised b f → r ≡ form_of w o a k b
    unfolding form_of
    form-done b q = let z : d ≡ get_or a (get_or o k 0 * 4) 0 = omega arith in q ∙ ap (raised b) (e ∙ ap (form_to w o a k) z)
