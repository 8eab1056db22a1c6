-- The number of elements of arrays: it is small for few dimensions; from the last dimension to the first; where an array begins and ends.
use mathlib.Core.Path.{◌≡◌, refl, sym, ◌∙◌, ap, ap₂, subst}
use mathlib.Core.List.Memᴰ
use mathlib.Core.List.{List, [], ◌∷◌}
use Prim.Native.Nat.{ℕ, zero, suc, ◌+◌, ◌*◌, ◌-◌, ◌/◌, ◌≤◌, ◌<◌}
use native.Mathlib.Omega.{arith}
use native.Mathlib.Nat.{mul-le-mul, mul-one, mul_comm}
use native.Mathlib.Numerals.{add-one}
use lib.ListN.{length, get_or, drop, length-drop}
use lib.Seq.{drop-cons, drop-length}
use Rattle.lists.specs.Membership.{All}
use Rattle.lists.proofs.MembershipLaws.{all_take, all_drop, mem-get_d}
use Rattle.model.specs.Grammar.{elements, total, extents}
use Rattle.model.specs.Store.{base}
use Rattle.nest_flat.specs.Layout.{extents_at, arrays_from, arrays_of, ArrayIn}
use Rattle.nest_elements.proofs.LayoutLaws.{extents-are, extents-length, extent-read}

abbrev pub Small : List ℕ → Type 0
Small ns = All (λ (n : ℕ). n ≤ 4096) ns

two-small : (ns : List ℕ) → length ns ≤ 2 → Small ns → elements ns ≤ 16777216
unfolding elements
two-small [] h s = omega arith
two-small (n ∷ []) h s = let a = s n (Memᴰ.head refl) in omega arith
two-small (n ∷ m ∷ []) h s = let a = s n (Memᴰ.head refl) in let b = s m (Memᴰ.tail (Memᴰ.head refl)) in
    rw (mul-one m) (mul-le-mul {n₁ = n} {m₁ = m} {n₂ = 4096} {m₂ = 4096} a b)
two-small (n ∷ m ∷ k ∷ ns) h s = absurd (omega arith)

pub three-small : (ns : List ℕ) → length ns ≤ 3 → Small ns → elements ns ≤ 68719476736
unfolding elements
three-small [] h s = omega arith
three-small (n ∷ ns) h s = mul-le-mul {n₁ = n} {m₁ = elements ns} {n₂ = 4096} {m₂ = 16777216} (s n (Memᴰ.head refl))
    (two-small ns (omega arith) (λ m i. s m (Memᴰ.tail i)))

-- ---- one array, from its last dimension to its first

module _ (a : List ℕ) (i : ℕ) (p : ArrayIn a i) where
  pub extents-small : Small (extents_at a i)
  unfolding extents_at
  extents-small = all_take (λ (n : ℕ). n ≤ 4096) (get_or a (i * 4) 0) (drop (i * 4 + 1) a)
      (all_drop (λ (n : ℕ). n ≤ 4096) (i * 4 + 1) a (λ n m. let r = mem-get_d 0 m in subst (λ (k : ℕ). k ≤ 4096) r.2 (p.extents r.0)))

  pub no-extent : (d : ℕ) → d ≡ get_or a (i * 4) 0 → 1 ≡ elements (drop d (extents_at a i))
  unfolding elements
  no-extent d e = sym (ap elements (ap (λ (k : ℕ). drop k (extents_at a i)) (e ∙ sym (extents-length a i p)) ∙ drop-length (extents_at a i)))

  module _ (d r : ℕ) (h : 1 ≤ d) (g : d ≤ get_or a (i * 4) 0) (e : r ≡ elements (drop d (extents_at a i))) where
    pub one-extent : r * get_or a (i * 4 + 1 + (d - 1)) 0 ≡ elements (drop (d - 1) (extents_at a i))
    unfolding elements
    one-extent =
        let l = extents-length a i p in let k : suc (d - 1) ≡ d = omega arith in
        mul_comm r (get_or a (i * 4 + 1 + (d - 1)) 0) ∙ sym (ap elements (drop-cons (extents_at a i) (d - 1) 0 (omega arith))
        ∙ ap₂ ◌*◌ (extent-read a i p (d - 1) (omega arith)) (ap (λ (j : ℕ). elements (drop j (extents_at a i))) k ∙ sym e))

    pub one-small : r * get_or a (i * 4 + 1 + (d - 1)) 0 ≤ 68719476736
    one-small = subst (λ (k : ℕ). k ≤ 68719476736) (sym one-extent)
        (three-small (drop (d - 1) (extents_at a i)) (let l = length-drop (d - 1) (extents_at a i) in let m = extents-length a i p
        in let f = p.dimensions i p.there in omega arith) (all_drop (λ (n : ℕ). n ≤ 4096) (d - 1) (extents_at a i) extents-small))

-- ---- all arrays

base-next : (as' : List (List ℕ)) (j : ℕ) → j < length as' → base as' (suc j) ≡ base as' j + elements (extents as' j)
unfolding base extents
base-next [] j h = absurd (omega arith)
base-next (ns ∷ rest) zero h = first rest
  where
    first : (rest : List (List ℕ)) → elements ns + base rest 0 ≡ 0 + elements ns
    first [] = omega arith
    first (m ∷ rest) = omega arith
base-next (ns ∷ rest) (suc j) h = ap (elements ns +◌) (base-next rest j (omega arith)) ∙ omega arith

pub base-ends : (as' : List (List ℕ)) (j : ℕ) → j < length as' → base as' j + elements (extents as' j) ≤ total as'
unfolding base extents total
base-ends [] j h = absurd (omega arith)
base-ends (ns ∷ rest) zero h = omega arith
base-ends (ns ∷ rest) (suc j) h = let r = base-ends rest j (omega arith) in omega arith

pub arrays-length : (a : List ℕ) → length (arrays_of a) ≡ length a / 4
unfolding arrays_of arrays_from
arrays-length a = go 0 (length a / 4)
  where
    go : (i m : ℕ) → length (arrays_from a i m) ≡ m
    go i zero = refl
    go i (suc m) = ap suc (go (suc i) m)

pub earlier-array : (a : List ℕ) (i : ℕ) → ArrayIn a i → (j : ℕ) → j < i → ArrayIn a j
earlier-array a i p j h = let t = p.there in record { few = p.few; there = omega arith; dimensions = p.dimensions; extents = p.extents }

pub no-base : (as' : List (List ℕ)) → base as' 0 ≡ 0
unfolding base
no-base [] = refl
no-base (ns ∷ rest) = refl

module _ (a : List ℕ) (j : ℕ) (p : ArrayIn a j) where
  pub next-base : base (arrays_of a) (j + 1) ≡ base (arrays_of a) j + elements (extents_at a j)
  next-base = let l = arrays-length a in let h = p.there in rw (add-one j) (base-next (arrays_of a) j (omega arith)
      ∙ ap (λ (ns : List ℕ). base (arrays_of a) j + elements ns) (extents-are a j p))

  pub array-fits : base (arrays_of a) j + elements (extents_at a j) ≤ total (arrays_of a)
  array-fits = let l = arrays-length a in let h = p.there in subst (λ (ns : List ℕ). base (arrays_of a) j + elements ns ≤ total (arrays_of a))
      (extents-are a j p) (base-ends (arrays_of a) j (omega arith))
