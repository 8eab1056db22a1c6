-- The rules on whole numbers, given words, make the word that the store's rules make.
use mathlib.Core.Path.{◌≡◌, refl, ap, ◌∙◌}
use mathlib.Core.Bool.{Bool, true, false, cond}
use mathlib.Core.Logic.{◌↔◌}
use mathlib.Core.List.Memᴰ
use mathlib.Core.List.{List, [], ◌∷◌, map, cons≢nil}
use Prim.Native.Nat.{ℕ, ◌+◌, ◌/◌, ◌%◌, ◌^◌, ◌≤◌, ◌<◌}
use native.Mathlib.Omega.{arith}
use native.Mathlib.Nat.{div-add-mod', mod-lt}
use native.Mathlib.Decide.{dec_lt}
use lib.Dec.{T, eqb, ltb, ltb→lt, lt→ltb}
use lib.IntN.{ℤ, pos, ◌+ℤ◌, ◌*ℤ◌}
use lib.Signed.{◌≤ℤ◌, ◌<ℤ◌}
use Rattle.integers.proofs.RingLaws.{zarith, ≤ℤ-antisym, ≤ℤ-of-eq}
use Rattle.integers.proofs.DivisionLaws.{rest, joined-rest}
use Rattle.lists.specs.Membership.{All}
use Rattle.lists.proofs.MembershipLaws.{all_nil, all_cons, map-all}
use Rattle.lists.proofs.TestLaws.{true-T, false-not-T, cond_cases}
use Rattle.model.specs.Points.{largest}
use Rattle.model.specs.Store.{sum, most, first_of, make, sum_whole, first_whole, wrapped, make_whole}
use Rattle.model.proofs.Points.LoopLaws.{largest-iff}

abbrev modulus : ℤ
modulus = pos 4294967296

positive : pos 0 <ℤ modulus
positive = omega zarith

sum-words : (vs : List ℕ) → sum_whole (map pos vs) ≡ pos (sum vs)
unfolding sum_whole sum
sum-words [] = refl
sum-words (v ∷ vs) = ap (pos v +ℤ◌) (sum-words vs)

wrapped-word : (n : ℕ) → wrapped (pos n) ≡ pos (n % 2 ^ 32)
unfolding wrapped
wrapped-word n =
    let m : ℕ = 4294967296 in
    let l : n % m < m = mod-lt n (omega arith) in
    let e : pos n ≡ modulus *ℤ pos (n / m) +ℤ pos (n % m) = omega (zarith, div-add-mod' n m) in
    ap (rest modulus) e ∙ joined-rest modulus positive (pos (n / m)) (pos (n % m)) (omega zarith) (omega zarith)

most-bounds : (c : ℕ) (vs : List ℕ) (x : ℤ) → (pos (most c vs) ≤ℤ x) ↔ ((pos c ≤ℤ x) × All (λ v. pos v ≤ℤ x) vs)
unfolding most
most-bounds c [] x = (λ h. (h, all_nil (λ v. pos v ≤ℤ x)), λ h. h.0)
most-bounds c (v ∷ vs) x =
    let P : ℕ → Type 0 = λ u. pos u ≤ℤ x in
    let m = cond (ltb c v) v c in
    let i = most-bounds m vs x in
    let b : (pos m ≤ℤ x) ↔ ((pos c ≤ℤ x) × (pos v ≤ℤ x)) = cond_cases (λ m. (pos m ≤ℤ x) ↔ ((pos c ≤ℤ x) × (pos v ≤ℤ x))) (ltb c v) v c
    (λ e. let l = ltb→lt c v (true-T (ltb c v) e) in (λ h. (omega zarith, h), λ h. h.1))
    (λ e. let l = not-lt c v (false-not-T (ltb c v) e) in (λ h. (h, omega zarith), λ h. h.0)) in (
      λ h. let q = i.0 h in let r = b.0 q.0 in (r.0, all_cons P r.1 q.1),
      λ h. i.1 (b.1 (h.0, h.1 v (Memᴰ.head refl)), λ u n. h.1 u (Memᴰ.tail n)),
    )
  where
    not-lt : (c v : ℕ) → (T (ltb c v) → ⊥) → v ≤ c
    not-lt c v f = elim (dec_lt c v) [
      | yes l ↦ absurd (f (lt→ltb c v l))
      | no g ↦ omega arith
    ]

-- both are the least number that is no less than any of them
largest-words : (c : ℕ) (vs : List ℕ) → largest (pos c ∷ map pos vs) ≡ pos (most c vs)
largest-words c vs =
    let x = pos (most c vs) in
    let y = largest (pos c ∷ map pos vs) in
    let u = (most-bounds c vs x).0 (≤ℤ-of-eq refl) in
    let l = (largest-iff y (pos c ∷ map pos vs) cons≢nil).1 (≤ℤ-of-eq refl) in
    ≤ℤ-antisym
    ((largest-iff x (pos c ∷ map pos vs) cons≢nil).0 (all_cons (λ a. a ≤ℤ x) u.0
    (map-all pos (λ v. pos v ≤ℤ x) (λ a. a ≤ℤ x) vs (λ v h. h) u.1)))
    ((most-bounds c vs y).1 (l (pos c) (Memᴰ.head refl), λ v m. l (pos v) (Memᴰ.tail (Memᴰ.map pos m))))

first-words : (vs : List ℕ) → first_whole (map pos vs) ≡ pos (first_of vs)
unfolding first_whole first_of
first-words [] = refl
first-words (v ∷ vs) = refl

either-word : (t : Bool) {x y : ℤ} {u v : ℕ} → x ≡ pos u → y ≡ pos v → cond t x y ≡ pos (cond t u v)
either-word true e f = e
either-word false e f = f

pub words-alike : (r c : ℕ) (vs : List ℕ) → make_whole r c (map pos vs) ≡ pos (make r c vs)
unfolding make_whole make
words-alike r c vs =
    either-word (eqb r 1) (ap (λ z. wrapped (pos c +ℤ z)) (sum-words vs) ∙ wrapped-word (c + sum vs))
    (either-word (eqb r 2) (largest-words c vs) (either-word (eqb r 3) (first-words vs) refl))
