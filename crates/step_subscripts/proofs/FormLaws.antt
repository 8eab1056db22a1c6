-- The subscripts of a flat slice. In order: parts of lists that agree on a front or on a rest; subscripts of such lists; the subscripts of
-- two ranges joined; one whose coefficients were put over it.
use mathlib.Core.Path.{◌≡◌, refl, sym, ◌∙◌, ap, ap₂}
use mathlib.Core.List.{List, ◌∷◌, ◌++◌}
use Prim.Native.Nat.{ℕ, zero, suc, ◌+◌, ◌*◌, ◌-◌, ◌≤◌, ◌<◌}
use native.Mathlib.Omega.{arith}
use native.Mathlib.Nat.{add-zero, zero-add, suc-add, add-suc}
use lib.IntN.{ℤ, pos}
use lib.ListN.{length, get_or, take, drop}
use lib.Seq.{take-take, get_or-take, get_or-drop, drop-drop}
use Rattle.lists.specs.Parts.{put}
use Rattle.lists.proofs.PartLaws.{drop-take, put_written, get_d-put-before}
use Rattle.model.specs.Ticket.{Subscript}
use Rattle.nest_flat.specs.Layout.{form_at, forms_from}

-- ---- lists that agree

module _ {A : Type 0} (m : ℕ) (s t : List A) (e : take m s ≡ take m t) where
  front_at : (i : ℕ) (d : A) → i < m → get_or s i d ≡ get_or t i d
  front_at i d h = sym (get_or-take m s i d h) ∙ ap (λ l. get_or l i d) e ∙ get_or-take m t i d h

  pub front_less : (i : ℕ) → i ≤ m → take i s ≡ take i t
  front_less i h = sym (take-take i m s h) ∙ ap (take i) e ∙ take-take i m t h

part-take : {A : Type 0} (p n m : ℕ) (l : List A) → p + n ≤ m → take n (drop p (take m l)) ≡ take n (drop p l)
part-take p n m l h =
    let r = m - p in
    let e : m ≡ p + r = omega arith in
    ap (λ i. take n (drop p (take i l))) e ∙ ap (take n) (drop-take p r l) ∙ take-take n r (drop p l) (omega arith)

pub rest_more : {A : Type 0} (m : ℕ) (s t : List A) → drop m s ≡ drop m t → (i : ℕ) → m ≤ i → drop i s ≡ drop i t
rest_more m s t e i h =
    let k = i - m in
    let q : m + k ≡ i = omega arith in
    ap (λ j. drop j s) (sym q) ∙ sym (drop-drop k m s) ∙ ap (drop k) e ∙ drop-drop k m t ∙ ap (λ j. drop j t) q

rest_at : {A : Type 0} (i : ℕ) (s t : List A) → drop i s ≡ drop i t → (d : A) → get_or s i d ≡ get_or t i d
rest_at i s t e d = rw (add-zero i) at (sym (get_or-drop i s 0 d) ∙ ap (λ l. get_or l 0 d) e ∙ get_or-drop i t 0 d)

-- ---- subscripts

pub same_numbers : {b c : ℤ} {bs cs : List ℤ} → b ≡ c → bs ≡ cs
    → ◌≡◌ {A = Subscript} (record { constant = b; coefficients = bs }) (record { constant = c; coefficients = cs })
same_numbers e f i = record { constant = e i; coefficients = f i }

module _ (n : ℕ) (shallow : n ≤ 6) (s t : List ℤ) where
  form-front : (m : ℕ) → take m s ≡ take m t → (j : ℕ) → suc j * 8 ≤ m → form_at s n j ≡ form_at t n j
  unfolding form_at
  form-front m e j h = same_numbers (front_at m s t e (j * 8) (pos 0) (omega arith))
      (sym (part-take (j * 8 + 1) n m s (omega arith)) ∙ ap (λ l. take n (drop (j * 8 + 1) l)) e ∙ part-take (j * 8 + 1) n m t (omega arith))

  pub forms-front : (m : ℕ) → take m s ≡ take m t → (j count : ℕ) → (j + count) * 8 ≤ m → forms_from s n j count ≡ forms_from t n j count
  unfolding forms_from
  forms-front m e j zero h = refl
  forms-front m e j (suc count) h = ap₂ ◌∷◌ (form-front m e j (omega arith)) (forms-front m e (suc j) count (omega arith))

module _ (n : ℕ) (s t : List ℤ) where
  form-rest : (j : ℕ) → drop (j * 8) s ≡ drop (j * 8) t → form_at s n j ≡ form_at t n j
  unfolding form_at
  form-rest j e = same_numbers (rest_at (j * 8) s t e (pos 0)) (ap (take n) (rest_more (j * 8) s t e (j * 8 + 1) (omega arith)))

  pub forms-rest : (j count : ℕ) → drop (j * 8) s ≡ drop (j * 8) t → forms_from s n j count ≡ forms_from t n j count
  unfolding forms_from
  forms-rest j zero e = refl
  forms-rest j (suc count) e = ap₂ ◌∷◌ (form-rest j e) (forms-rest (suc j) count (rest_more (j * 8) s t e (suc j * 8) (omega arith)))

pub forms-join : (w : List ℤ) (n j a b : ℕ) → forms_from w n j (a + b) ≡ forms_from w n j a ++ forms_from w n (j + a) b
unfolding forms_from
forms-join w n j zero b = ap (forms_from w n j) (zero-add b) ∙ ap (λ i. forms_from w n i b) (sym (add-zero j))
forms-join w n j (suc a) b =
    ap (forms_from w n j) (suc-add a b)
    ∙ ap (form_at w n j ∷◌) (forms-join w n (suc j) a b ∙ ap (λ i. forms_from w n (suc j) a ++ forms_from w n i b) (suc-add j a ∙ sym (add-suc j a)))

-- the constant stands
pub form-put : (w : List ℤ) (j : ℕ) (row : List ℤ) (m : ℕ) → length row ≡ m → suc j * 8 ≤ length w
    → form_at (put w (j * 8 + 1) row) m j ≡ record { constant = get_or w (j * 8) (pos 0); coefficients = row }
unfolding form_at
form-put w j row m e h = same_numbers (get_d-put-before w (j * 8 + 1) row (j * 8) (pos 0) (omega arith) (omega arith))
    (ap (λ i. take i (drop (j * 8 + 1) (put w (j * 8 + 1) row))) (sym e) ∙ put_written w (j * 8 + 1) row (omega arith))
