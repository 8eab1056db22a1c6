-- Refusal 9, dimension by dimension, access by access and statement by statement: one more of each, and what was found stays found.
use mathlib.Core.Path.{◌≡◌, refl, sym, ◌∙◌, ap, ap₂, subst}
use mathlib.Core.Bool.{Bool, true, false, ◌||◌, not, or-false, or_assoc}
use mathlib.Core.Logic.{⊎_elim}
use mathlib.Core.List.{List, [], ◌∷◌, ◌++◌, map, map-append}
use Prim.Native.Nat.{ℕ, zero, suc, ◌+◌, ◌*◌, ◌≤◌, ◌<◌}
use native.Mathlib.Omega.{arith}
use native.Mathlib.Nat.{eq-or-lt_of_le}
use lib.IntN.{ℤ}
use lib.ListN.{length, get_or, take, length-map}
use lib.Seq.{take-suc, take-length, length-take-le}
use Rattle.lists.specs.Tests.{any}
use Rattle.lists.proofs.TestLaws.{any-join, any_none}
use Rattle.model.specs.Answer.{Answer, accepted, refused, require, ◌>>◌, ◌>>=◌}
use Rattle.model.specs.Ticket.{Access, Statement}
use Rattle.model.specs.Bounds.{subscript_at, outside, violates, accesses_of, in_arrays}
use Rattle.nest_flat.specs.Layout.{extents_at, arrays_of, form_at, forms_from, access_at, accesses_from, AccessesOk}
use Rattle.nest_elements.specs.Search.{off, violates_at}
use Rattle.nest_elements.proofs.LayoutLaws.{array-in, extents-are, extents-length, forms-snoc, forms-length, accesses-snoc}

-- ---- tests of all points

or_swap : (a b x y : Bool) → (a || b) || (x || y) ≡ (a || x) || (b || y)
or_swap true b x y = refl
or_swap false true true y = refl
or_swap false true false y = refl
or_swap false false x y = refl

pub any-or : {A : Type 0} (s t : A → Bool) (l : List A) → any (λ x. s x || t x) l ≡ any s l || any t l
unfolding any
any-or s t [] = refl
any-or s t (x ∷ l) = ap ((s x || t x) ||◌) (any-or s t l) ∙ or_swap (s x) (t x) (any s l) (any t l)

pub any_same : {A : Type 0} (s t : A → Bool) (l : List A) → ((x : A) → s x ≡ t x) → any s l ≡ any t l
unfolding any
any_same s t [] h = refl
any_same s t (x ∷ l) h = ap₂ ◌||◌ (h x) (any_same s t l h)

-- what was found stays found
pub grows : (f g : ℕ → Bool) (n : ℕ) → ((i : ℕ) → i < n → f (suc i) ≡ f i || g i) → (i : ℕ) → i ≤ n → f i ≡ true → f n ≡ true
grows f g zero h i l e = let z : i ≡ 0 = omega arith in subst (λ (k : ℕ). f k ≡ true) z e
grows f g (suc n) h i l e = ⊎_elim (λ (z : i ≡ suc n). subst (λ (k : ℕ). f k ≡ true) z e)
    (λ (z : i < suc n). h n (omega arith) ∙ ap (◌|| g n) (grows f g n (λ j k. h j (omega arith)) i (omega arith) e)) (eq-or-lt_of_le l)

-- ---- dimensions

outside-snoc : (ns : List ℕ) (xs : List ℤ) (n : ℕ) (x : ℤ) → length ns ≡ length xs
    → outside (ns ++ (n ∷ [])) (xs ++ (x ∷ [])) ≡ outside ns xs || off n x
unfolding outside off
outside-snoc [] [] n x e = or-false (off n x)
outside-snoc [] (y ∷ xs) n x e = absurd (omega arith)
outside-snoc (m ∷ ns) [] n x e = absurd (omega arith)
outside-snoc (m ∷ ns) (y ∷ xs) n x e = ap (off m y ||◌) (outside-snoc ns xs n x (omega arith)) ∙ sym (or_assoc (off m y) (outside ns xs) (off n x))

-- the first d dimensions of an access whose subscripts begin with subscript j
abbrev pub dimensions_violation : List ℤ → List ℕ → ℕ → List (List ℤ) → ℕ → ℕ → Bool
dimensions_violation w ns n ps j d = any (λ p. outside (take d ns) (map (subscript_at p) (forms_from w n j d))) ps

module _ (w : List ℤ) (ns : List ℕ) (n : ℕ) (ps : List (List ℤ)) (j : ℕ) where
  pub no-dimension : dimensions_violation w ns n ps j 0 ≡ false
  unfolding outside
  no-dimension = any_none (λ p. outside (take 0 ns) (map (subscript_at p) (forms_from w n j 0))) ps (λ p m h. h)

  pub one-dimension : (d : ℕ) → d < length ns → dimensions_violation w ns n ps j (suc d) ≡ dimensions_violation w ns n ps j d || violates_at w n
      (j + d) (get_or ns d 0) ps
  unfolding violates_at
  one-dimension d h =
      any_same (λ p. outside (take (suc d) ns) (map (subscript_at p) (forms_from w n j (suc d))))
      (λ p. outside (take d ns) (map (subscript_at p) (forms_from w n j d)) || off (get_or ns d 0) (subscript_at p (form_at w n (j + d)))) ps here
      ∙ any-or (λ p. outside (take d ns) (map (subscript_at p) (forms_from w n j d))) (λ p. off (get_or ns d 0) (subscript_at p (form_at w n (j + d)))) ps
    where
      here : (p : List ℤ) → outside (take (suc d) ns) (map (subscript_at p) (forms_from w n j (suc d))) ≡ outside (take d ns)
          (map (subscript_at p) (forms_from w n j d)) || off (get_or ns d 0) (subscript_at p (form_at w n (j + d)))
      here p =
          ap₂ outside (take-suc ns d 0 h) (ap (map (subscript_at p)) (forms-snoc w n j d)
          ∙ map-append (subscript_at p) (forms_from w n j d) (form_at w n (j + d) ∷ []))
          ∙ outside-snoc (take d ns) (map (subscript_at p) (forms_from w n j d)) (get_or ns d 0) (subscript_at p (form_at w n (j + d)))
          (length-take-le d ns (omega arith) ∙ sym (length-map (forms_from w n j d) (subscript_at p) ∙ forms-length w n j d))

-- ---- accesses

abbrev pub access_violates : List ℤ → List ℕ → List ℕ → ℕ → List (List ℤ) → ℕ → Bool
access_violates w o a n ps k = any (λ p. violates (arrays_of a) p (access_at w o a n k)) ps

abbrev pub accesses_violation : List ℤ → List ℕ → List ℕ → ℕ → List (List ℤ) → ℕ → ℕ → Bool
accesses_violation w o a n ps k i = any (λ p. any (violates (arrays_of a) p) (accesses_from w o a n k i)) ps

module _ (w : List ℤ) (o a : List ℕ) (n : ℕ) (ps : List (List ℤ)) (ok : AccessesOk w o a n) where
  pub all-dimensions : (k : ℕ) → k < length o → dimensions_violation w (extents_at a (get_or o k 0)) n ps (k * 3) (get_or a (get_or o k 0 * 4) 0) ≡
      access_violates w o a n ps k
  unfolding violates access_at
  all-dimensions k h =
      let e : extents_at a (get_or o k 0) ≡ take (get_or a (get_or o k 0 * 4) 0) (extents_at a (get_or o k 0)) = sym
      (ap (λ (m : ℕ). take m (extents_at a (get_or o k 0))) (sym (extents-length a (get_or o k 0)
      (array-in w o a n (get_or o k 0) ok (ok.there k h)))) ∙ take-length (extents_at a (get_or o k 0))) in
      ap (λ (ns : List ℕ). any (λ p. outside ns (map (subscript_at p) (forms_from w n (k * 3) (get_or a (get_or o k 0 * 4) 0)))) ps)
      (sym (extents-are a (get_or o k 0) (array-in w o a n (get_or o k 0) ok (ok.there k h)) ∙ e))

  pub no-access : (k : ℕ) → accesses_violation w o a n ps k 0 ≡ false
  unfolding accesses_from any
  no-access k = any_none (λ p. any (violates (arrays_of a) p) (accesses_from w o a n k 0)) ps (λ p m h. h)

  pub one-access : (k i : ℕ) → accesses_violation w o a n ps k (suc i) ≡ accesses_violation w o a n ps k i || access_violates w o a n ps (k + i)
  unfolding any
  one-access k i =
      any_same (λ p. any (violates (arrays_of a) p) (accesses_from w o a n k (suc i)))
      (λ p. any (violates (arrays_of a) p) (accesses_from w o a n k i) || violates (arrays_of a) p (access_at w o a n (k + i))) ps
      (λ p. ap (any (violates (arrays_of a) p)) (accesses-snoc w o a n k i)
      ∙ any-join (violates (arrays_of a) p) (accesses_from w o a n k i) (access_at w o a n (k + i) ∷ [])
      ∙ ap (any (violates (arrays_of a) p) (accesses_from w o a n k i) ||◌) (or-false (violates (arrays_of a) p (access_at w o a n (k + i)))))
      ∙ any-or (λ p. any (violates (arrays_of a) p) (accesses_from w o a n k i)) (λ p. violates (arrays_of a) p (access_at w o a n (k + i))) ps

-- ---- statements

-- refusal 9 over the accesses of each statement, from number k on
unfoldable pub in_bodies : List (List ℕ) → List (List ℤ) → ℕ → List (List Access) → Answer (Unit {0})
in_bodies as' ps k [] = accepted tt
in_bodies as' ps k (b ∷ bs) = require (not (any (λ p. any (violates as' p) b) ps)) 9 k >> in_bodies as' ps (suc k) bs

module _ (as' : List (List ℕ)) (ps : List (List ℤ)) where
  pub in-bodies : (k : ℕ) (ss : List Statement) → in_arrays as' ps k ss ≡ in_bodies as' ps k (map accesses_of ss)
  unfolding in_arrays in_bodies
  in-bodies k [] = refl
  in-bodies k (s ∷ ss) = rw (in-bodies (suc k) ss)

  pub body-clear : (k : ℕ) (b : List Access) (bs : List (List Access)) → any (λ p. any (violates as' p) b) ps ≡ false
      → in_bodies as' ps k (b ∷ bs) ≡ in_bodies as' ps (suc k) bs
  unfolding in_bodies ◌>>◌ ◌>>=◌ require
  body-clear k b bs e = rw e

  pub body-violates : (k : ℕ) (b : List Access) (bs : List (List Access)) → any (λ p. any (violates as' p) b) ps ≡ true
      → in_bodies as' ps k (b ∷ bs) ≡ refused 9 k
  unfolding in_bodies ◌>>◌ ◌>>=◌ require
  body-violates k b bs e = rw e

  pub no_body : (k : ℕ) → in_bodies as' ps k [] ≡ accepted tt
  unfolding in_bodies
  no_body k = refl
