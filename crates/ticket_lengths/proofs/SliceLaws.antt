-- The model's words of arrays and accesses as parts of the slices on which they stand.
use mathlib.Core.Path.{◌≡◌, refl, sym, ap, ap₂, ◌∙◌}
use mathlib.Core.List.{List, [], ◌∷◌, ◌++◌, map, flat_map}
use Prim.Native.Nat.{ℕ, zero, suc, ◌+◌, ◌*◌, ◌/◌, ◌≤◌, ◌<◌}
use native.Mathlib.Omega.{arith}
use native.Mathlib.Numerals.{add-one}
use lib.IntN.{ℤ, pos}
use lib.ListN.{length, get_or, take, drop, length-drop}
use lib.Seq.{drop-cons, length-take-le}
use Rattle.model.specs.Ticket.{Subscript}
use Rattle.model.specs.Encode.{counted, array_words, access_words}
use Rattle.model.specs.Grammar.{access_room}
use Rattle.nest_flat.specs.Layout.{extents_at, arrays_from, arrays_of, form_at, forms_from, access_at, accesses_from}
use Rattle.ticket_encoding_words.proofs.WritingLaws.{spans}
use Rattle.ticket_lengths.proofs.SumLaws.{array-ends}

-- ---- arrays

singles : (l : List ℕ) → flat_map (λ (n : ℕ). pos n ∷ []) l ≡ map pos l
unfolding flat_map
singles [] = refl
singles (x ∷ l) = ap (pos x ∷◌) (singles l)

-- an array's numbers stand one after another
array-words : (a : List ℕ) (i : ℕ) → i * 4 + 4 ≤ length a → get_or a (i * 4) 0 ≤ 3
    → array_words (extents_at a i) ≡ map pos (take (get_or a (i * 4) 0 + 1) (drop (i * 4) a))
unfolding array_words counted extents_at
array-words a i h d =
    ap₂ (λ m ws. pos m ∷ ws) (length-take-le (get_or a (i * 4) 0) (drop (i * 4 + 1) a) (let e = length-drop (i * 4 + 1) a in omega arith))
    (singles (take (get_or a (i * 4) 0) (drop (i * 4 + 1) a)))
    ∙ sym (ap (λ m. map pos (take m (drop (i * 4) a))) (add-one (get_or a (i * 4) 0))
    ∙ ap (λ l. map pos (take (suc (get_or a (i * 4) 0)) l)) (drop-cons a (i * 4) 0 (omega arith)
    ∙ ap (λ m. get_or a (i * 4) 0 ∷ drop m a) (sym (add-one (i * 4)))))

-- m arrays from array i on
arrays-flat : (a : List ℕ) (i m : ℕ) → ((j : ℕ) → j < i + m → (j * 4 + 4 ≤ length a) × (get_or a (j * 4) 0 ≤ 3))
    → flat_map array_words (arrays_from a i m) ≡ spans (λ j. map pos (take (get_or a (j * 4) 0 + 1) (drop (j * 4) a))) i m
unfolding arrays_from spans flat_map
arrays-flat a i zero h = refl
arrays-flat a i (suc m) h =
    let e = h i (omega arith) in ap₂ ◌++◌ (array-words a i e.0 e.1) (arrays-flat a (suc i) m (λ j b. h j (omega arith)))

arrays-length : (a : List ℕ) (i m : ℕ) → length (arrays_from a i m) ≡ m
unfolding arrays_from
arrays-length a i zero = refl
arrays-length a i (suc m) = ap suc (arrays-length a (suc i) m)

pub arrays-spans : (a : List ℕ) → ((i : ℕ) → i < length a / 4 → get_or a (i * 4) 0 ≤ 3)
    → counted array_words (arrays_of a) ≡ pos (length a / 4) ∷ spans (λ j. map pos (take (get_or a (j * 4) 0 + 1) (drop (j * 4) a))) 0 (length a / 4)
unfolding counted arrays_of
arrays-spans a h = ap₂ (λ m ws. pos m ∷ ws) (arrays-length a 0 (length a / 4)) (arrays-flat a 0 (length a / 4)
    (λ j b. (array-ends a j (omega arith), h j (omega arith))))

-- ---- accesses

-- a subscript's words stand one after another
form-words : (w : List ℤ) (n j : ℕ) → j * 8 < length w → (form_at w n j).constant ∷ (form_at w n j).coefficients ≡ take (n + 1) (drop (j * 8) w)
unfolding form_at
form-words w n j h = sym (ap (λ m. take m (drop (j * 8) w)) (add-one n)
    ∙ ap (take (suc n)) (drop-cons w (j * 8) (pos 0) h ∙ ap (λ m. get_or w (j * 8) (pos 0) ∷ drop m w) (sym (add-one (j * 8)))))

forms-flat : (w : List ℤ) (n j d : ℕ) → (j + d) * 8 ≤ length w
    → flat_map (λ (s : Subscript). s.constant ∷ s.coefficients) (forms_from w n j d) ≡ spans (λ i. take (n + 1) (drop (i * 8) w)) j d
unfolding forms_from spans flat_map
forms-flat w n j zero h = refl
forms-flat w n j (suc d) h = ap₂ ◌++◌ (form-words w n j (omega arith)) (forms-flat w n (suc j) d (omega arith))

pub access-spans : (w : List ℤ) (o a : List ℕ) (n k : ℕ) → k * access_room + access_room ≤ length w → get_or a (get_or o k 0 * 4) 0 ≤ 3
    → access_words (access_at w o a n k) ≡ pos (get_or o k 0 + 1) ∷ spans (λ i. take (n + 1) (drop (i * 8) w)) (k * 3) (get_or a (get_or o k 0 * 4) 0)
unfolding access_words access_at
access-spans w o a n k h d = ap₂ (λ m ws. pos m ∷ ws) (sym (add-one (get_or o k 0))) (forms-flat w n (k * 3) (get_or a (get_or o k 0 * 4) 0) (omega arith))

pub accesses-spans : (w : List ℤ) (o a : List ℕ) (n k m : ℕ)
    → flat_map access_words (accesses_from w o a n k m) ≡ spans (λ i. access_words (access_at w o a n i)) k m
unfolding accesses_from spans flat_map
accesses-spans w o a n k zero = refl
accesses-spans w o a n k (suc m) = ap (access_words (access_at w o a n k) ++◌) (accesses-spans w o a n (suc k) m)

pub accesses-length : (w : List ℤ) (o a : List ℕ) (n k m : ℕ) → length (accesses_from w o a n k m) ≡ m
unfolding accesses_from
accesses-length w o a n k zero = refl
accesses-length w o a n k (suc m) = ap suc (accesses-length w o a n (suc k) m)
