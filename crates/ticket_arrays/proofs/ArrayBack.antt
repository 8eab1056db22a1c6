-- Arrays that were laid read back, and are such as `nest_elements` takes.
use mathlib.Core.Path.{◌≡◌, refl, sym, ap, ap₂, ◌∙◌, subst}
use mathlib.Core.List.{List, [], ◌∷◌, map}
use Prim.Native.Nat.{ℕ, suc, ◌+◌, ◌*◌, ◌/◌, ◌≤◌, ◌<◌}
use native.Mathlib.Omega.{arith}
use native.Mathlib.Nat.{add-zero, zero-add}
use lib.ListN.{length, get_or, take, drop, length-map, get_or-map}
use lib.Seq.{length-take-le}
use Rattle.lists.specs.Membership.{All}
use Rattle.lists.proofs.MembershipLaws.{all-imp, all_cons, all_take, all_get_d, all-get_d-default, map-all}
use Rattle.model.specs.Ranges.{InRange, ArrayRanges}
use Rattle.model.specs.Grammar.{most_arrays, array_room, most_extents, most_extent}
use Rattle.nest_flat.specs.Layout.{extents_at, arrays_from, arrays_of}
use Rattle.ticket_arrays.specs.Laid.{lay_rows, shape_words}
use Rattle.ticket_arrays.proofs.RowLaws.{part-take, part-head, part-tail, rows-length, rows_all, rows_at}

-- ---- read back

extents-back : (s : List ℕ) (i : ℕ) (a : List ℕ) → take (suc (length a)) (drop (i * 4) s) ≡ shape_words a → extents_at s i ≡ a
unfolding extents_at shape_words
extents-back s i a e = ap (λ n. take n (drop (i * 4 + 1) s)) (part-head (i * 4) (length a) s (length a) a 0 e)
    ∙ part-tail (i * 4) (length a) s (length a) a e

arrays-back : (s : List ℕ) (i : ℕ) (as' : List (List ℕ)) → ((k : ℕ) → k < length as'
    → take (suc (length (get_or as' k []))) (drop ((i + k) * 4) s) ≡ shape_words (get_or as' k []))
    → arrays_from s i (length as') ≡ as'
unfolding arrays_from
arrays-back s i [] h = refl
arrays-back s i (a ∷ as') h =
    ap₂ ◌∷◌ (extents-back s i a (ap (λ n. take (suc (length a)) (drop (n * 4) s)) (sym (add-zero i)) ∙ h 0 (omega arith)))
    (arrays-back s (suc i) as' (λ k g. let e : suc i + k ≡ i + suc k = omega arith in ap (λ n. take (suc (length (get_or as' k []))) (drop (n * 4) s))
    e ∙ h (suc k) (omega arith)))

-- ---- all arrays of a nest

module _ (blank : List ℕ) (l₀ : length blank ≡ most_extents) (as' : List (List ℕ)) (n : ℕ) (z : length as' ≡ n) (few : n ≤ most_arrays) (ranges : All ArrayRanges as')
    (s : List ℕ) (e : s ≡ lay_rows array_room blank 0 (map shape_words as')) where
  short : All (λ (x : List ℕ). length x ≤ array_room) (map shape_words as')
  unfolding shape_words
  short = map-all shape_words ArrayRanges (λ x. length x ≤ array_room) as' (λ a r. let h = r.dimensions.high in omega arith) ranges

  room : (0 + length (map shape_words as')) * 4 ≤ length blank
  room = let l = length-map as' shape_words in omega arith

  pub laid-length : length s ≡ most_extents
  laid-length = ap length e ∙ rows-length array_room blank 0 (map shape_words as') short room ∙ l₀

  pub used-length : length (take (n * 4) s) ≡ n * 4
  used-length = let l = laid-length in length-take-le (n * 4) s (omega arith)

  pub used-arrays : length (take (n * 4) s) / 4 ≡ n
  used-arrays = let l = used-length in omega arith

  row : (k : ℕ) → k < length as' → take (suc (length (get_or as' k []))) (drop (k * 4) (take (n * 4) s)) ≡ shape_words (get_or as' k [])
  unfolding shape_words
  row k h =
      let a = get_or as' k [] in
      let r = (all_get_d ArrayRanges as' k [] ranges h).dimensions.high in
      let l = length-map as' shape_words in
      let m : get_or (map shape_words as') k (shape_words []) ≡ shape_words a = get_or-map shape_words as' k [] in
      part-take (k * 4) (suc (length a)) (n * 4) s (omega arith)
      ∙ ap₂ (λ l t. take (suc (length a)) (drop (t * 4) l)) e (sym (zero-add k))
      ∙ ap (λ x. take (length x) (drop ((0 + k) * 4) (lay_rows array_room blank 0 (map shape_words as')))) (sym m)
      ∙ rows_at array_room blank 0 (map shape_words as') short room k (shape_words []) (omega arith)
      ∙ m

  pub arrays-same : arrays_of (take (n * 4) s) ≡ as'
  unfolding arrays_of
  arrays-same =
      ap (arrays_from (take (n * 4) s) 0) (used-arrays ∙ sym z)
      ∙ arrays-back (take (n * 4) s) 0 as'
      (λ k h. ap (λ i. take (suc (length (get_or as' k []))) (drop (i * 4) (take (n * 4) s))) (zero-add k) ∙ row k h)

  pub dimensions-at : (k : ℕ) → k < length as' → get_or (take (n * 4) s) (k * 4) 0 ≡ length (get_or as' k [])
  unfolding shape_words
  dimensions-at k h = let a = get_or as' k [] in part-head (k * 4) (length a) (take (n * 4) s) (length a) a 0 (row k h)

  pub few-dimensions : (k : ℕ) → k < length (take (n * 4) s) / 4 → get_or (take (n * 4) s) (k * 4) 0 ≤ 3
  few-dimensions k h =
      let l = used-arrays in
      let g : k < length as' = omega arith in
      let r = (all_get_d ArrayRanges as' k [] ranges g).dimensions.high in
      let d = dimensions-at k g in
      omega arith

  pub small-extents : All (λ x. x ≤ 4096) blank → (j : ℕ) → get_or (take (n * 4) s) j 0 ≤ 4096
  unfolding shape_words
  small-extents h j =
      all-get_d-default (λ x. x ≤ 4096) (take (n * 4) s) j 0 (omega arith)
      (all_take (λ x. x ≤ 4096) (n * 4) s
      (subst (λ (l : List ℕ). All (λ x. x ≤ 4096) l) (sym e)
      (rows_all array_room (λ x. x ≤ most_extent) blank 0 (map shape_words as') h
      (map-all shape_words ArrayRanges (λ l. All (λ x. x ≤ 4096) l) as'
      (λ a r. let h = r.dimensions.high in all_cons (λ x. x ≤ 4096) (omega arith) (all-imp (InRange 1 4096) a r.extents (λ x m q. q.high)))
      ranges))))
