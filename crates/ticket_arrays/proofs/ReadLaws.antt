-- Arrays read and laid one after another: a section under way, then its end.
use mathlib.Core.Path.{◌≡◌, refl, sym, ap, ap₂, ◌∙◌, subst, fun_ext}
use mathlib.Core.List.{List, [], ◌∷◌, ◌++◌, map, map-append}
use Prim.Native.Nat.{ℕ, zero, suc, ◌+◌, ◌*◌, ◌-◌, ◌≤◌, ◌<◌}
use native.Mathlib.Omega.{arith}
use lib.ListN.{length, length-append, length-map}
use Rattle.lists.specs.Membership.{All}
use Rattle.lists.specs.Parts.{put}
use Rattle.lists.proofs.MembershipLaws.{all_nil, all_cons, all_append}
use Rattle.model.specs.Grammar as Grammar
use Rattle.model.specs.Grammar.{Reader, ◌>>=◌, done, count, elements, total, shape, array, arrays_from, most_arrays, array_room, most_extents}
use Rattle.model.specs.Ranges.{ArrayRanges}
use Rattle.model.proofs.Answers.AnswerLaws.{leads-accepted}
use Rattle.model.proofs.Grammar.ArrayReading.{total-snoc, shape-meets}
use Rattle.std.specs.Prelude.{Ok, Err}
use Rattle.ticket_words.specs.Reads.{Reads, plain}
use Rattle.ticket_words.specs.declared.Words.{Words}
use Rattle.ticket_refusals.specs.declared.Refusal.{Refusal}
use Rattle.ticket_words.proofs.ReaderLaws.{read-value, refused-first, read-then, repeated, Underway, repeat-begin, repeat-more, repeat-no, repeat-end}
use Rattle.ticket_arrays.specs.Laid.{lay_rows, shape_words}
use Rattle.ticket_arrays.specs.Arrays.{shape_of, LaidArrays, ReadsArrays}
use Rattle.ticket_arrays.specs.declared.shapes.Shape.{Shape}
use Rattle.ticket_arrays.proofs.RowLaws.{rows_more}
use Rattle.ticket_arrays.proofs.ArrayBack.{arrays-same}

pub elements-of : (a : Shape) → a.elements ≡ elements (shape_of a)
unfolding shape_of
elements-of a = a.within.total

-- what the grammar says of an array
pub shape-read : {o e : Words} {a : Shape} → Reads shape_of shape o (Ok a) e → ArrayRanges (shape_of a)
shape-read {o} h =
    let r = o.reached in
    (leads-accepted _ _ (shape-meets.from o.bytes.now o.next (record { first = r.counted; there = r.there })).leads (read-value h)).holds.holds

-- the number of elements with one array more
abbrev adds : ℕ → List ℕ → ℕ
adds t a = t + elements a

repeats : (t n : ℕ) → arrays_from t n ≡ repeated array adds n t
unfolding arrays_from repeated
repeats t zero = refl
repeats t (suc n) = ap (λ (g : List ℕ → Reader (List (List ℕ))). array t >>= (λ a. g a >>= (λ rest. done (a ∷ rest))))
    (fun_ext (λ a. repeats (t + elements a) n))

-- k of n arrays are read and laid, with `many` elements
pub record Filling (i e : Words) (n : ℕ) (o w : List ℕ) (many k : ℕ) : Type 0 where
  pub arrays : List (List ℕ)
  pub number : length arrays ≡ k
  pub total-is : many ≡ total arrays
  pub bounded : many ≤ 16384
  pub laid : w ≡ lay_rows array_room o 0 (map shape_words arrays)
  pub ranges : All ArrayRanges arrays
  pub underway : Underway (arrays_from 0 n) i arrays (repeated array adds (n - k) many) e

pub filling-starts : (i : Words) (n : ℕ) (o : List ℕ) → Filling i i n o o 0 0
unfolding lay_rows total
filling-starts i n o = record {
  arrays = [];
  number = refl;
  total-is = refl;
  bounded = omega arith;
  laid = refl;
  ranges = all_nil ArrayRanges;
  underway = subst (λ (m : Reader (List (List ℕ))). Underway m i [] (repeated array adds (n - 0) 0) i) (sym (repeats 0 n))
      (repeat-begin array adds n 0 i);
}

module _ {i e : Words} {n : ℕ} {o w : List ℕ} {many k : ℕ} (f : Filling i e n o w many k) where
  pub filling-more : {e' : Words} {a : Shape} (v : List ℕ) → k < n → Reads shape_of (array many) e (Ok a) e' → ArrayRanges (shape_of a)
      → many + a.elements ≤ 16384 → v ≡ put w (k * 4) (shape_words (shape_of a)) → Filling i e' n o v (many + a.elements) (k + 1)
  filling-more {e'} {a} v h g s b q =
      let F = map shape_words f.arrays in
      let j : k ≡ 0 + length F = omega (arith, length-map f.arrays shape_words, f.number) in
      let z = elements-of a in
      record {
        arrays = f.arrays ++ (shape_of a ∷ []);
        number = let y = f.number in let l = length-append f.arrays (shape_of a ∷ []) in omega arith;
        total-is = let y = f.total-is in let l = total-snoc f.arrays (shape_of a) in omega arith;
        bounded = b;
        laid = q ∙ ap₂ (λ y t. put y (t * 4) (shape_words (shape_of a))) f.laid j ∙ sym (rows_more 4 o 0 F (shape_words (shape_of a)))
            ∙ ap (lay_rows array_room o 0) (sym (map-append shape_words f.arrays (shape_of a ∷ [])));
        ranges = all_append ArrayRanges f.arrays (shape_of a ∷ []) f.ranges (all_cons ArrayRanges s (all_nil ArrayRanges));
        underway = subst (λ y. Underway (arrays_from 0 n) i (f.arrays ++ (shape_of a ∷ [])) (repeated array adds (n - (k + 1)) (many + y)) e') (sym z)
            (repeat-more array adds n k many f.underway h g refl);
      }

  module _ (z : length o ≡ most_extents) (few : k ≤ most_arrays) where
    filling-gives : LaidArrays o w f.arrays
    filling-gives =
        let l = f.number in
        let t = f.total-is in
        let b = f.bounded in
        record {
          few = omega arith;
          ranges = f.ranges;
          room = omega arith;
          laid = f.laid;
          same = arrays-same o z f.arrays (length f.arrays) refl (omega arith) f.ranges w f.laid;
        }

    module _ {s : Words} (c : Reads plain (count 1 most_arrays) s (Ok n) i) where
      pub filling-no : {e' : Words} {x : Refusal} → k < n → Reads shape_of (array many) e (Err x) e' → ReadsArrays s o w (Err x) e'
      unfolding Grammar.arrays
      filling-no h g = record {
        arrays = f.arrays;
        reads = read-then _ c (repeat-no array adds n k many f.underway h g);
        count = tt;
        laid = filling-gives;
      }

      pub filling-done : n ≤ k → k ≤ n → ReadsArrays s o w (Ok n) e
      unfolding Grammar.arrays
      filling-done h g = record {
        arrays = f.arrays;
        reads = read-then _ c (repeat-end array adds n k many f.underway h refl);
        count = let l = f.number in omega arith;
        laid = filling-gives;
      }

-- a count that is refused
pub nothing_read : {s e : Words} {o : List ℕ} {x : Refusal} → length o ≡ most_extents → Reads plain (count 1 most_arrays) s (Err x) e
    → ReadsArrays s o o (Err x) e
unfolding Grammar.arrays filling-starts
nothing_read {e} {o} z c = record {
  arrays = [];
  reads = refused-first _ c;
  count = tt;
  laid = filling-gives (filling-starts e 0 o) z (omega arith);
}
