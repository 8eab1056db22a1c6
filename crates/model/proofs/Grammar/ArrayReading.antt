-- The reader of the arrays: ranges, total, words.
use mathlib.Core.Path.{◌≡◌, refl, ap}
use mathlib.Core.List.{List, [], ◌∷◌, ◌++◌, flat_map, append-nil}
use Prim.Native.Nat.{ℕ, zero, suc, ◌+◌, ◌≤◌}
use native.Mathlib.Omega.{arith}
use lib.Dec.{leb, leb→le}
use Rattle.lists.specs.Membership.{All}
use Rattle.lists.proofs.MembershipLaws.{all_nil, all_cons}
use Rattle.model.specs.Grammar.{elements, total, shape, array, arrays_from, arrays}
use Rattle.model.specs.Encode.{counted, array_words}
use Rattle.model.specs.Ranges.{ArrayRanges}
use Rattle.model.proofs.Grammar.ReaderLaws.{Meets, meets-map, counted-meets, As, one, Long, Few, done_at, done-meets, bind, must-at}
use Rattle.model.proofs.Grammar.ReaderLaws.{natural-meets, times-meets}

pub total-snoc : (l : List (List ℕ)) (a : List ℕ) → total (l ++ (a ∷ [])) ≡ total l + elements a
unfolding total
total-snoc [] a = omega arith
total-snoc (x ∷ l) a = let r = total-snoc l a in omega arith

pub record ArraysRead (t : ℕ) (as' : List (List ℕ)) : Type 0 where
  pub ranges : All ArrayRanges as'
  pub room : t + total as' ≤ 16384

-- one array after t elements
record ArrayRead (t : ℕ) (a : List ℕ) : Type 0 where
  ranges : ArrayRanges a
  room : t + elements a ≤ 16384

pub shape-meets : Meets shape (As ArrayRanges array_words)
unfolding shape array_words
shape-meets = meets-map (λ a ws h. record { holds = record { dimensions = h.holds.few; extents = h.holds.holds }; words = h.words })
    (counted-meets one 1 3 (λ n _. times-meets n (natural-meets 1 4096)))

array-meets : (t : ℕ) → Meets (array t) (As (ArrayRead t) array_words)
unfolding array
array-meets t = bind shape-meets (λ a v. record {
  from = λ b k r. must-at (leb (t + elements a) 16384) 5 (λ f.
      done_at a (record { holds = record { ranges = v; room = leb→le (t + elements a) 16384 f }; words = append-nil (array_words a) }));
})

arrays_from-meets : (n t : ℕ) → t ≤ 16384 → Meets (arrays_from t n) (As (Long n (ArraysRead t)) (flat_map array_words))
unfolding arrays_from flat_map total
arrays_from-meets zero t h = done-meets [] (record {
  holds = record
      { number = refl; holds = record { ranges = all_nil ArrayRanges; room = omega arith } };
  words = refl;
})
arrays_from-meets (suc n) t h = bind (array-meets t) (λ a v. bind (arrays_from-meets n (t + elements a) v.room) (λ as' o.
    done-meets (a ∷ as') (record {
      holds = record {
        number = ap suc o.number;
        holds = record
            { ranges = all_cons ArrayRanges v.ranges o.holds.ranges; room = let i = o.holds.room in omega arith };
      };
      words = ap (array_words a ++◌) (append-nil (flat_map array_words as'));
    })))

pub arrays-meets : Meets arrays (As (Few 1 4 (ArraysRead 0)) (counted array_words))
unfolding arrays
arrays-meets = counted-meets array_words 1 4 (λ n _. arrays_from-meets n 0 (omega arith))
