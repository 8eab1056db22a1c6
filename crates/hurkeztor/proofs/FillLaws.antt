-- The lent list while it is filled (`mixed`): the first k records are there, and the rest is as it was. In order: one record more, and the length;
-- where as many are in as there are, or as the list has, it is filled.
use mathlib.Core.Path.{◌≡◌, refl, sym, ap, ◌∙◌}
use mathlib.Core.Logic.{⊎_elim}
use mathlib.Core.List.{List, [], ◌∷◌, ◌++◌}
use Prim.Native.Nat.{ℕ, zero, suc, ◌≤◌, ◌<◌, min}
use native.Mathlib.Omega.{arith}
use lib.Dec.{leb, leb→le, nleb→lt, not_T}
use lib.ListN.{length, get_or, set, take, drop, drop_of_length-le}
use lib.Seq.{take_all, take-length, drop-length}
use Rattle.lists.proofs.TestLaws.{T-cases}
use Rattle.model.specs.Pairs.{fill}

module _ {A : Type 0} where
  abbrev pub mixed : ℕ → List A → List A → List A
  mixed k rs ys = take k rs ++ drop k ys

  pub set-mixed : (k : ℕ) (rs ys : List A) (d x : A) → k < length rs → k < length ys → x ≡ get_or rs k d
      → set (mixed k rs ys) k x ≡ mixed (suc k) rs ys
  set-mixed k [] ys d x h g e = absurd (omega arith)
  set-mixed k (r ∷ rs) [] d x h g e = absurd (omega arith)
  set-mixed zero (r ∷ rs) (y ∷ ys) d x h g e = ap (◌∷ ys) e
  set-mixed (suc k) (r ∷ rs) (y ∷ ys) d x h g e = ap (r ∷◌) (set-mixed k rs ys d x (omega arith) (omega arith) e)

  pub length-mixed : (k : ℕ) (rs ys : List A) → k ≤ length rs → k ≤ length ys → length (mixed k rs ys) ≡ length ys
  length-mixed zero rs ys h g = refl
  length-mixed (suc k) [] ys h g = absurd (omega arith)
  length-mixed (suc k) (r ∷ rs) [] h g = absurd (omega arith)
  length-mixed (suc k) (r ∷ rs) (y ∷ ys) h g = ap suc (length-mixed k rs ys (omega arith) (omega arith))

  -- ---- the filled list

  pub all_in : (rs ys : List A) → mixed (min (length rs) (length ys)) rs ys ≡ fill rs ys
  unfolding fill
  all_in rs ys = ⊎_elim
      (λ t. let h = leb→le (length rs) (length ys) t in
      ap (λ m. mixed m rs ys) (let q : min (length rs) (length ys) ≡ length rs = omega arith in q)
      ∙ ap (◌++ drop (length rs) ys) (take-length rs ∙ sym (take_all (length ys) rs h)))
      (λ t. let h = nleb→lt (length rs) (length ys) (not_T (leb (length rs) (length ys)) t) in
      ap (λ m. mixed m rs ys) (let q : min (length rs) (length ys) ≡ length ys = omega arith in q)
      ∙ ap (take (length ys) rs ++◌) (drop-length ys ∙ sym (drop_of_length-le ys {i = length rs} (omega arith))))
      (T-cases (leb (length rs) (length ys)))
