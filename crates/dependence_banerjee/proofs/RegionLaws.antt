-- Iterations in their ranges whose signs make a number: how long they are, the index of one loop in its range, and the digits of the number,
-- innermost first. Then a loop of one value, where no two indices differ.
use mathlib.Core.Path.{◌≡◌, refl, sym, ◌∙◌, ap, subst}
use mathlib.Core.Bool.{true}
use mathlib.Core.List.{List, [], ◌∷◌}
use Prim.Native.Nat.{ℕ, zero, suc, ◌+◌, ◌*◌, ◌-◌, ◌/◌, ◌%◌, ◌≤◌, ◌<◌}
use native.Mathlib.Omega.{arith}
use lib.IntN.{ℤ, pos}
use lib.Signed.{le_z}
use lib.ListN.{length, get_or, take}
use lib.Seq.{take_all}
use Rattle.integers.specs.Sign.{equal, sign}
use Rattle.integers.proofs.RingLaws.{≤ℤ-trans, ≤ℤ-antisym}
use Rattle.integers.proofs.RangeLaws.{test-le}
use Rattle.integers.proofs.SignLaws.{sign-self}
use Rattle.model.specs.Quick as Model
use Rattle.model.specs.Directions.{signs}
use Rattle.model.specs.Quick.{Contains, InRanges}
use Rattle.nest_loop_ranges.specs.declared.Range.{Range}
use Rattle.nest_loop_ranges.specs.Ranges.{range_as, ranges_of, RangesIn}
use Rattle.nest_loop_ranges.proofs.SumLaws.{no_range, ranges-at, count_of}
use Rattle.dependence_vectors.specs.Numbers.{digit, number_after}
use Rattle.dependence_vectors.proofs.NumberLaws.{digit_lt, signs-length}
use Rattle.dependence_vectors.proofs.CandidateLaws.{signs-get_d, after-take}
use Rattle.dependence_banerjee.specs.Spans.{Directed, NoIterations}

-- ---- indices in their ranges

ranges-long : (rs : List Model.Range) (xs : List ℤ) → InRanges rs xs → length xs ≡ length rs
ranges-long [] [] h = refl
ranges-long [] (x ∷ xs) h = absurd h
ranges-long (r ∷ rs) [] h = absurd h
ranges-long (r ∷ rs) (x ∷ xs) h = ap suc (ranges-long rs xs h.1)

index_in : (rs : List Model.Range) (xs : List ℤ) (k : ℕ) → InRanges rs xs → k < length rs → Contains (get_or rs k (range_as no_range)) (get_or xs k (pos 0))
index_in [] xs k h l = absurd (omega arith)
index_in (r ∷ rs) [] k h l = absurd h
index_in (r ∷ rs) (x ∷ xs) zero h l = h.0
index_in (r ∷ rs) (x ∷ xs) (suc k) h l = index_in rs xs k h.1 (omega arith)

-- v is what is left of u for the k outermost of n loops
pub record Outer (n : ℕ) (b : List Range) (u k v : ℕ) : Type 0 where
  pub is : (p q : List ℤ) → Directed n b u p q → v ≡ number_after 0 (take k (signs p q))

module _ (n : ℕ) (b : List Range) (f : RangesIn n b) where
  pub iteration-long : (p : List ℤ) → InRanges (ranges_of n b) p → length p ≡ n
  iteration-long p h = ranges-long (ranges_of n b) p h ∙ count_of n b f

  pub index_at : (p : List ℤ) → InRanges (ranges_of n b) p → (k : ℕ) → k < n → Contains (range_as (get_or b k no_range)) (get_or p k (pos 0))
  index_at p h k l = let c = count_of n b f in let s = f.six in let g = f.few in
      subst (λ r. Contains r (get_or p k (pos 0))) (ranges-at n b k l (omega arith)) (index_in (ranges_of n b) p k h (omega arith))

  -- ---- the digits

  module _ (p q : List ℤ) (hp : InRanges (ranges_of n b) p) (hq : InRanges (ranges_of n b) q) where
    pub signs-long : length (signs p q) ≡ n
    signs-long = let x = iteration-long p hp in let y = iteration-long q hq in let z = signs-length p q (omega arith) in omega arith

    sign-at : (k : ℕ) → k < n → get_or (signs p q) k equal ≡ sign (get_or p k (pos 0)) (get_or q k (pos 0))
    sign-at k l = let x = iteration-long p hp in let y = iteration-long q hq in signs-get_d p q k (omega arith) (omega arith)

  pub outer-all : (u : ℕ) → Outer n b u n u
  outer-all u = record {
    is = λ p q h. let l = signs-long p q h.source h.sink in sym h.number
        ∙ ap (number_after 0) (sym (take_all n (signs p q) (omega arith)));
  }

  module _ (u k v : ℕ) (a : 0 < k) (c : k ≤ n) (o : Outer n b u k v) (p q : List ℤ) (h : Directed n b u p q) where
    parts : v ≡ number_after 0 (take (k - 1) (signs p q)) * 3 + digit (sign (get_or p (k - 1) (pos 0)) (get_or q (k - 1) (pos 0)))
    parts = let i : k ≡ suc (k - 1) = omega arith in let l = signs-long p q h.source h.sink in
        o.is p q h ∙ ap (λ z. number_after 0 (take z (signs p q))) i ∙ after-take (signs p q) (k - 1) (omega arith)
        ∙ ap (λ s. number_after 0 (take (k - 1) (signs p q)) * 3 + digit s) (sign-at p q h.source h.sink (k - 1) (omega arith))

    rest : v / 3 ≡ number_after 0 (take (k - 1) (signs p q))
    rest = let e = parts in let d = digit_lt (sign (get_or p (k - 1) (pos 0)) (get_or q (k - 1) (pos 0))) in omega arith

    pub innermost : digit (sign (get_or p (k - 1) (pos 0)) (get_or q (k - 1) (pos 0))) ≡ v % 3
    innermost = let e = parts in let d = digit_lt (sign (get_or p (k - 1) (pos 0)) (get_or q (k - 1) (pos 0))) in omega arith

  pub outer-next : (u k v : ℕ) → 0 < k → k ≤ n → Outer n b u k v → Outer n b u (k - 1) (v / 3)
  outer-next u k v a c o = record { is = rest u k v a c o }

  -- ---- a loop of one value

  pub single-empty : (u k v : ℕ) → 0 < k → k ≤ n → Outer n b u k v → (v % 3 ≡ 1 → ⊥)
      → le_z (get_or b (k - 1) no_range).greatest (get_or b (k - 1) no_range).least ≡ true → NoIterations n b u
  unfolding digit
  single-empty u k v a c o e t p q h =
      let x = index_at p h.source (k - 1) (omega arith) in
      let y = index_at q h.sink (k - 1) (omega arith) in
      let s = test-le {a = (get_or b (k - 1) no_range).greatest} {b = (get_or b (k - 1) no_range).least} t in
      let g : get_or p (k - 1) (pos 0) ≡ get_or q (k - 1) (pos 0) = ≤ℤ-antisym (≤ℤ-trans x.high (≤ℤ-trans s y.low))
      (≤ℤ-trans y.high (≤ℤ-trans s x.low)) in
      let z : sign (get_or p (k - 1) (pos 0)) (get_or q (k - 1) (pos 0)) ≡ equal = rw g (sign-self (get_or q (k - 1) (pos 0))) in
      e (sym (innermost u k v a c o p q h) ∙ ap digit z)
