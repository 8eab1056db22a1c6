-- The backward test. In order: the digits of a number of the depth; the search over such numbers beyond 364.
use mathlib.Core.Path.{◌≡◌, sym, ◌∙◌, ap, subst}
use mathlib.Core.Bool.{Bool, true, false}
use mathlib.Core.List.{List}
use Prim.Native.Nat.{ℕ, zero, suc, ◌+◌, ◌*◌, ◌-◌, ◌≤◌, ◌<◌}
use native.Mathlib.Omega.{arith}
use native.Mathlib.Decide.{ℕ_discrete, dec_lt}
use lib.Dec.{T, ltb}
use lib.ListN.{length, get_or}
use borrow.Author.Tests.{lt-ltb, ltb-true}
use Rattle.integers.specs.Sign.{Sign}
use Rattle.lists.proofs.MembershipLaws.{all_nil, all_cons}
use Rattle.lists.proofs.TestLaws.{T_true, true-T, false-not-T, some-any, any_none}
use Rattle.model.specs.Directions.{backwards, vector_count}
use Rattle.model.specs.Steps.{some_points_back}
use Rattle.dependence_vectors.specs.Numbers.{digit, number, number_after}
use Rattle.dependence_vectors.specs.Candidates.{stride, middle}
use Rattle.dependence_vectors.proofs.DepthLaws.{OfDepth, depth-number, depth-middle, depth-apart}
use Rattle.step_preimages.specs.Numbers.{digits_of, vector_of, marked}
use Rattle.step_preimages.proofs.NumberLaws.{Level, number-below, number-vector_of, length-vector_of, backwards-number}
use Rattle.step_directions.specs.Sets.{vectors_in}
use Rattle.step_directions.proofs.SetLaws.{vectors_in-mem, mem-vectors_in}

-- ---- the digits of a number of the depth: from the depth on, those of =

abbrev One : ℕ → Type 0
One x = x ≡ 1

module _ (n : ℕ) where
  level-6 : Level 6 (digits_of n)
  unfolding digits_of
  level-6 = all_nil One

  level-5 : (t : ℕ) → n ≡ t * 3 + 1 → Level 5 (digits_of n)
  unfolding digits_of
  level-5 t e = all_cons One (omega arith) level-6

  level-4 : (t : ℕ) → n ≡ t * 9 + 4 → Level 4 (digits_of n)
  unfolding digits_of
  level-4 t e = all_cons One (omega arith) (level-5 (t * 3 + 1) (omega arith))

  level-3 : (t : ℕ) → n ≡ t * 27 + 13 → Level 3 (digits_of n)
  unfolding digits_of
  level-3 t e = all_cons One (omega arith) (level-4 (t * 3 + 1) (omega arith))

  level-2 : (t : ℕ) → n ≡ t * 81 + 40 → Level 2 (digits_of n)
  unfolding digits_of
  level-2 t e = all_cons One (omega arith) (level-3 (t * 3 + 1) (omega arith))

  level-1 : (t : ℕ) → n ≡ t * 243 + 121 → Level 1 (digits_of n)
  unfolding digits_of
  level-1 t e = all_cons One (omega arith) (level-2 (t * 3 + 1) (omega arith))

  level-0 : n < vector_count → (t : ℕ) → n ≡ t * vector_count + 364 → Level 0 (digits_of n)
  unfolding digits_of
  level-0 h t e = all_cons One (omega arith) (level-1 (t * 3 + 1) (omega arith))

  depth-level : n < vector_count → (d : ℕ) → d ≤ 6 → OfDepth d n → Level d (digits_of n)
  unfolding stride middle number_after digit
  depth-level h zero k (t, e) = level-0 h t e
  depth-level h (suc zero) k (t, e) = level-1 t e
  depth-level h (suc (suc zero)) k (t, e) = level-2 t e
  depth-level h (suc (suc (suc zero))) k (t, e) = level-3 t e
  depth-level h (suc (suc (suc (suc zero)))) k (t, e) = level-4 t e
  depth-level h (suc (suc (suc (suc (suc zero))))) k (t, e) = level-5 t e
  depth-level h (suc (suc (suc (suc (suc (suc zero)))))) k p = level-6
  depth-level h (suc (suc (suc (suc (suc (suc (suc d))))))) k p = absurd (omega arith)

-- ---- the search

-- no marked vector with a number from 365 to n
abbrev pub NoneBack : List Bool → ℕ → ℕ → Type 0
NoneBack marks d n = (v : List Sign) → length v ≡ d → 364 < number v → number v < n → T (marked marks v) → ⊥

module _ (marks : List Bool) (d : ℕ) (few : d ≤ 6) where
  module _ (s : ℕ) (e : s ≡ stride (6 - d)) where
    pub none_first : NoneBack marks d (364 + s)
    none_first v l h i t = let a = depth-apart d s e 364 (number v) (depth-middle d few) (depth-number v d l) h in omega arith

    pub none-next : (n : ℕ) → OfDepth d n → get_or marks n false ≡ false → NoneBack marks d n → NoneBack marks d (n + s)
    none-next n o f p v l h i t = elim (ℕ_discrete (number v) n) [
      | yes q ↦ false-not-T (get_or marks n false) f (subst (λ m. T (get_or marks m false)) q t)
      | no q ↦ elim (dec_lt n (number v)) [
        | yes a ↦ let z = depth-apart d s e n (number v) o (depth-number v d l) a in omega arith
        | no a ↦ p v l h (omega arith) t
      ]
    ]

  -- a number of the depth is that of a vector of the set, if it is marked, and beyond 364 it points backwards
  pub one-back : (n : ℕ) → OfDepth d n → 364 < n → n < vector_count → get_or marks n false ≡ true → true ≡ some_points_back (vectors_in marks d)
  unfolding some_points_back
  one-back n o h i e =
      let v = vector_of d n in
      let l = length-vector_of d n few in
      let q : number v ≡ n = number-vector_of d n i (depth-level n i d few o) in
      let b : backwards v ≡ true = sym (backwards-number v (omega arith)) ∙ ap (ltb 364) q ∙ lt-ltb 364 n h in
      let m = mem-vectors_in marks d v l (subst (λ m. T (get_or marks m false)) (sym q) (true-T (get_or marks n false) e)) in
      sym (T_true (some_points_back (vectors_in marks d)) (some-any backwards (vectors_in marks d) m (true-T (backwards v) b)))

  pub no-back : (n : ℕ) → vector_count ≤ n → NoneBack marks d n → false ≡ some_points_back (vectors_in marks d)
  unfolding some_points_back
  no-back n h p = sym (any_none backwards (vectors_in marks d) (λ v m t.
      let a = vectors_in-mem marks d m in
      let l : length v ≤ 6 = subst (λ k. k ≤ 6) (sym a.0) few in
      p v a.0 (ltb-true 364 (number v) (backwards-number v l ∙ T_true (backwards v) t)) (omega (arith, number-below v)) a.1))
