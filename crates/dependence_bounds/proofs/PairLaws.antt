-- One pair of accesses, as the code goes: it is no conflict, the arrays differ, or what Banerjee's inequalities are asked is met and their answer
-- covers the pair. Then the loops over sinks and sources.
use mathlib.Core.Path.{◌≡◌, ap, ◌∙◌, subst}
use mathlib.Core.Bool.{Bool, true}
use mathlib.Core.List.{List}
use Prim.Native.Nat.{ℕ, ◌+◌, ◌*◌, ◌^◌, ◌≤◌, ◌<◌}
use native.Mathlib.Omega.{arith}
use native.Mathlib.Nat.{mul-le-mul}
use native.Mathlib.Decide.{dec_lt}
use lib.Dec.{ltb}
use lib.ListN.{length, get_or}
use Rattle.model.specs.Grammar.{most_statements, most_arrays}
use Rattle.model.specs.Directions.{kind_count}
use Rattle.dependence_banerjee.specs.Covers.{Covers, CoverIn}
use Rattle.dependence_vectors.specs.Numbers.{place_of, marks_for}
use Rattle.dependence_search.proofs.FlatLaws.{block-fits}
use Rattle.dependence_bounds.specs.Covered.{Pairs, PairsIn, kind_at, PairCovered}

module _ (F : Pairs) (m : List Bool) (p : PairsIn F m) (a b : ℕ) (la : a < length F.accessed) (lb : b < length F.accessed) where
  abbrev s : ℕ
  s = get_or F.statements a 0

  abbrev t : ℕ
  t = get_or F.statements b 0

  abbrev its-array : ℕ
  its-array = get_or F.accessed a 0

  pub no-conflict : kind_at F a b ≡ kind_count → PairCovered F m a b
  no-conflict e g = absurd (omega arith)

  pub other-array : (its-array ≡ get_or F.accessed b 0 → ⊥) → PairCovered F m a b
  other-array h g e = absurd (h e)

  -- the number of dimensions is there
  pub dimensions-read : (its-array < most_arrays) × (its-array * 4 < length F.arrays)
  dimensions-read = let f = p.accesses.few in let g = p.accesses.there a la in (omega arith, omega arith)

  few-places : marks_for F.body ≤ marks_for most_statements
  few-places = let f = p.few in let g = mul-le-mul f f in omega arith

  pub block_in : (k : ℕ) → k < kind_count → (marks_for F.body < 2 ^ 64) × (s < F.body) × (t < F.body) × (k < kind_count)
  block_in k h = let f = few-places in (omega arith, p.in-body a la, p.in-body b lb, h)

  module _ (k base : ℕ) (e : k ≡ kind_at F a b) (h : k < kind_count) (q : base ≡ place_of F.body s t k 0) where
    pub cover-in : CoverIn F.words a b (get_or F.arrays (its-array * 4) 0) F.depth F.ranges base m
    cover-in =
        let w = p.accesses.words in
        let n = p.accesses.many in
        let d = p.accesses.dimensions its-array (p.accesses.there a la) in
        let f = block-fits F.body s t k (p.in-body a la) (p.in-body b lb) h in
        let r = p.room in
        record {
          small = p.accesses.small;
          source = omega arith;
          sink = omega arith;
          dimensions = d;
          ranges = p.ranges;
          marks = omega arith;
        }

    pub pair_is : (r : Bool) → (r ≡ true → Covers F.words a b (get_or F.arrays (its-array * 4) 0) F.depth F.ranges (ltb s t) base m)
        → r ≡ true → PairCovered F m a b
    pair_is r f g i o = subst (λ (x : ℕ). Covers F.words a b (get_or F.arrays (its-array * 4) 0) F.depth F.ranges (ltb s t) x m)
        (q ∙ ap (λ (x : ℕ). place_of F.body s t x 0) e) (f g)

-- ---- loops

module _ (P : ℕ → Type 0) where
  pub none_yet : (i : ℕ) → i < 0 → P i
  none_yet i h = absurd (omega arith)

  pub one_more : (n : ℕ) → ((i : ℕ) → i < n → P i) → P n → (i : ℕ) → i < n + 1 → P i
  one_more n f p i h = elim (dec_lt i n) [
    | yes g ↦ f i g
    | no g ↦ let e : n ≡ i = omega arith in subst P e p
  ]

  pub all_done : (n k : ℕ) → k ≤ n → ((i : ℕ) → i < n → P i) → (i : ℕ) → i < k → P i
  all_done n k h f i g = f i (omega arith)
