-- Laws of the conflicts of two points. In order: where blocks and the numbers of accesses stand; whether an access names an element.
use mathlib.Core.Path.{◌≡◌, ap, ap₂, ◌∙◌}
use mathlib.Core.Bool.{Bool, true, false, ◌&&◌, ◌||◌, and-false}
use mathlib.Core.List.{List}
use Prim.Native.Nat.{ℕ, ◌+◌, ◌*◌, ◌≤◌, ◌<◌}
use native.Mathlib.Nat.{mul-le-mul}
use native.Mathlib.Numerals.{add-one}
use native.Mathlib.Omega.{arith}
use lib.Dec.{eqb, leb, leb→le}
use lib.ListN.{length, get_or}
use borrow.Author.Tests.{eq-eqb, ne_eqb, le-leb}
use Rattle.lists.proofs.PartLaws.{row_fits}
use Rattle.lists.proofs.TestLaws.{true-T, T_true, not-T-false, and_both, and_intro}
use Rattle.model.specs.Grammar.{most_points, most_accesses, most_statements}
use Rattle.model.specs.Directions.{kind_count}
use Rattle.dependence_pair_search.specs.Search.{some}
use Rattle.dependence_pair_search.proofs.SomeLaws.{some-there, there-some}
use Rattle.pair_records.specs.Conflicts.{block_count}
use Rattle.pair_records.specs.Statements.{named_in, SpanIn}

-- ---- places

-- the block of two statements of m and a kind
pub block_inside : (m s t k : ℕ) → s < m → t < m → k < kind_count → (s * m + t) * kind_count + k < block_count m
unfolding block_count
block_inside m s t k a b c = let h = row_fits m s m a in omega arith

pub few-blocks : (m : ℕ) → m ≤ most_statements → (m * m ≤ 16) × (block_count m ≤ 48)
unfolding block_count
few-blocks m h = let q : m * m ≤ most_statements * most_statements = mul-le-mul h h in (omega arith, omega arith)

pub number-inside : (n : ℕ) (ids : List ℕ) (a e : ℕ) → SpanIn n ids a e → (k x : ℕ) → k < e → x < n → (k * n + x < length ids) × (k * n + x < 81920)
number-inside n ids a e ok k x h g =
    let r = row_fits n k e h in let t = ok.table in
    let q : e * n ≤ most_accesses * most_points = mul-le-mul ok.few-accesses ok.few-points in (omega arith, omega arith)

-- ---- the accesses from a on that name element i at point x

module _ (n : ℕ) (ids : List ℕ) (a x i : ℕ) where
  abbrev naming : ℕ → Bool
  naming k = leb a k && eqb (get_or ids (k * n + x) 0) i

  pub named_none : named_in n ids a a x i ≡ false
  unfolding named_in
  named_none = not-T-false (some a naming) (λ h. let r = some-there a naming h in let k = r.0 in let l = r.1 in
      let g = leb→le a k (and_both (leb a k) (eqb (get_or ids (k * n + x) 0) i) r.2).0 in absurd (omega arith))

  pub named-not : (k : ℕ) → named_in n ids a k x i ≡ false → (get_or ids (k * n + x) 0 ≡ i → ⊥) → named_in n ids a (k + 1) x i ≡ false
  unfolding named_in some
  named-not k h f = ap (λ e. some e naming) (add-one k)
      ∙ ap₂ ◌||◌ (ap (leb a k &&◌) (ne_eqb (get_or ids (k * n + x) 0) i f) ∙ and-false (leb a k)) h

  pub named-there : (k e : ℕ) → a ≤ k → k < e → get_or ids (k * n + x) 0 ≡ i → named_in n ids a e x i ≡ true
  unfolding named_in
  named-there k e h l g = T_true (some e naming) (there-some e k naming l (and_intro (leb a k) (eqb (get_or ids (k * n + x) 0) i)
      (true-T (leb a k) (le-leb a k h)) (true-T (eqb (get_or ids (k * n + x) 0) i) (eq-eqb (get_or ids (k * n + x) 0) i g))))
