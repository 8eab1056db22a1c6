-- Laws of the records of blocks. In order: of none, of some and more, of all; those of two statements; of every statement, as they come by.
use mathlib.Core.Path.{◌≡◌, refl, sym, ap, ◌∙◌}
use mathlib.Core.Bool.{Bool, true, false, cond}
use mathlib.Core.List.{List, [], ◌∷◌, ◌++◌, map, map-append}
use Prim.Native.Nat.{ℕ, zero, suc, ◌+◌, ◌*◌}
use native.Mathlib.Nat.{add-zero, add-suc, zero-mul}
use native.Mathlib.Omega.{arith}
use lib.IntN.{ℤ}
use Rattle.lists.specs.Tests.{select}
use Rattle.lists.proofs.PartLaws.{row_next}
use Rattle.lists.proofs.TestLaws.{select-append, select-same-on}
use Rattle.model.specs.Directions.{kind_count, up_from}
use Rattle.model.proofs.Steps.ChainLaws.{up-parts}
use Rattle.model.proofs.Listing.LineOrderLaws.{up_from-mem}
use Rattle.dependence_search.specs.Flat.{Flat}
use Rattle.dependence_marks.specs.Uses.{statement_numbers, written_in}
use Rattle.pair_records.specs.Conflicts.{block_count, record_words, clashes, records_between, sized, AccessesIn}
use Rattle.pair_records.specs.Statements.{conflicts, StatementAt, statement_records, block_records}
use Rattle.pair_records.specs.Windows.{Passes}
use Rattle.pair_records.specs.declared.Window.{Window}
use Rattle.pair_records.proofs.PassLaws.{pass-none, pass_same, pass-then}
use Rattle.pair_records.proofs.ClashLaws.{clash-conflicts}

module _ (F : Flat) (x y : ℕ) where
  no_blocks : (j : ℕ) → block_records F x y j 0 ≡ []
  unfolding block_records select up_from
  no_blocks j = refl

  more-blocks : (j k l : ℕ) → block_records F x y j k ++ block_records F x y (j + k) l ≡ block_records F x y j (k + l)
  unfolding block_records
  more-blocks j k l =
      let f = record_words F.points F.depth F.body x y in
      let t = clashes F.count F.numbers F.statements F.writes F.body x y in
      sym (ap (λ r. map f (select t r)) (up-parts j k l) ∙ ap (map f) (select-append t (up_from j k) (up_from (j + k) l))
      ∙ map-append f (select t (up_from j k)) (select t (up_from (j + k) l)))

  all_blocks : (k : ℕ) → k ≡ F.body → block_records F x y 0 (k * F.body * kind_count) ≡ records_between F x y
  unfolding block_records records_between block_count
  all_blocks k e = ap (λ i. block_records F x y 0 (i * F.body * kind_count)) e

-- ---- two statements

-- numbers from j on, and how far they are from j
module _ {A : Type 0} (f : ℕ → A) (t : ℕ → Bool) (j : ℕ) where
  chosen : (b : Bool) (i : ℕ) (l r : List ℕ) → map f l ≡ map (λ k. f (j + k)) r
      → map f (cond b ((j + i) ∷ l) l) ≡ map (λ k. f (j + k)) (cond b (i ∷ r) r)
  chosen true i l r e = ap (f (j + i) ∷◌) e
  chosen false i l r e = e

  shifted : (i n : ℕ) → map f (select t (up_from (j + i) n)) ≡ map (λ k. f (j + k)) (select (λ k. t (j + k)) (up_from i n))
  unfolding select up_from
  shifted i zero = refl
  shifted i (suc n) = chosen (t (j + i)) i (select t (up_from (suc (j + i)) n)) (select (λ k. t (j + k)) (up_from (suc i) n))
      (ap (λ k. map f (select t (up_from k n))) (sym (add-suc j i)) ∙ shifted (suc i) n)

module _ (p : List ℤ) (d n : ℕ) (ids sizes : List ℕ) (m : ℕ) (ok : AccessesIn n ids sizes m) (x y s a a' t b b' : ℕ) (h : StatementAt sizes s a a')
    (g : StatementAt sizes t b b') where
  pub statement-records : statement_records p d n ids m x y s t a a' b b'
      ≡ block_records (sized p d n ids sizes m) x y ((s * m + t) * kind_count) kind_count
  unfolding statement_records block_records
  statement-records =
      let j = (s * m + t) * kind_count in let c = clashes n ids (statement_numbers 0 sizes) (written_in sizes) m x y in
      let f = record_words p d m x y in
      ap (map (λ k. f (j + k))) (select-same-on (conflicts n ids x y a a' b b') (λ k. c (j + k)) (up_from 0 kind_count)
      (λ k i. let u = up_from-mem 0 kind_count i in let l = u.1 in
      sym (clash-conflicts n ids sizes m x y ok.statements ok.each s a a' t b b' h g k (omega arith))))
      ∙ sym (shifted f c j 0 kind_count) ∙ ap (λ k. map f (select c (up_from k kind_count))) (add-zero j)

-- ---- every statement

module _ (F : Flat) (x y : ℕ) where
  -- one sink statement more
  next-sink : (s t : ℕ) → block_records F x y (s * F.body * kind_count) (t * kind_count)
      ++ block_records F x y ((s * F.body + t) * kind_count) kind_count ≡ block_records F x y (s * F.body * kind_count) ((t + 1) * kind_count)
  next-sink s t =
      let b = s * F.body in let e : (b + t) * kind_count ≡ b * kind_count + t * kind_count = omega arith in
      ap (λ j. block_records F x y (b * kind_count) (t * kind_count) ++ block_records F x y j kind_count) e
      ∙ more-blocks F x y (b * kind_count) (t * kind_count) kind_count
      ∙ ap (block_records F x y (b * kind_count)) (let q : t * kind_count + kind_count ≡ (t + 1) * kind_count = omega arith in q)

  -- one source statement more
  next-source : (s : ℕ) → block_records F x y 0 (s * F.body * kind_count) ++ block_records F x y (s * F.body * kind_count) (F.body * kind_count)
      ≡ block_records F x y 0 ((s + 1) * F.body * kind_count)
  next-source s =
      let b = s * F.body in let e : b * kind_count ≡ 0 + b * kind_count = omega arith in
      let r = row_next F.body s in
      ap (λ j. block_records F x y 0 (b * kind_count) ++ block_records F x y j (F.body * kind_count)) e
      ∙ more-blocks F x y 0 (b * kind_count) (F.body * kind_count)
      ∙ ap (block_records F x y 0) (let q : b * kind_count + F.body * kind_count ≡ (s + 1) * F.body * kind_count = omega arith in q)

  module _ (w₀ : Window) (found₀ : List ℤ) where
    pub pass-no-sink : (s : ℕ) → Passes w₀ found₀ w₀ found₀ (block_records F x y (s * F.body * kind_count) (0 * kind_count))
    pass-no-sink s = pass_same w₀ found₀ (sym (no_blocks F x y (s * F.body * kind_count))) (pass-none w₀ found₀)

    pub pass-sink : (s t : ℕ) (w w' : Window) (found found' : List ℤ) (rs : List (List ℤ))
        → rs ≡ block_records F x y ((s * F.body + t) * kind_count) kind_count
        → Passes w₀ found₀ w found (block_records F x y (s * F.body * kind_count) (t * kind_count)) → Passes w found w' found' rs
        → Passes w₀ found₀ w' found' (block_records F x y (s * F.body * kind_count) ((t + 1) * kind_count))
    pass-sink s t w w' found found' rs e p q = pass_same w₀ found₀ (next-sink s t)
        (pass-then w₀ found₀ w w' found found' (block_records F x y (s * F.body * kind_count) (t * kind_count))
        (block_records F x y ((s * F.body + t) * kind_count) kind_count) p (pass_same w found e q))

    pub pass-no-statement : Passes w₀ found₀ w₀ found₀ (block_records F x y 0 (0 * F.body * kind_count))
    pass-no-statement = pass_same w₀ found₀ (sym (ap (λ k. block_records F x y 0 (k * kind_count)) (zero-mul F.body) ∙ no_blocks F x y 0))
        (pass-none w₀ found₀)

    pub pass-statement : (s : ℕ) (w w' : Window) (found found' : List ℤ)
        → Passes w₀ found₀ w found (block_records F x y 0 (s * F.body * kind_count))
        → Passes w found w' found' (block_records F x y (s * F.body * kind_count) (F.body * kind_count))
        → Passes w₀ found₀ w' found' (block_records F x y 0 ((s + 1) * F.body * kind_count))
    pass-statement s w w' found found' p q = pass_same w₀ found₀ (next-source s)
        (pass-then w₀ found₀ w w' found found' (block_records F x y 0 (s * F.body * kind_count))
        (block_records F x y (s * F.body * kind_count) (F.body * kind_count)) p q)

    pub pass-all-statements : (s : ℕ) (w : Window) (found : List ℤ) → s ≡ F.body
        → Passes w₀ found₀ w found (block_records F x y 0 (s * F.body * kind_count)) → Passes w₀ found₀ w found (records_between F x y)
    pass-all-statements s w found e p = pass_same w₀ found₀ (all_blocks F x y s e) p
