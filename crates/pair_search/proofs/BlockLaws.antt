-- The pairs of two iterations by number: of n statements, pair j has source j / 3 / n, sink j / 3 % n and kind j % 3.
use mathlib.Core.Path.{◌≡◌, refl, sym, ap, ap₂, ◌∙◌}
use mathlib.Core.List.{List, [], ◌∷◌, ◌++◌, map, flat_map, map-append}
use Prim.Native.Nat.{ℕ, zero, suc, ◌+◌, ◌*◌, ◌/◌, ◌%◌, ◌<◌}
use native.Mathlib.Nat.{add-zero, add-suc, add_comm, add-mul, mul_assoc, zero-mul, suc-mul, div-add-mod', mod-lt}
use native.Mathlib.Omega.{arith}
use lib.IntN.{ℤ}
use lib.ListN.{get_or}
use Rattle.lists.proofs.PartLaws.{row-unique}
use Rattle.lists.proofs.FlatMapLaws.{flat_map-same-on}
use Rattle.model.specs.Directions.{Kind, flow, kinds, kind_count, up_from}
use Rattle.model.specs.Pairs.{Pair, pairs_at}
use Rattle.model.proofs.Steps.ChainLaws.{up-parts}
use Rattle.model.proofs.Listing.LineOrderLaws.{up_from-mem}
use Rattle.pair_records.specs.Conflicts.{block_count}

-- ---- numbers by blocks of one width

up-shift : {B : Type 0} (g : ℕ → B) (k i n : ℕ) → map (λ r. g (k + r)) (up_from i n) ≡ map g (up_from (k + i) n)
unfolding up_from
up-shift g k i zero = refl
up-shift g k i (suc n) = ap (g (k + i) ∷◌) (up-shift g k (suc i) n ∙ ap (λ j. map g (up_from j n)) (add-suc k i))

flat_map-blocks : {B : Type 0} (g : ℕ → B) (w k n : ℕ)
    → flat_map (λ s. map (λ r. g (s * w + r)) (up_from 0 w)) (up_from k n) ≡ map g (up_from (k * w) (n * w))
unfolding flat_map up_from
flat_map-blocks g w k zero = ap (λ i. map g (up_from (k * w) i)) (sym (zero-mul w))
flat_map-blocks g w k (suc n) =
    ap₂ ◌++◌ (up-shift g (k * w) 0 w ∙ ap (λ i. map g (up_from i w)) (add-zero (k * w)))
    (flat_map-blocks g w (suc k) n ∙ ap (λ i. map g (up_from i (n * w))) (suc-mul k w))
    ∙ sym (map-append g (up_from (k * w) w) (up_from (k * w + w) (n * w)))
    ∙ sym (ap (map g) (ap (up_from (k * w)) (suc-mul n w ∙ add_comm (n * w) w) ∙ up-parts (k * w) w (n * w)))

-- all numbers, from 0
all_blocks : {B : Type 0} (g : ℕ → B) (w n : ℕ) → flat_map (λ s. map (λ r. g (s * w + r)) (up_from 0 w)) (up_from 0 n) ≡ map g (up_from 0 (n * w))
all_blocks g w n = flat_map-blocks g w 0 n ∙ ap (λ i. map g (up_from i (n * w))) (zero-mul w)

-- the block of a number, and its place there
pub parts-of : (w o x : ℕ) → x < w → ((o * w + x) / w ≡ o) × ((o * w + x) % w ≡ x)
parts-of w o x h = row-unique w ((o * w + x) / w) o ((o * w + x) % w) x (mod-lt (o * w + x) (omega arith)) h (div-add-mod' (o * w + x) w)

-- ---- pairs by number

abbrev pub pair_of : List ℤ → List ℤ → ℕ → ℕ → Kind → Pair
pair_of p q s t k = record { source = record { statement = s; iteration = p }; sink = record { statement = t; iteration = q }; kind = k }

abbrev pub pair_at : ℕ → List ℤ → List ℤ → ℕ → Pair
pair_at n p q j = pair_of p q (j / kind_count / n) (j / kind_count % n) (get_or kinds (j % kind_count) flow)

module _ (n : ℕ) (p q : List ℤ) where
  pair_is : (s t k : ℕ) → t < n → k < kind_count → pair_at n p q ((s * n + t) * kind_count + k) ≡ pair_of p q s t (get_or kinds k flow)
  pair_is s t k h g =
      let a = parts-of kind_count (s * n + t) k g in
      let b = parts-of n s t h in
      ap₂ (λ x r. pair_of p q (x / n) (x % n) (get_or kinds r flow)) a.0 a.1
      ∙ ap₂ (λ x r. pair_of p q x r (get_or kinds k flow)) b.0 b.1

  -- the three kinds of two statements
  kinds-at : (s t : ℕ) → t < n → map (pair_of p q s t) kinds ≡ map (λ k. pair_at n p q ((s * n + t) * kind_count + k)) (up_from 0 kind_count)
  unfolding kinds up_from
  kinds-at s t h = sym (ap₂ ◌∷◌ (pair_is s t 0 h (omega arith)) (ap₂ ◌∷◌ (pair_is s t 1 h (omega arith))
      (ap (◌∷ []) (pair_is s t 2 h (omega arith)))))

  -- all sinks of a source
  sinks-at : (s : ℕ) → flat_map (λ t. map (pair_of p q s t) kinds) (up_from 0 n)
      ≡ map (λ i. pair_at n p q (s * (n * kind_count) + i)) (up_from 0 (n * kind_count))
  sinks-at s =
      flat_map-same-on (λ t. map (pair_of p q s t) kinds)
      (λ t. map (λ k. pair_at n p q (s * (n * kind_count) + (t * kind_count + k))) (up_from 0 kind_count)) (up_from 0 n)
      (λ t m. let b = (up_from-mem 0 n m).1 in kinds-at s t (omega arith) ∙ regroup t)
      ∙ all_blocks (λ i. pair_at n p q (s * (n * kind_count) + i)) kind_count n
    where
      placed : (t k : ℕ) → (s * n + t) * kind_count + k ≡ s * (n * kind_count) + (t * kind_count + k)
      placed t k = let a = add-mul (s * n) t kind_count in let b = mul_assoc s n kind_count in omega arith

      regroup : (t : ℕ) → map (λ k. pair_at n p q ((s * n + t) * kind_count + k)) (up_from 0 kind_count)
          ≡ map (λ k. pair_at n p q (s * (n * kind_count) + (t * kind_count + k))) (up_from 0 kind_count)
      regroup t = ap (λ (g : ℕ → ℕ). map (λ k. pair_at n p q (g k)) (up_from 0 kind_count)) (λ i k. placed t k i)

  pub pairs_at-blocks : pairs_at n p q ≡ map (pair_at n p q) (up_from 0 (block_count n))
  unfolding pairs_at block_count
  pairs_at-blocks =
      flat_map-same-on (λ s. flat_map (λ t. map (pair_of p q s t) kinds) (up_from 0 n))
      (λ s. map (λ i. pair_at n p q (s * (n * kind_count) + i)) (up_from 0 (n * kind_count))) (up_from 0 n) (λ s m. sinks-at s)
      ∙ all_blocks (pair_at n p q) (n * kind_count) n ∙ ap (λ i. map (pair_at n p q) (up_from 0 i)) (sym (mul_assoc n n kind_count))
