-- Loops of which no limit has a coefficient: what range is taken for one does not matter. In order: one limit more; sums, then the limits of one
-- side; the array of ranges that has only those that matter.
use mathlib.Core.Path.{◌≡◌, refl, sym, ◌∙◌, ap, ap₂, subst}
use mathlib.Core.Logic.{◌⊎◌, inl, inr, ⊎_elim}
use mathlib.Core.List.{List, [], ◌∷◌, ◌++◌, map}
use Prim.Native.Nat.{ℕ, zero, suc, ◌+◌, ◌*◌, ◌≤◌, ◌<◌}
use native.Mathlib.Nat.{eq-or-lt_of_le}
use native.Mathlib.Numerals.{add-one}
use native.Mathlib.Omega.{arith}
use lib.IntN.{ℤ, pos, ◌+ℤ◌, zero-*ℤ}
use lib.ListN.{length, get_or, drop, set, replicate, length-set, length-append, length-replicate, get_or-append}
use lib.Seq.{get_or-take, get_or-drop, get_or-set_same, get_or-set_other, get_or_at}
use Rattle.integers.specs.Difference.{size}
use Rattle.model.specs.Ticket.{Limit}
use Rattle.model.specs.Quick as Model
use Rattle.model.specs.Quick.{least_term, greatest_term, cut, range_of, ranges_from, ranges}
use Rattle.nest_flat.specs.Flat.{NestOk, limit_at, limits_at, loop_at, loops_from}
use Rattle.nest_index_range.specs.declared.Side.{Side}
use Rattle.nest_index_range.specs.declared.Side.TheVariants.{Lower, Upper}
use Rattle.nest_index_range.specs.Sides.{place, rounded, tightest}
use Rattle.nest_loop_ranges.specs.declared.Range.{Range}
use Rattle.nest_loop_ranges.specs.Ranges.{range_as, ranges_of, NearRange, NearRanges}
use Rattle.nest_loop_ranges.specs.Extremes.{end_of, extreme_term, extreme_sum}
use Rattle.nest_loop_ranges.specs.Values.{extreme_of, extreme_from, range_at, Free, LoopIn}
use Rattle.nest_loop_ranges.proofs.TermLaws.{copy}
use Rattle.nest_loop_ranges.proofs.SumLaws.{no_range, ranges-length, ranges-at}
use Rattle.nest_loop_ranges.proofs.ExtremeLaws.{sum-none, sum-cons}
use Rattle.nest_loop_ranges.proofs.RangeLaws.{extreme-cut, ranges_more, range-made}

pub free_more : (s : List ℤ) (j l i : ℕ) → Free s j l i → get_or s ((j + l) * 8 + 2 + i) (pos 0) ≡ pos 0 → Free s j (l + 1) i
free_more s j l i f e m h = ⊎_elim (λ g. ap (λ (z : ℕ). get_or s ((j + z) * 8 + 2 + i) (pos 0)) g ∙ e) (f m)
    (eq-or-lt_of_le (let z : m ≤ l = omega arith in z))

-- ---- sums

term-none : (d : Side) (r : Model.Range) → extreme_term d (pos 0) r ≡ pos 0
unfolding least_term greatest_term
term-none Lower r = zero-*ℤ r.greatest
term-none Upper r = zero-*ℤ r.least

-- the ranges are the same, but at coefficients of 0
abbrev Alike : List ℤ → List Model.Range → List Model.Range → Type 0
Alike cs rs qs = (i : ℕ) → i < length rs → (get_or cs i (pos 0) ≡ pos 0) ⊎ (get_or rs i (range_as no_range) ≡ get_or qs i (range_as no_range))

sum_alike : (d : Side) (cs : List ℤ) (rs qs : List Model.Range) → length rs ≡ length qs → Alike cs rs qs → extreme_sum d cs rs ≡ extreme_sum d cs qs
sum_alike d [] rs qs l h = sum-none d rs ∙ sym (sum-none d qs)
sum_alike d (c ∷ cs) [] [] l h = refl
sum_alike d (c ∷ cs) [] (q ∷ qs) l h = absurd (omega arith)
sum_alike d (c ∷ cs) (r ∷ rs) [] l h = absurd (omega arith)
sum_alike d (c ∷ cs) (r ∷ rs) (q ∷ qs) l h =
    sum-cons d c cs r rs ∙ ap₂ ◌+ℤ◌ (same (h 0 (omega arith))) (sum_alike d cs rs qs (omega arith) (λ i k. h (suc i) (omega arith)))
    ∙ sym (sum-cons d c cs q qs)
  where
    same : (c ≡ pos 0) ⊎ (r ≡ q) → extreme_term d c r ≡ extreme_term d c q
    same (inl e) = rw (e, term-none d r, term-none d q)
    same (inr e) = ap (extreme_term d c) e

-- ---- the limits of one side

limits-alike : (f g : Limit → ℤ) (s : List ℤ) (k j n : ℕ) → ((l : ℕ) → l < n → f (limit_at s k (j + l)) ≡ g (limit_at s k (j + l)))
    → map f (limits_at s k j n) ≡ map g (limits_at s k j n)
unfolding limits_at
limits-alike f g s k j zero h = refl
limits-alike f g s k j (suc n) h = ap₂ ◌∷◌ (at j 0 (omega arith) (omega arith)) (limits-alike f g s k (suc j) n
    (λ l d. at (suc j + l) (suc l) (omega arith) (omega arith)))
  where
    at : (m l : ℕ) → l < suc n → j + l ≡ m → f (limit_at s k m) ≡ g (limit_at s k m)
    at m l d e = subst (λ (z : ℕ). f (limit_at s k z) ≡ g (limit_at s k z)) e (h l d)

coefficient-at : (s : List ℤ) (k j i : ℕ) → i < k → get_or (limit_at s k j).coefficients i (pos 0) ≡ get_or s (j * 8 + 2 + i) (pos 0)
unfolding limit_at
coefficient-at s k j i h = get_or-take k (drop (j * 8 + 2) s) i (pos 0) h ∙ get_or-drop (j * 8 + 2) s i (pos 0)

-- the ranges rs and qs of k loops are the same, but at loops of which no limit has a coefficient
record AlikeBut (s : List ℤ) (k j n : ℕ) (rs qs : List Model.Range) : Type 0 where
  count : length rs ≡ k
  counts : length qs ≡ k
  same : (i : ℕ) → i < k → Free s j n i ⊎ (get_or rs i (range_as no_range) ≡ get_or qs i (range_as no_range))

module _ (s : List ℤ) (k j n : ℕ) (rs qs : List Model.Range) (p : AlikeBut s k j n rs qs) where
  sums-alike : (d : Side) (l : ℕ) → l < n → extreme_sum d (limit_at s k (j + l)).coefficients rs ≡ extreme_sum d (limit_at s k (j + l)).coefficients qs
  sums-alike d l h = let a = p.count in sum_alike d (limit_at s k (j + l)).coefficients rs qs (p.count ∙ sym p.counts)
      (λ i g. ⊎_elim (λ f. inl (coefficient-at s k (j + l) i (omega arith) ∙ f l h)) inr (p.same i (omega arith)))

  side-alike : (d : Side) → tightest d (map (extreme_of d rs) (limits_at s k j n)) ≡ tightest d (map (extreme_of d qs) (limits_at s k j n))
  side-alike d = ap (tightest d) (limits-alike (extreme_of d rs) (extreme_of d qs) s k j n
      (λ l h. let m = limit_at s k (j + l) in ap (λ (z : ℤ). rounded d (m.constant +ℤ z) (pos m.multiplier)) (sums-alike d l h)))

-- ---- the ranges of a nest, one by one

module _ (s : List ℤ) (c : List ℕ) where
  nest-count : (n : ℕ) → length (ranges (loops_from s c 0 n)) ≡ n
  unfolding ranges ranges_from loops_from
  nest-count zero = refl
  nest-count (suc n) = ap (λ (m : ℕ). length (ranges (loops_from s c 0 m))) (sym (add-one n)) ∙ ap length (ranges_more s c n)
      ∙ length-append (ranges (loops_from s c 0 n)) (range_at s c n ∷ []) ∙ (let a = nest-count n in omega arith)

  nest-at : (n i : ℕ) → i < n → get_or (ranges (loops_from s c 0 n)) i (range_as no_range) ≡ range_at s c i
  nest-at zero i h = absurd (omega arith)
  nest-at (suc n) i h = ap (λ (m : ℕ). get_or (ranges (loops_from s c 0 m)) i (range_as no_range)) (sym (add-one n))
      ∙ ap (λ (l : List Model.Range). get_or l i (range_as no_range)) (ranges_more s c n)
      ∙ ⊎_elim (λ e. ap (λ (m : ℕ). get_or (ranges (loops_from s c 0 n) ++ (range_at s c n ∷ [])) m (range_as no_range)) e
      ∙ get_or_at (ranges (loops_from s c 0 n)) (range_at s c n) [] (range_as no_range) n (nest-count n) ∙ ap (range_at s c) (sym e))
      (λ g. let a = nest-count n in get_or-append (ranges (loops_from s c 0 n)) (range_at s c n ∷ []) (range_as no_range) i (omega arith)
      ∙ nest-at n i g)
      (eq-or-lt_of_le (let z : i ≤ n = omega arith in z))

-- ---- the array that has the ranges that matter

near-all : (n : ℕ) (b : List Range) → ((i : ℕ) → NearRange (range_as (get_or b i no_range))) → NearRanges (ranges_of n b)
unfolding ranges_of
near-all zero b h = tt
near-all (suc n) [] h = tt
near-all (suc n) (r ∷ b) h = (h 0, near-all n b (λ i. h (suc i)))

near_none : (n m : ℕ) → NearRange (range_as (get_or (replicate n no_range) m no_range))
near_none zero m = record { low = omega arith; high = omega arith }
near_none (suc n) zero = record { low = omega arith; high = omega arith }
near_none (suc n) (suc m) = near_none n m

near-set : (b : List Range) (i : ℕ) (r : Range) → NearRange (range_as r) → ((m : ℕ) → NearRange (range_as (get_or b m no_range))) → (m : ℕ)
    → NearRange (range_as (get_or (set b i r) m no_range))
near-set [] i r q h m = h m
near-set (x ∷ b) zero r q h zero = q
near-set (x ∷ b) zero r q h (suc m) = h (suc m)
near-set (x ∷ b) (suc i) r q h zero = h 0
near-set (x ∷ b) (suc i) r q h (suc m) = near-set b i r q (λ m. h (suc m)) m

-- the array holds the range of each of the first i loops of which one of n limits from limit j on has a coefficient
pub record NeededAre (s : List ℤ) (c : List ℕ) (j n i : ℕ) (b : List Range) : Type 0 where
  pub six : length b ≡ 6
  pub near : (m : ℕ) → NearRange (range_as (get_or b m no_range))
  pub are : (m : ℕ) → m < i → Free s j n m ⊎ (range_as (get_or b m no_range) ≡ range_at s c m)

module _ (s : List ℤ) (c : List ℕ) (j n : ℕ) where
  pub needed-none : NeededAre s c j n 0 (replicate 6 no_range)
  needed-none = record { six = length-replicate 6 no_range; near = near_none 6; are = λ m h. absurd (omega arith) }

  module _ (i : ℕ) (b : List Range) (p : NeededAre s c j n i b) where
    pub needed-free : Free s j n i → NeededAre s c j n (i + 1) b
    needed-free f = record {
      six = p.six;
      near = p.near;
      are = λ m h. ⊎_elim (λ e. inl (subst (Free s j n) (sym e) f)) (p.are m)
          (eq-or-lt_of_le (let z : m ≤ i = omega arith in z));
    }

    pub needed-more : (x y : ℤ) → i < 6 → (x ≡ (range_at s c i).least) × (size x ≤ 32767) → (y ≡ (range_at s c i).greatest) × (size y ≤ 32767)
        → NeededAre s c j n (i + 1) (set b i (record { least = copy x; greatest = copy y }))
    needed-more x y h l g =
        let r : Range = record { least = copy x; greatest = copy y } in
        let q = range-made s c i x y l g in
        let six = p.six in
        record {
          six = length-set b i r ∙ six;
          near = near-set b i r q.1 p.near;
          are = λ m k. ⊎_elim
              (λ e. inr (subst (λ (z : ℕ). range_as (get_or (set b i r) z no_range) ≡ range_at s c z) (sym e)
              (ap range_as (get_or-set_same b i r no_range (omega arith)) ∙ q.0)))
              (λ d. subst (λ (z : Range). Free s j n m ⊎ (range_as z ≡ range_at s c m)) (sym (get_or-set_other b i m r no_range (other d))) (p.are m d))
              (eq-or-lt_of_le (let z : m ≤ i = omega arith in z));
        }
      where
        other : {m k : ℕ} → m < k → m ≡ k → ⊥
        other d e = omega arith

  -- ---- the value of a loop

  module _ (k i : ℕ) (b : List Range) (q : NestOk s c (suc k)) (p : NeededAre s c j n i b) (h : i ≡ k) where
    pub needed-in : LoopIn s c k b
    needed-in = record { nest = q; outside = record { six = p.six; few = (let f = q.shallow in omega arith); near = near-all k b p.near } }

    alike-but : AlikeBut s k j n (ranges_of k b) (ranges (loops_from s c 0 k))
    alike-but = let f = q.shallow in let x = p.six in let l : k ≤ length b = omega arith in record {
      count = ranges-length k b l;
      counts = nest-count s c k;
      same = λ m d. ⊎_elim inl (λ e. inr (ranges-at k b m d l ∙ e ∙ sym (nest-at s c k m d))) (p.are m (omega arith));
    }

module _ (s : List ℤ) (c : List ℕ) (k i : ℕ) (b : List Range) (q : NestOk s c (suc k)) (h : i ≡ k) (r : ℤ) where
  abbrev full : List Model.Range
  full = ranges (loops_from s c 0 k)

  pub needed-extreme : (d : Side) {p : ℕ} → p ≡ place d k → NeededAre s c (p * 16) (get_or c p 0) i b
      → r ≡ end_of d (range_of (ranges_of k b) (loop_at s c k)) → r ≡ end_of d (range_at s c k)
  unfolding range_at extreme_from
  needed-extreme d {p} f m e = let n = get_or c p 0 in let g : NeededAre s c (place d k * 16) (get_or c (place d k) 0) i b = rw f at m in
      e ∙ sym (extreme-cut s c k (ranges_of k b) d refl refl refl)
      ∙ ap cut (side-alike s k (place d k * 16) (get_or c (place d k) 0) (ranges_of k b) full
      (alike-but s c (place d k * 16) (get_or c (place d k) 0) k i b q g h) d) ∙ extreme-cut s c k full d refl refl refl
