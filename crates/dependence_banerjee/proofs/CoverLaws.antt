-- A vector that one dimension or the sum of all excludes is impossible; the numbers of candidates; and marks that cover: every candidate so far is
-- marked or impossible.
use mathlib.Core.Path.{◌≡◌, refl, sym, ◌∙◌, subst}
use mathlib.Core.Bool.{Bool, true, false}
use mathlib.Core.Logic.{◌⊎◌, inl, inr, ⊎_elim}
use mathlib.Core.List.{List}
use Prim.Native.Nat.{ℕ, zero, suc, ◌+◌, ◌*◌, ◌-◌, ◌/◌, ◌≤◌, ◌<◌}
use native.Mathlib.Nat.{add-mul, one-mul, mul-le-mul_right, lt_of_mul-lt-mul_right, eq-or-lt_of_le, div-le_self, le-div_iff_mul-le}
use native.Mathlib.Omega.{arith}
use lib.IntN.{ℤ}
use lib.ListN.{length, get_or}
use Rattle.lists.proofs.TestLaws.{true-T}
use Rattle.model.specs.Bounds.{subscript_at}
use Rattle.model.specs.Directions.{signs, earlier, vector_count}
use Rattle.model.specs.Quick.{InRanges}
use Rattle.nest_flat.specs.Layout.{form_at}
use Rattle.nest_loop_ranges.specs.declared.Range.{Range}
use Rattle.nest_loop_ranges.specs.Ranges.{ranges_of}
use Rattle.dependence_vectors.specs.Numbers.{digit, number_after, number}
use Rattle.dependence_vectors.specs.Candidates.{stride, middle}
use Rattle.dependence_vectors.proofs.NumberLaws.{number-splits, number-self, number-earlier, stride-half, stride-positive}
use Rattle.dependence_banerjee.specs.Sums.{SubscriptsIn}
use Rattle.dependence_banerjee.specs.Spans.{RegionIn, Excluded, NoIterations, Impossible}
use Rattle.dependence_banerjee.specs.Covers.{Covers, CoverIn, candidates}
use Rattle.dependence_banerjee.proofs.SumLaws.{difference-zero, equal-pairs}
use Rattle.dependence_banerjee.proofs.RegionLaws.{iteration-long, signs-long}

-- ---- impossible

module _ (w : List ℤ) (i j d n : ℕ) (b : List Range) (g : RegionIn w i j d n b) (u : ℕ) where
  pub empty-impossible : NoIterations n b u → Impossible w i j d n b u
  empty-impossible v p q h e = v p q h

  pub all-excluded : Excluded w i j d n b u → Impossible w i j d n b u
  all-excluded x p q h e = x p q h (difference-zero w n i j d p q g.sums g.ranges.few (iteration-long n b g.ranges p h.source)
      (iteration-long n b g.ranges q h.sink)
      (equal-pairs w n i j d p q e))

  module _ (t : ℕ) (l : t < d) where
    pub dimension-in : RegionIn w (i + t) (j + t) 1 n b
    dimension-in = record { sums = record { source = one g.sums.source; sink = one g.sums.sink }; ranges = g.ranges }
      where
        one : {o : ℕ} → SubscriptsIn w o d → SubscriptsIn w (o + t) 1
        one {o} s = let a = s.inside in record { small = s.small; inside = omega arith; few = omega arith }

    pub dimension-excluded : Excluded w (i + t) (j + t) 1 n b u → Impossible w i j d n b u
    dimension-excluded x p q h e = x p q h (difference-zero w n (i + t) (j + t) 1 p q dimension-in.sums g.ranges.few
        (iteration-long n b g.ranges p h.source) (iteration-long n b g.ranges q h.sink) same)
      where
        same : (k : ℕ) → k < 1 → subscript_at p (form_at w n (i + t + k)) ≡ subscript_at q (form_at w n (j + t + k))
        same k s = let x : i + t + k ≡ i + t = omega arith in let y : j + t + k ≡ j + t = omega arith in rw (x, y) (equal-pairs w n i j d p q e t l)

-- ---- the candidates

-- the vectors before that of = alone, whose number is 364
abbrev before : ℕ → ℕ
before n = (vector_count / stride (6 - n) - 1) / 2

middle-number : (n : ℕ) → n ≤ 6 → before n * stride (6 - n) + middle (6 - n) ≡ 364
unfolding stride middle number_after digit
middle-number zero h = refl
middle-number (suc zero) h = refl
middle-number (suc (suc zero)) h = refl
middle-number (suc (suc (suc zero))) h = refl
middle-number (suc (suc (suc (suc zero)))) h = refl
middle-number (suc (suc (suc (suc (suc zero))))) h = refl
middle-number (suc (suc (suc (suc (suc (suc zero)))))) h = refl
middle-number (suc (suc (suc (suc (suc (suc (suc n))))))) h = absurd (omega arith)

pub some-quotient : {s : ℕ} → 0 < s → s ≤ vector_count → 1 ≤ vector_count / s
some-quotient {s} h l = (le-div_iff_mul-le {k = s} {x = 1} {y = vector_count} h).1 (let e = one-mul s in omega arith)

pub candidates-own : (n : ℕ) (own : Bool) {s : ℕ} → s ≡ stride (6 - n) → own ≡ true → (vector_count / s - 1) / 2 + 1 ≡ candidates n own
unfolding candidates
candidates-own n own e t = rw (e, t)

pub candidates-before : (n : ℕ) (own : Bool) {s : ℕ} → s ≡ stride (6 - n) → own ≡ false → (vector_count / s - 1) / 2 ≡ candidates n own
unfolding candidates
candidates-before n own e t = rw (e, t)

candidates-least : (n : ℕ) (own : Bool) → before n ≤ candidates n own
unfolding candidates
candidates-least n true = omega arith
candidates-least n false = omega arith

candidates-most : (n : ℕ) (own : Bool) → candidates n own ≤ before n + 1
unfolding candidates
candidates-most n true = omega arith
candidates-most n false = omega arith

candidates-all : (n : ℕ) (own : Bool) → own ≡ true → candidates n own ≡ before n + 1
unfolding candidates
candidates-all n own e = rw e

-- a candidate's mark is among the vector_count
mark-inside : (n : ℕ) (own : Bool) (s u : ℕ) → n ≤ 6 → s ≡ stride (6 - n) → u < candidates n own → (u * s + (s - 1) / 2 ≤ 364) × (u ≤ 364)
mark-inside n own s u f e h =
    let a = candidates-most n own in let b = stride-half (6 - n) s e in let c = middle-number n f in
    let l : u ≤ before n = omega arith in let k : u * stride (6 - n) ≤ before n * stride (6 - n) = mul-le-mul_right (stride (6 - n)) l in
    let q = div-le_self vector_count (stride (6 - n)) in (rw (b, e) (omega arith), omega arith)

-- ---- the marks

-- every candidate before k is marked or impossible
pub record CoveredTo (w : List ℤ) (a b d n : ℕ) (r : List Range) (base : ℕ) (m : List Bool) (s k : ℕ) : Type 0 where
  pub each : (u : ℕ) → u < k → (get_or m (base + u * s + (s - 1) / 2) false ≡ true) ⊎ Impossible w (a * 3) (b * 3) d n r u

pub covered_none : (w : List ℤ) (a b d n : ℕ) (r : List Range) (base : ℕ) (m : List Bool) (s : ℕ) → CoveredTo w a b d n r base m s 0
covered_none w a b d n r base m s = record { each = λ u h. absurd (let z : u < 0 = h in omega arith) }

module _ (w : List ℤ) (a b d n : ℕ) (r : List Range) (base : ℕ) (m : List Bool) (s k : ℕ) (c : CoveredTo w a b d n r base m s k) where
  one_more : ((get_or m (base + k * s + (s - 1) / 2) false ≡ true) ⊎ Impossible w (a * 3) (b * 3) d n r k) → CoveredTo w a b d n r base m s (k + 1)
  one_more x = record {
    each = λ u h. ⊎_elim
        (λ e. subst (λ z. (get_or m (base + z * s + (s - 1) / 2) false ≡ true) ⊎ Impossible w (a * 3) (b * 3) d n r z) (sym e) x)
        (λ l. c.each u l) (eq-or-lt_of_le (let z : u ≤ k = omega arith in z));
  }

  pub one-marked : get_or m (base + k * s + (s - 1) / 2) false ≡ true → CoveredTo w a b d n r base m s (k + 1)
  one-marked e = one_more (inl e)

  pub one-impossible : Impossible w (a * 3) (b * 3) d n r k → CoveredTo w a b d n r base m s (k + 1)
  one-impossible e = one_more (inr e)

module _ (w : List ℤ) (a b d n : ℕ) (r : List Range) (own : Bool) (base : ℕ) (m : List Bool) (g : CoverIn w a b d n r base m) where
  pub region-in : RegionIn w (a * 3) (b * 3) d n r
  region-in = let x = g.source in let y = g.sink in record {
    sums = record {
      source = record { small = g.small; inside = omega arith; few = g.dimensions };
      sink = record { small = g.small; inside = omega arith; few = g.dimensions };
    };
    ranges = g.ranges;
  }

  pub mark-there : (s u end : ℕ) → s ≡ stride (6 - n) → end ≡ candidates n own → u < end → (base + u * s + (s - 1) / 2 < length m) × (u ≤ 364)
  mark-there s u end e f h = let i = mark-inside n own s u g.ranges.few e (omega arith) in let k = g.marks in (omega arith, i.1)

  module _ (s : ℕ) (e : s ≡ stride (6 - n)) (p q : List ℤ) (hp : InRanges (ranges_of n r) p) (hq : InRanges (ranges_of n r) q) where
    long : (length p ≡ n) × (length q ≡ n)
    long = (iteration-long n r g.ranges p hp, iteration-long n r g.ranges q hq)

    splits : number (signs p q) ≡ number_after 0 (signs p q) * s + (s - 1) / 2
    splits = number-splits (signs p q) n (signs-long n r g.ranges p q hp hq) g.ranges.few ∙ rw (stride-half (6 - n) s e, e)

    candidate : (earlier p q ≡ true) ⊎ ((own ≡ true) × (p ≡ q)) → number_after 0 (signs p q) < candidates n own
    candidate x =
        let f = g.ranges.few in let l = long.0 in let o = long.1 in
        let t = number-splits (signs p q) n (signs-long n r g.ranges p q hp hq) g.ranges.few in let z = middle-number n g.ranges.few in
        ⊎_elim
        (λ h. let v = number-earlier p q (omega arith) (omega arith) (true-T (earlier p q) h) in let y = candidates-least n own in
        let j : number_after 0 (signs p q) < before n = lt_of_mul-lt-mul_right (stride (6 - n)) (omega arith) in omega arith)
        (λ h. let v : number (signs p q) ≡ 364 = rw (sym h.1) (number-self p (omega arith)) in let y = candidates-all n own h.0
        in let u = stride-positive (6 - n) in
        let j : number_after 0 (signs p q) < before n + 1 = below (number_after 0 (signs p q)) (before n) (stride (6 - n)) u (omega arith) in omega
        arith)
        x
      where
        below : (t k z : ℕ) → 0 < z → t * z ≡ k * z → t < k + 1
        below t k z h e = lt_of_mul-lt-mul_right z (let a = add-mul k 1 z in let b = one-mul z in omega arith)

  pub all-covered : (s k : ℕ) → s ≡ stride (6 - n) → candidates n own ≤ k → CoveredTo w a b d n r base m s k → Covers w a b d n r own base m
  all-covered s k e h c p q hp hq x y =
      let t = candidate s e p q hp hq x in
      ⊎_elim
      (λ o. subst (λ z. get_or m z false ≡ true) (place (number_after 0 (signs p q)) (splits s e p q hp hq)) o)
      (λ o. absurd (o p q (record { source = hp; sink = hq; number = refl }) y))
      (c.each (number_after 0 (signs p q)) (omega arith))
    where
      place : (u : ℕ) {z : ℕ} → z ≡ u * s + (s - 1) / 2 → base + u * s + (s - 1) / 2 ≡ base + z
      place u e = omega arith
