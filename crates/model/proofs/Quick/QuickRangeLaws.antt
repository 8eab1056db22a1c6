-- The ranges of the quick test: cutting, then sums over ranges, then every index of an iteration lies in its loop's range. The test itself is in
-- `QuickLaws`.
use mathlib.Core.Path.{refl, subst}
use mathlib.Core.List.Memᴰ
use mathlib.Core.List.{List, map-eq-nil_iff, [], ◌∷◌, ◌++◌, map, append_assoc, append-nil}
use Prim.Native.Nat.{◌<◌}
use lib.IntN.{ℤ, pos, negsuc, ◌+ℤ◌, ◌*ℤ◌}
use lib.Signed.{≤ℤ_refl, lt_z, ◌≤ℤ◌}
use Rattle.integers.specs.Affine.{dot, affine, Within}
use Rattle.integers.specs.Division.{floor_div, ceil_div}
use Rattle.integers.proofs.RingLaws.{zarith, mulˡ, ≤ℤ-trans, +ℤ-mono, <ℤ-≤ℤ}
use Rattle.integers.proofs.OrderLaws.{mul-flip}
use Rattle.integers.proofs.RangeLaws.{test-lt, test-lt-no, size-le}
use Rattle.integers.proofs.DivisionLaws.{floor-iff, ceil-iff}
use Rattle.lists.specs.Membership.{Mem, All}
use Rattle.lists.proofs.TestLaws.{cond_cases}
use Rattle.model.specs.Ticket.{Limit, Loop}
use Rattle.model.specs.Points.{max_z, min_z, largest, smallest, value}
use Rattle.model.specs.Inside.{AtLeast, AtMost, InLimits, Inside}
use Rattle.model.specs.Shape.{Runs}
use Rattle.model.specs.Quick.{Range, least_term, greatest_term, least_sum, greatest_sum, cut, range_of, ranges_from, ranges, Contains, InRanges}
use Rattle.model.proofs.Points.LoopLaws.{max-iff, min-iff, largest-iff, smallest-iff}

-- ---- cut to ±32767, an index in the range stays in it

cut-le : (y x : ℤ) → y ≤ℤ x → negsuc 32766 ≤ℤ x → cut y ≤ℤ x
unfolding cut
cut-le y x h k = let m = min_z (pos 32767) y in (max-iff (negsuc 32766) m x).1 (k, ≤ℤ-trans ((min-iff (pos 32767) y m).0 (≤ℤ_refl m)).1 h)

le-cut : (y x : ℤ) → x ≤ℤ y → x ≤ℤ pos 32767 → x ≤ℤ cut y
unfolding cut
le-cut y x h k = let m = min_z (pos 32767) y in ≤ℤ-trans ((min-iff (pos 32767) y x).1 (k, h))
    ((max-iff (negsuc 32766) m (max_z (negsuc 32766) m)).0 (≤ℤ_refl (max_z (negsuc 32766) m))).1

-- ---- sums over ranges

least-term : (c : ℤ) (r : Range) (x : ℤ) → Contains r x → least_term c r ≤ℤ (c *ℤ x)
unfolding least_term
least-term c r x h = cond_cases (λ z. z ≤ℤ (c *ℤ x)) (lt_z (pos 0) c) (c *ℤ r.least) (c *ℤ r.greatest)
    (λ e. mulˡ {q = c} (<ℤ-≤ℤ (test-lt {a = pos 0} {b = c} e)) h.low) (λ e. mul-flip {q = c} (test-lt-no {a = pos 0} {b = c} e) h.high)

greatest-term : (c : ℤ) (r : Range) (x : ℤ) → Contains r x → (c *ℤ x) ≤ℤ greatest_term c r
unfolding greatest_term
greatest-term c r x h = cond_cases (λ z. (c *ℤ x) ≤ℤ z) (lt_z (pos 0) c) (c *ℤ r.greatest) (c *ℤ r.least)
    (λ e. mulˡ {q = c} (<ℤ-≤ℤ (test-lt {a = pos 0} {b = c} e)) h.high) (λ e. mul-flip {q = c} (test-lt-no {a = pos 0} {b = c} e) h.low)

pub least-sum : (cs : List ℤ) (rs : List Range) (xs : List ℤ) → InRanges rs xs → least_sum cs rs ≤ℤ dot cs xs
unfolding least_sum dot
least-sum [] rs xs h = omega zarith
least-sum (c ∷ cs) [] [] h = omega zarith
least-sum (c ∷ cs) [] (x ∷ xs) h = absurd h
least-sum (c ∷ cs) (r ∷ rs) [] h = absurd h
least-sum (c ∷ cs) (r ∷ rs) (x ∷ xs) h = +ℤ-mono (least-term c r x h.0) (least-sum cs rs xs h.1)

pub greatest-sum : (cs : List ℤ) (rs : List Range) (xs : List ℤ) → InRanges rs xs → dot cs xs ≤ℤ greatest_sum cs rs
unfolding greatest_sum dot
greatest-sum [] rs xs h = omega zarith
greatest-sum (c ∷ cs) [] [] h = omega zarith
greatest-sum (c ∷ cs) [] (x ∷ xs) h = absurd h
greatest-sum (c ∷ cs) (r ∷ rs) [] h = absurd h
greatest-sum (c ∷ cs) (r ∷ rs) (x ∷ xs) h = +ℤ-mono (greatest-term c r x h.0) (greatest-sum cs rs xs h.1)

pub ranges-append : (rs ss : List Range) (xs ys : List ℤ) → InRanges rs xs → InRanges ss ys → InRanges (rs ++ ss) (xs ++ ys)
ranges-append [] ss [] ys h k = k
ranges-append [] ss (x ∷ xs) ys h k = absurd h
ranges-append (r ∷ rs) ss [] ys h k = absurd h
ranges-append (r ∷ rs) ss (x ∷ xs) ys h k = (h.0, ranges-append rs ss xs ys h.1 k)

-- ---- iterations

module _ (rs : List Range) (outer : List ℤ) (inn : InRanges rs outer) (x : ℤ) where
  -- what a limit makes of the ranges outside it
  abbrev least_of : Limit → ℤ
  least_of l = ceil_div (l.constant +ℤ least_sum l.coefficients rs) (pos l.multiplier)

  abbrev greatest_of : Limit → ℤ
  greatest_of l = floor_div (l.constant +ℤ greatest_sum l.coefficients rs) (pos l.multiplier)

  limit-low : (l : Limit) → 0 < l.multiplier → AtLeast outer x l → least_of l ≤ℤ x
  unfolding value affine
  limit-low l h k = (ceil-iff (l.constant +ℤ least_sum l.coefficients rs) (pos l.multiplier) x (omega zarith)).0
      (≤ℤ-trans (+ℤ-mono (≤ℤ_refl l.constant) (least-sum l.coefficients rs outer inn)) k)

  limit-high : (l : Limit) → 0 < l.multiplier → AtMost outer x l → x ≤ℤ greatest_of l
  unfolding value affine
  limit-high l h k = (floor-iff (l.constant +ℤ greatest_sum l.coefficients rs) (pos l.multiplier) x (omega zarith)).0
      (≤ℤ-trans k (+ℤ-mono (≤ℤ_refl l.constant) (greatest-sum l.coefficients rs outer inn)))

  -- an index within its limits is so before the range is cut
  pub largest-low : (L : Loop) → Runs L → InLimits L outer x → largest (map least_of L.lower) ≤ℤ x
  largest-low L r h = (largest-iff x (map least_of L.lower) (λ e. r.some-lower ((map-eq-nil_iff least_of).0 e))).0 (λ y m.
      let q = Memᴰ.of_map least_of L.lower m in subst (λ y. y ≤ℤ x) q.2 (limit-low q.0 (r.positive-lower q.0 q.1)
      (h.low q.0 q.1)))

  pub smallest-high : (L : Loop) → Runs L → InLimits L outer x → x ≤ℤ smallest (map greatest_of L.upper)
  smallest-high L r h = (smallest-iff x (map greatest_of L.upper) (λ e. r.some_upper ((map-eq-nil_iff greatest_of).0 e))).0 (λ y m.
      let q = Memᴰ.of_map greatest_of L.upper m in subst (λ y. x ≤ℤ y) q.2 (limit-high q.0 (r.positive-upper q.0 q.1)
      (h.high q.0 q.1)))

  in-range : (L : Loop) → Runs L → InLimits L outer x → negsuc 32766 ≤ℤ x → x ≤ℤ pos 32767 → Contains (range_of rs L) x
  unfolding range_of
  in-range L r h lo hi = record {
    low = cut-le (largest (map least_of L.lower)) x (largest-low L r h) lo;
    high = le-cut (smallest (map greatest_of L.upper)) x (smallest-high L r h) hi;
  }

in-ranges-from : (N : List Loop) (rs : List Range) (outer y : List ℤ) → All Runs N → InRanges rs outer → Inside N outer y → Within 32767 y
    → InRanges (ranges_from rs N) (outer ++ y)
unfolding ranges_from
in-ranges-from [] rs outer [] r h i w = rw (append-nil outer) h
in-ranges-from [] rs outer (x ∷ y) r h i w = absurd i
in-ranges-from (L ∷ N) rs outer [] r h i w = absurd i
in-ranges-from (L ∷ N) rs outer (x ∷ y) r h i w =
    let s = size-le x 32767 w.0 in
    let k = in-range rs outer h x L (r L (Memᴰ.head refl)) i.0 s.0 s.1 in
    subst (InRanges (ranges_from (rs ++ (range_of rs L ∷ [])) N)) (append_assoc outer (x ∷ []) y)
    (in-ranges-from N (rs ++ (range_of rs L ∷ [])) (outer ++ (x ∷ [])) y (λ M m. r M (Memᴰ.tail m))
    (ranges-append rs (range_of rs L ∷ []) outer (x ∷ []) h (k, tt)) i.1 w.1)

-- every index of an iteration is in its loop's range
pub in-ranges : (N : List Loop) (p : List ℤ) → All Runs N → Inside N [] p → Within 32767 p → InRanges (ranges N) p
unfolding ranges
in-ranges N p r i w = in-ranges-from N [] [] p r tt i w

pub range-filled : {r : Range} (rs : List Range) (xs : List ℤ) → InRanges rs xs → Mem r rs → r.least ≤ℤ r.greatest
range-filled {r = r} [] xs h m = elim m [ ]
range-filled (s ∷ rs) [] h m = absurd h
range-filled (s ∷ rs) (x ∷ xs) h (Memᴰ.head e) = rw e (≤ℤ-trans h.0.low h.0.high)
range-filled (s ∷ rs) (x ∷ xs) h (Memᴰ.tail m) = range-filled rs xs h.1 m
