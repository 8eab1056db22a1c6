-- Where no range was cut, the points of a nest are in the box of its ranges: a range first, then every index of a point in its loop's range,
-- then no more points than the box has. So a compact box shows that the nest passes refusal 13.
use mathlib.Core.Path.{◌≡◌, refl, sym, ◌∙◌, ap, subst}
use mathlib.Core.List.Memᴰ
use mathlib.Core.List.{List, [], ◌∷◌, ◌++◌, map, append_assoc, append-nil}
use Prim.Native.Nat.{ℕ, zero, suc, ◌≤◌}
use native.Mathlib.Omega.{arith}
use native.Mathlib.Nat.{le_trans, mul-le-mul_right}
use lib.IntN.{◌+ℤ◌, ℤ, pos, negsuc, nat_abs}
use lib.Signed.{lt_z, ◌≤ℤ◌, ◌<ℤ◌, ≤ℤ_refl, <ℤ_irrefl}
use lib.ListN.{length, take, length-map}
use Rattle.integers.proofs.RingLaws.{zarith, ≤ℤ-trans}
use Rattle.integers.proofs.RangeLaws.{size_of, size-nat_abs}
use Rattle.lists.specs.Membership.{All}
use Rattle.lists.proofs.MembershipLaws.{all_take, distinct-fits}
use Rattle.lists.proofs.OrderLaws.{ordered-distinct}
use Rattle.lists.proofs.FlatMapLaws.{length-flat_map-most}
use Rattle.lists.proofs.TestLaws.{cond_cases}
use Rattle.model.specs.Answer.{accepted}
use Rattle.model.specs.Ticket.{Loop}
use Rattle.model.specs.Points.{max_z, min_z, ints, indices, points, partial_points}
use Rattle.model.specs.Bounds.{last_of, new_space}
use Rattle.model.specs.Inside.{InLimits, Inside}
use Rattle.model.specs.Shape.{Runs}
use Rattle.model.specs.Quick.{Range, cut, range_of, ranges_from, ranges, Contains, InRanges}
use Rattle.model.specs.Reasons.{Passes}
use Rattle.model.proofs.Points.LoopLaws.{max-iff, min-iff, mem-ints, span-iff, indices-inside, indices-rise}
use Rattle.model.proofs.Points.PointLaws.{partial-inside}
use Rattle.model.proofs.Points.BoundLaws.{accepted-survey}
use Rattle.model.proofs.Quick.QuickRangeLaws.{ranges-append, largest-low, smallest-high}
use Rattle.nest_loop_ranges.specs.declared.Range as Held
use Rattle.nest_loop_ranges.specs.Ranges.{ranges_of}
use Rattle.nest_loop_ranges.specs.Values.{RangesAre}
use Rattle.nest_flat.specs.FlatNests.{FlatNest, nest_of, FlatNestIn}
use Rattle.nest_flat.proofs.FlatNestLaws.{loops-run}
use Rattle.nest_bounding_box.specs.Boxes.{width, volume, Unclamped, Compact}

-- ---- a range that was not cut

unclamped-low : (y x : ℤ) → y ≤ℤ x → negsuc 32766 <ℤ cut y → cut y ≤ℤ x
unfolding cut max_z
unclamped-low y x h = let m = min_z (pos 32767) y in cond_cases (λ z. negsuc 32766 <ℤ z → z ≤ℤ x) (lt_z m (negsuc 32766)) (negsuc 32766) m
    (λ e k. absurd (<ℤ_irrefl {a = negsuc 32766} k)) (λ e k. ≤ℤ-trans ((min-iff (pos 32767) y m).0 (≤ℤ_refl m)).1 h)

unclamped-high : (y x : ℤ) → x ≤ℤ y → cut y <ℤ pos 32767 → x ≤ℤ cut y
unfolding cut min_z
unclamped-high y x h = cond_cases (λ m. m ≤ℤ cut y → cut y <ℤ pos 32767 → x ≤ℤ cut y) (lt_z (pos 32767) y) (pos 32767) y
    (λ e l k. absurd (omega zarith)) (λ e l k. ≤ℤ-trans h l)
    ((max-iff (negsuc 32766) (min_z (pos 32767) y) (cut y)).0 (≤ℤ_refl (cut y))).1

length-ints : (a : ℤ) (n : ℕ) → length (ints a n) ≡ n
unfolding ints
length-ints a zero = refl
length-ints a (suc n) = ap suc (length-ints (a +ℤ pos 1) n)

module _ (rs : List Range) (outer : List ℤ) (inn : InRanges rs outer) (L : Loop) (r : Runs L) (u : Unclamped (range_of rs L)) where
  index_in : (x : ℤ) → InLimits L outer x → Contains (range_of rs L) x
  unfolding range_of
  index_in x h = record {
    low = unclamped-low _ x (largest-low rs outer inn x L r h) u.low;
    high = unclamped-high _ x
        (smallest-high rs outer inn x L r h) u.high;
  }

  -- they are distinct members of the range
  few-indices : length (indices L outer) ≤ width (range_of rs L)
  unfolding width
  few-indices =
      let a = (range_of rs L).least in let b = (range_of rs L).greatest in let n = width (range_of rs L) in
      let h = distinct-fits (indices L outer) (ints a n) (ordered-distinct ◌<ℤ◌ (λ x. <ℤ_irrefl {a = x}) (indices L outer) (indices-rise L outer))
      (λ x m. let k = index_in x ((indices-inside L r outer x).0 m) in mem-ints a n x k.low ((span-iff a b x k.low).0 k.high)) in
      omega (arith, h, length-ints a n)

-- ---- the loops N inside those of rs

-- their ranges alone
unfoldable inner : List Range → List Loop → List Range
inner rs [] = []
inner rs (L ∷ N) = range_of rs L ∷ inner (rs ++ (range_of rs L ∷ [])) N

inner-from : (rs : List Range) (N : List Loop) → ranges_from rs N ≡ rs ++ inner rs N
unfolding ranges_from inner
inner-from rs [] = sym (append-nil rs)
inner-from rs (L ∷ N) = inner-from (rs ++ (range_of rs L ∷ [])) N ∙ append_assoc rs (range_of rs L ∷ []) (inner (rs ++ (range_of rs L ∷ [])) N)

inner-take : (k : ℕ) (rs : List Range) (N : List Loop) → inner rs (take k N) ≡ take k (inner rs N)
unfolding inner
inner-take zero rs N = refl
inner-take (suc k) rs [] = refl
inner-take (suc k) rs (L ∷ N) = ap (range_of rs L ∷◌) (inner-take k (rs ++ (range_of rs L ∷ [])) N)

inside-box : (N : List Loop) (rs : List Range) (outer y : List ℤ) → All Runs N → All Unclamped (inner rs N) → InRanges rs outer → Inside N outer y
    → InRanges (inner rs N) y
unfolding inner
inside-box [] rs outer [] r u h i = tt
inside-box [] rs outer (x ∷ y) r u h i = absurd i
inside-box (L ∷ N) rs outer [] r u h i = absurd i
inside-box (L ∷ N) rs outer (x ∷ y) r u h i =
    let k = index_in rs outer h L (r L (Memᴰ.head refl)) (u (range_of rs L) (Memᴰ.head refl)) x i.0 in (
      k,
      inside-box N (rs ++ (range_of rs L ∷ [])) (outer ++ (x ∷ [])) y (λ M m. r M (Memᴰ.tail m)) (λ s m. u s (Memᴰ.tail m))
          (ranges-append rs (range_of rs L ∷ []) outer (x ∷ []) h (k, tt)) i.1,
    )

points-few : (N : List Loop) (rs : List Range) (outer : List ℤ) → All Runs N → All Unclamped (inner rs N) → InRanges rs outer
    → length (points N outer) ≤ volume (inner rs N)
unfolding points inner volume
points-few [] rs outer r u h = omega arith
points-few (L ∷ N) rs outer r u h =
    let s = r L (Memᴰ.head refl) in let v = u (range_of rs L) (Memᴰ.head refl) in
    let t = inner (rs ++ (range_of rs L ∷ [])) N in
    le_trans (length-flat_map-most (λ i. map (λ y. i ∷ y) (points N (outer ++ (i ∷ [])))) (volume t) (indices L outer)
    (λ i m. let k = index_in rs outer h L s v i ((indices-inside L s outer i).0 m) in rw length-map
    (points-few N (rs ++ (range_of rs L ∷ [])) (outer ++ (i ∷ [])) (λ M m. r M (Memᴰ.tail m)) (λ s m. u s (Memᴰ.tail m))
    (ranges-append rs (range_of rs L ∷ []) outer (i ∷ []) h (k, tt)))))
    (mul-le-mul_right (volume t) (few-indices rs outer h L s v))

-- ---- refusal 13

index-near : (r : Range) (x : ℤ) → Unclamped r → Contains r x → nat_abs x ≤ 100000
index-near r x u h = let a = u.low in let b = u.high in let c = h.low in let d = h.high in
    omega (arith, size-nat_abs x, size_of x 32767 (omega zarith) (omega zarith))

last-near : (rs : List Range) (y : List ℤ) → All Unclamped rs → InRanges rs y → nat_abs (last_of y) ≤ 100000
unfolding last_of
last-near rs [] u h = omega arith
last-near [] (x ∷ y) u h = absurd h
last-near (r ∷ rs) (x ∷ []) u h = index-near r x (u r (Memᴰ.head refl)) h.0
last-near (r ∷ rs) (x ∷ z ∷ y) u h = last-near rs (z ∷ y) (λ s m. u s (Memᴰ.tail m)) h.1

module _ (N : List Loop) (r : All Runs N) (c : Compact (ranges N)) where
  box-at : (k : ℕ) → take k (ranges N) ≡ inner [] (take k N)
  unfolding ranges
  box-at k = ap (take k) (inner-from [] N) ∙ sym (inner-take k [] N)

  unclamped-at : (k : ℕ) → All Unclamped (inner [] (take k N))
  unclamped-at k = subst (All Unclamped) (box-at k) (all_take Unclamped k (ranges N) c.unclamped)

  passes : (k : ℕ) → Passes 100000 65536 N k
  unfolding partial_points
  passes k = record {
    near = λ y m. last-near (inner [] (take k N)) y (unclamped-at k) (inside-box (take k N) [] [] y (all_take Runs k N r) (unclamped-at k) tt
        ((partial-inside k N r y).0 m));
    few = le_trans (points-few (take k N) [] [] (all_take Runs k N r) (unclamped-at k) tt) (subst (λ rs. volume rs ≤ 65536) (box-at k) (c.few k));
  }

  pub compact-new-space : new_space N ≡ accepted tt
  unfolding new_space
  compact-new-space = accepted-survey 13 13 100000 65536 N 1 (length N) (λ k _ _. passes k)

-- ---- on a flat nest

pub flat-nest-compact : (P : FlatNest) → FlatNestIn P → (b : List Held.Range) → RangesAre P.limits P.counts P.depth b
    → Compact (ranges_of P.depth b) → new_space (nest_of P).loops ≡ accepted tt
unfolding nest_of
flat-nest-compact P s b q c = compact-new-space (nest_of P).loops (loops-run P s) (subst Compact q.are c)
