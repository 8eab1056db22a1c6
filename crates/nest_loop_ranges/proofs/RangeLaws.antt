-- The ranges of a nest, loop by loop: a loop's range from those outside it, then the array with one range more.
use mathlib.Core.Path.{◌≡◌, refl, sym, ◌∙◌, ap, subst}
use mathlib.Core.List.{List, [], ◌∷◌, ◌++◌, map, map-append}
use Prim.Native.Nat.{ℕ, zero, suc, ◌+◌, ◌*◌, ◌≤◌, ◌<◌}
use native.Mathlib.Omega.{arith}
use native.Mathlib.Numerals.{add-one}
use lib.IntN.{ℤ}
use lib.ListN.{length, get_or, take, set, length-set}
use lib.Seq.{take-suc-set}
use Rattle.integers.specs.Difference.{size}
use Rattle.model.specs.Ticket.{Loop}
use Rattle.model.specs.Quick as Model
use Rattle.model.specs.Quick.{cut, range_of, ranges_from, ranges}
use Rattle.nest_flat.specs.Flat.{NestOk, loop_at, loops_from}
use Rattle.nest_index_range.specs.declared.Side.{Side}
use Rattle.nest_index_range.specs.declared.Side.TheVariants.{Lower, Upper}
use Rattle.nest_index_range.specs.Sides.{place}
use Rattle.nest_index_range.proofs.LimitLaws.{copied}
use Rattle.nest_points.proofs.DepthLaws.{nest-part}
use Rattle.nest_loop_ranges.specs.declared.Range.{Range}
use Rattle.nest_loop_ranges.specs.Ranges.{range_as, ranges_of, NearRange, NearRanges}
use Rattle.nest_loop_ranges.specs.Extremes.{end_of}
use Rattle.nest_loop_ranges.specs.Values.{extreme_from, range_at, SideIn, LoopIn, RangesAre}
use Rattle.nest_loop_ranges.proofs.TermLaws.{copy}

-- ---- one loop

lower-place : (k : ℕ) → k * 2 * 16 ≡ k * 32
lower-place k = omega arith

upper-place : (k : ℕ) → (k * 2 + 1) * 16 ≡ k * 32 + 16
upper-place k = omega arith

module _ (s : List ℤ) (c : List ℕ) (k : ℕ) (b : List Range) (p : LoopIn s c k b) where
  lower_in : SideIn s (k * 32) (get_or c (k * 2) 0) k b
  lower_in = let q = p.nest.lower-count k (omega arith) in let f = p.nest.shallow in
      record {
        words = p.nest.words;
        small = p.nest.small;
        some = q.0;
        inside = omega arith;
        positive = p.nest.lower-positive k
            (omega arith);
        outside = p.outside;
      }

  upper_in : SideIn s (k * 32 + 16) (get_or c (k * 2 + 1) 0) k b
  upper_in = let q = p.nest.upper-count k (omega arith) in let f = p.nest.shallow in
      record {
        words = p.nest.words;
        small = p.nest.small;
        some = q.0;
        inside = omega arith;
        positive = p.nest.upper-positive k
            (omega arith);
        outside = p.outside;
      }

  side_at : (d : Side) → SideIn s (place d k * 16) (get_or c (place d k) 0) k b
  side_at Lower = let e = sym (lower-place k) in rw e at lower_in
  side_at Upper = let e = sym (upper-place k) in rw e at upper_in

  -- where the code finds a side
  pub side-in : (d : Side) {p : ℕ} → p ≡ place d k → SideIn s (p * 16) (get_or c p 0) k b
  side-in d e = rw e (side_at d)

module _ (s : List ℤ) (c : List ℕ) (k : ℕ) (rs : List Model.Range) where
  cut-is : (d : Side) {x r : ℤ} → x ≡ extreme_from d s k (place d k * 16) (get_or c (place d k) 0) rs → r ≡ cut x → r ≡ end_of d (range_of rs (loop_at s c k))
  unfolding range_of loop_at extreme_from
  cut-is Lower e f = let g = lower-place k in f ∙ ap cut (rw g at e)
  cut-is Upper e f = let g = upper-place k in f ∙ ap cut (rw g at e)

  pub extreme-cut : (d : Side) {p : ℕ} {x r : ℤ} → p ≡ place d k → x ≡ extreme_from d s k (p * 16) (get_or c p 0) rs → r ≡ cut x
      → r ≡ end_of d (range_of rs (loop_at s c k))
  extreme-cut d g e f = cut-is d (rw g at e) f

-- ---- one loop more

loops-snoc : (s : List ℤ) (c : List ℕ) (k n : ℕ) → loops_from s c k (suc n) ≡ loops_from s c k n ++ (loop_at s c (k + n) ∷ [])
unfolding loops_from
loops-snoc s c k zero = ap (λ (m : ℕ). loop_at s c m ∷ []) (omega arith)
loops-snoc s c k (suc n) = ap (loop_at s c k ∷◌) (loops-snoc s c (suc k) n
    ∙ ap (λ (m : ℕ). loops_from s c (suc k) n ++ (loop_at s c m ∷ [])) (omega arith))

ranges-snoc : (rs : List Model.Range) (N : List Loop) (L : Loop)
    → ranges_from rs (N ++ (L ∷ [])) ≡ ranges_from rs N ++ (range_of (ranges_from rs N) L ∷ [])
unfolding ranges_from
ranges-snoc rs [] L = refl
ranges-snoc rs (M ∷ N) L = ranges-snoc (rs ++ (range_of rs M ∷ [])) N L

pub ranges_more : (s : List ℤ) (c : List ℕ) (i : ℕ) → ranges (loops_from s c 0 (i + 1)) ≡ ranges (loops_from s c 0 i) ++ (range_at s c i ∷ [])
unfolding ranges range_at
ranges_more s c i =
    ap (λ (n : ℕ). ranges_from [] (loops_from s c 0 n)) (add-one i) ∙ ap (ranges_from []) (loops-snoc s c 0 i)
    ∙ ranges-snoc [] (loops_from s c 0 i) (loop_at s c (0 + i))
    ∙ ap (λ (m : ℕ). ranges_from [] (loops_from s c 0 i) ++ (range_of (ranges_from [] (loops_from s c 0 i)) (loop_at s c m) ∷ [])) (omega arith)

-- ---- the array with one range more

held_more : (i : ℕ) (b : List Range) (r : Range) → i < length b → ranges_of (i + 1) (set b i r) ≡ ranges_of i b ++ (range_as r ∷ [])
unfolding ranges_of
held_more i b r h = ap (λ (n : ℕ). map range_as (take n (set b i r))) (add-one i) ∙ ap (map range_as) (take-suc-set b i r h)
    ∙ map-append range_as (take i b) (r ∷ [])

near-more : (rs : List Model.Range) (r : Model.Range) → NearRanges rs → NearRange r → NearRanges (rs ++ (r ∷ []))
near-more [] r n m = (m, tt)
near-more (x ∷ rs) r n m = (n.0, near-more rs r n.1 m)

pub none-held : (s : List ℤ) (c : List ℕ) (b : List Range) → length b ≡ 6 → RangesAre s c 0 b
unfolding ranges_of ranges ranges_from loops_from
none-held s c b h = record { are = refl; held = record { six = h; few = omega arith; near = tt } }

-- the range that the code makes of the two values of loop i
pub range-made : (s : List ℤ) (c : List ℕ) (i : ℕ) (x y : ℤ) → (x ≡ (range_at s c i).least) × (size x ≤ 32767) → (y ≡ (range_at s c i).greatest)
    × (size y ≤ 32767)
    → (range_as (record { least = copy x; greatest = copy y }) ≡ range_at s c i) × NearRange (record { least = copy x; greatest = copy y })
range-made s c i x y l g =
    let a : copy x ≡ x = (let z = l.1 in copied x (omega arith)) in
    let d : copy y ≡ y = (let z = g.1 in copied y (omega arith)) in
    (rw (a, d, l.0, g.0), record { low = rw a l.1; high = rw d g.1 })

pub more-held : (s : List ℤ) (c : List ℕ) (i : ℕ) (b : List Range) (x y : ℤ) → i < 6 → RangesAre s c i b → (x ≡ (range_at s c i).least)
    × (size x ≤ 32767) → (y ≡ (range_at s c i).greatest) × (size y ≤ 32767)
    → RangesAre s c (i + 1) (set b i (record { least = copy x; greatest = copy y }))
more-held s c i b x y h p l g =
    let r : Range = record { least = copy x; greatest = copy y } in
    let m = range-made s c i x y l g in
    let six = p.held.six in
    let e : ranges_of (i + 1) (set b i r) ≡ ranges_of i b ++ (range_as r ∷ []) = held_more i b r (omega arith) in
    record {
      are = e ∙ rw (m.0, p.are) (sym (ranges_more s c i));
      held = record { six = length-set b i r ∙ six; few = omega arith; near = rw e (near-more (ranges_of i b) (range_as r) p.held.near m.1) };
    }

-- ---- the value of a loop

module _ (s : List ℤ) (c : List ℕ) (k i : ℕ) (b : List Range) (q : NestOk s c (suc k)) (p : RangesAre s c i b) (h : i ≡ k) where
  all_held : RangesAre s c k b
  all_held = subst (λ (n : ℕ). RangesAre s c n b) h p

  pub loop-in : LoopIn s c k b
  loop-in = record { nest = q; outside = all_held.held }

  pub extreme-at : (d : Side) {r : ℤ} → r ≡ end_of d (range_of (ranges_of k b) (loop_at s c k)) → r ≡ end_of d (range_at s c k)
  unfolding range_at
  extreme-at d e = e ∙ rw all_held.are

pub loops-before : (s : List ℤ) (c : List ℕ) (n i : ℕ) → NestOk s c n → i < n → NestOk s c (suc i)
loops-before s c n i p h = nest-part s c n (suc i) p (omega arith)
