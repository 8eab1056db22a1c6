-- Loops laid over words and counts. In order: one more; what stays; a loop that is laid (`Laid`), which later ones leave, then all;
-- what `nest_points` asks of the nest.
use mathlib.Core.Path.{◌≡◌, refl, sym, ap, ◌∙◌}
use mathlib.Core.List.Memᴰ
use mathlib.Core.List.{List, [], ◌∷◌, ◌++◌}
use Prim.Native.Nat.{ℕ, suc, ◌+◌, ◌*◌, ◌≤◌, ◌<◌}
use native.Mathlib.Omega.{arith}
use native.Mathlib.Nat.{add-zero}
use lib.IntN.{ℤ}
use lib.ListN.{length, get_or, take, set, length-set}
use lib.Seq.{get_or-set_same, get_or-set_other, take-set-le}
use Rattle.lists.specs.Membership.{All}
use Rattle.integers.specs.Affine.{Within}
use Rattle.model.specs.Ticket.{Loop}
use Rattle.model.specs.Shape.{Sized, Shaped}
use Rattle.model.specs.Ranges.{LoopRanges}
use Rattle.model.specs.Grammar.{nest_room}
use Rattle.nest_flat.specs.Flat.{limits_at, Positive}
use Rattle.ticket_loops.specs.Laid.{lay_limits, lay_loop, lay_count, lay_loops, lay_counts}
use Rattle.ticket_loops.proofs.PutLaws.{get_d_front}
use Rattle.ticket_loops.proofs.LimitLaws.{lay-length, lay-front, limits-front, limits-laid, positive-laid, positive-front, lay-within}

-- ---- one more

pub loops-more : (s : List ℤ) (k : ℕ) (N : List Loop) (L : Loop) → lay_loops s k (N ++ (L ∷ [])) ≡ lay_loop (lay_loops s k N) (k + length N) L
unfolding lay_loops
loops-more s k [] L = ap (λ n. lay_loop s n L) (sym (add-zero k))
loops-more s k (M ∷ N) L =
    let e : suc k + length N ≡ k + suc (length N) = omega arith in
    loops-more (lay_loop s k M) (suc k) N L ∙ ap (λ n. lay_loop (lay_loops (lay_loop s k M) (suc k) N) n L) e

pub counts-more : (c : List ℕ) (k : ℕ) (N : List Loop) (L : Loop) → lay_counts c k (N ++ (L ∷ [])) ≡ lay_count (lay_counts c k N) (k + length N) L
unfolding lay_counts
counts-more c k [] L = ap (λ n. lay_count c n L) (sym (add-zero k))
counts-more c k (M ∷ N) L =
    let e : suc k + length N ≡ k + suc (length N) = omega arith in
    counts-more (lay_count c k M) (suc k) N L ∙ ap (λ n. lay_count (lay_counts (lay_count c k M) (suc k) N) n L) e

-- ---- one loop: what stays

module _ (s : List ℤ) (k : ℕ) (L : Loop) (words : length s ≡ nest_room) (shallow : suc k ≤ 6) (sized : Sized k L.lower × Sized k L.upper)
    (ranges : LoopRanges 16 L) where
  low-length : length (lay_limits s (k * 32) L.lower) ≡ length s
  low-length = let h = ranges.few-lower.high in lay-length k (omega arith) s (k * 32) L.lower sized.0 (omega arith)

  pub loop-length : length (lay_loop s k L) ≡ length s
  unfolding lay_loop
  loop-length = let h = ranges.few-upper.high in let n = low-length in
      lay-length k (omega arith) (lay_limits s (k * 32) L.lower) (k * 32 + 16) L.upper sized.1 (omega arith) ∙ n

  high-front : (m : ℕ) → m ≤ (k * 32 + 16) * 8 → take m (lay_loop s k L) ≡ take m (lay_limits s (k * 32) L.lower)
  unfolding lay_loop
  high-front m g = let h = ranges.few-upper.high in let n = low-length in
      lay-front k (omega arith) (lay_limits s (k * 32) L.lower) (k * 32 + 16) L.upper m g sized.1 (omega arith)

  pub loop-front : (m : ℕ) → m ≤ k * 256 → take m (lay_loop s k L) ≡ take m s
  loop-front m g = let h = ranges.few-lower.high in
      high-front m (omega arith) ∙ lay-front k (omega arith) s (k * 32) L.lower m (omega arith) sized.0 (omega arith)

  pub loop-within : Within 32767 s → Within 32767 (lay_loop s k L)
  unfolding lay_loop
  loop-within w = lay-within (lay_limits s (k * 32) L.lower) (k * 32 + 16) L.upper ranges.upper
      (lay-within s (k * 32) L.lower ranges.lower w)

  -- ---- what is read back

  pub lower-back : limits_at (lay_loop s k L) k (k * 32) (length L.lower) ≡ L.lower
  lower-back = let h = ranges.few-lower.high in
      limits-front k (omega arith) ((k * 32 + 16) * 8) (lay_loop s k L) (lay_limits s (k * 32) L.lower) (k * 32) (length L.lower)
      (high-front ((k * 32 + 16) * 8) (omega arith)) (omega arith)
      ∙ limits-laid k (omega arith) s (k * 32) L.lower sized.0 (omega arith)

  pub upper-back : limits_at (lay_loop s k L) k (k * 32 + 16) (length L.upper) ≡ L.upper
  unfolding lay_loop
  upper-back = let h = ranges.few-upper.high in let n = low-length in
      limits-laid k (omega arith) (lay_limits s (k * 32) L.lower) (k * 32 + 16) L.upper sized.1 (omega arith)

  pub lower-positive : Positive (lay_loop s k L) (k * 32) (length L.lower)
  lower-positive = let h = ranges.few-lower.high in
      positive-front ((k * 32 + 16) * 8) (lay_loop s k L) (lay_limits s (k * 32) L.lower) (k * 32) (length L.lower)
      (high-front ((k * 32 + 16) * 8) (omega arith)) (omega arith)
      (positive-laid k (omega arith) s (k * 32) L.lower sized.0 ranges.lower (omega arith))

  pub upper-positive : Positive (lay_loop s k L) (k * 32 + 16) (length L.upper)
  unfolding lay_loop
  upper-positive = let h = ranges.few-upper.high in let n = low-length in
      positive-laid k (omega arith) (lay_limits s (k * 32) L.lower) (k * 32 + 16) L.upper sized.1 ranges.upper (omega arith)

module _ (c : List ℕ) (k : ℕ) (L : Loop) where
  pub count-length : length (lay_count c k L) ≡ length c
  unfolding lay_count
  count-length = simp length-set

  pub count-front : (m : ℕ) → m ≤ k * 2 → take m (lay_count c k L) ≡ take m c
  unfolding lay_count
  count-front m h = take-set-le m (set c (k * 2) (length L.lower)) (k * 2 + 1) (length L.upper) (omega arith)
      ∙ take-set-le m c (k * 2) (length L.lower) h

  pub lower-count : k * 2 + 1 < length c → get_or (lay_count c k L) (k * 2) 0 ≡ length L.lower
  unfolding lay_count
  lower-count h = get_or-set_other (set c (k * 2) (length L.lower)) (k * 2 + 1) (k * 2) (length L.upper) 0 (λ e. omega arith)
      ∙ get_or-set_same c (k * 2) (length L.lower) 0 (omega arith)

  pub upper-count : k * 2 + 1 < length c → get_or (lay_count c k L) (k * 2 + 1) 0 ≡ length L.upper
  unfolding lay_count
  upper-count h = get_or-set_same (set c (k * 2) (length L.lower)) (k * 2 + 1) (length L.upper) 0 (simp length-set h)

-- ---- a loop that is laid

pub record Laid (s : List ℤ) (c : List ℕ) (k : ℕ) (L : Loop) : Type 0 where
  pub lower : limits_at s k (k * 32) (length L.lower) ≡ L.lower
  pub upper : limits_at s k (k * 32 + 16) (length L.upper) ≡ L.upper
  pub lower-positive : Positive s (k * 32) (length L.lower)
  pub upper-positive : Positive s (k * 32 + 16) (length L.upper)
  pub lower-count : get_or c (k * 2) 0 ≡ length L.lower
  pub upper-count : get_or c (k * 2 + 1) 0 ≡ length L.upper

-- by slices with one front
laid-front : (s t : List ℤ) (c d : List ℕ) (k : ℕ) (L : Loop) → suc k ≤ 6 → LoopRanges 16 L → take (suc k * 256) s ≡ take (suc k * 256) t
    → take (suc k * 2) c ≡ take (suc k * 2) d → Laid t d k L → Laid s c k L
laid-front s t c d k L h r e f l =
    let p = r.few-lower.high in
    let q = r.few-upper.high in
    record {
      lower = limits-front k (omega arith) (suc k * 256) s t (k * 32) (length L.lower) e (omega arith) ∙ l.lower;
      upper = limits-front k (omega arith) (suc k * 256) s t (k * 32 + 16) (length L.upper) e (omega arith) ∙ l.upper;
      lower-positive = positive-front (suc k * 256) s t (k * 32) (length L.lower) e (omega arith) l.lower-positive;
      upper-positive = positive-front (suc k * 256) s t (k * 32 + 16) (length L.upper) e (omega arith) l.upper-positive;
      lower-count = get_d_front (suc k * 2) c d (k * 2) 0 f (omega arith) ∙ l.lower-count;
      upper-count = get_d_front (suc k * 2) c d (k * 2 + 1) 0 f (omega arith) ∙ l.upper-count;
    }

-- ---- all loops

abbrev pub LaidAll : List ℤ → List ℕ → ℕ → List Loop → Type 0
LaidAll s c k [] = Unit {0}
LaidAll s c k (L ∷ N) = Laid s c k L × LaidAll s c (suc k) N

-- a nest of at most 6 loops, the first of them loop k, in slices of the right lengths
pub record Fit (s : List ℤ) (c : List ℕ) (k : ℕ) (N : List Loop) : Type 0 where
  pub words : length s ≡ nest_room
  pub counts : length c ≡ 12
  pub shallow : k + length N ≤ 6
  pub shaped : Shaped k N
  pub ranges : All (LoopRanges 16) N

module _ (s : List ℤ) (c : List ℕ) (k : ℕ) (L : Loop) (N : List Loop) (f : Fit s c k (L ∷ N)) where
  few : suc k ≤ 6
  few = let h = f.shallow in omega arith

  here : LoopRanges 16 L
  here = f.ranges L (Memᴰ.head refl)

  next-fit : Fit (lay_loop s k L) (lay_count c k L) (suc k) N
  next-fit = let h = f.shallow in record {
    words = loop-length s k L f.words few f.shaped.0 here ∙ f.words;
    counts = count-length c k L ∙ f.counts;
    shallow = omega arith;
    shaped = f.shaped.1;
    ranges = λ x m. f.ranges x (Memᴰ.tail m);
  }

  one-laid : Laid (lay_loop s k L) (lay_count c k L) k L
  one-laid = let n = f.counts in let h = few in record {
    lower = lower-back s k L f.words few f.shaped.0 here;
    upper = upper-back s k L f.words few f.shaped.0 here;
    lower-positive = lower-positive s k L f.words few f.shaped.0 here;
    upper-positive = upper-positive s k L f.words few f.shaped.0 here;
    lower-count = lower-count c k L (omega arith);
    upper-count = upper-count c k L (omega arith);
  }

pub loops-length : (s : List ℤ) (c : List ℕ) (k : ℕ) (N : List Loop) → Fit s c k N → (length (lay_loops s k N) ≡ nest_room)
    × (length (lay_counts c k N) ≡ 12)
unfolding lay_loops lay_counts
loops-length s c k [] f = (f.words, f.counts)
loops-length s c k (L ∷ N) f = loops-length (lay_loop s k L) (lay_count c k L) (suc k) N (next-fit s c k L N f)

loops-front : (s : List ℤ) (c : List ℕ) (k : ℕ) (N : List Loop) → Fit s c k N → (m : ℕ) → m ≤ k * 256 → take m (lay_loops s k N) ≡ take m s
unfolding lay_loops
loops-front s c k [] f m h = refl
loops-front s c k (L ∷ N) f m h =
    loops-front (lay_loop s k L) (lay_count c k L) (suc k) N (next-fit s c k L N f) m (omega arith)
    ∙ loop-front s k L f.words (few s c k L N f) f.shaped.0 (here s c k L N f) m h

counts-front : (c : List ℕ) (k : ℕ) (N : List Loop) (m : ℕ) → m ≤ k * 2 → take m (lay_counts c k N) ≡ take m c
unfolding lay_counts
counts-front c k [] m h = refl
counts-front c k (L ∷ N) m h = counts-front (lay_count c k L) (suc k) N m (omega arith) ∙ count-front c k L m h

pub loops-within : (s : List ℤ) (c : List ℕ) (k : ℕ) (N : List Loop) → Fit s c k N → Within 32767 s → Within 32767 (lay_loops s k N)
unfolding lay_loops
loops-within s c k [] f w = w
loops-within s c k (L ∷ N) f w =
    loops-within (lay_loop s k L) (lay_count c k L) (suc k) N (next-fit s c k L N f)
    (loop-within s k L f.words (few s c k L N f) f.shaped.0 (here s c k L N f) w)

pub loops-laid : (s : List ℤ) (c : List ℕ) (k : ℕ) (N : List Loop) → Fit s c k N → LaidAll (lay_loops s k N) (lay_counts c k N) k N
unfolding lay_loops lay_counts
loops-laid s c k [] f = tt
loops-laid s c k (L ∷ N) f =
    let g = next-fit s c k L N f in (
      laid-front (lay_loops (lay_loop s k L) (suc k) N) (lay_loop s k L) (lay_counts (lay_count c k L) (suc k) N) (lay_count c k L) k L (few s c k L N f)
          (here s c k L N f)
          (loops-front (lay_loop s k L) (lay_count c k L) (suc k) N g (suc k * 256) (omega arith))
          (counts-front (lay_count c k L) (suc k) N (suc k * 2) (omega arith))
          (one-laid s c k L N f),
      loops-laid (lay_loop s k L) (lay_count c k L) (suc k) N g,
    )
