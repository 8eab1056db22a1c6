-- Loops that are laid are read back, and are a nest that `nest_points` takes.
use mathlib.Core.Path.{◌≡◌, refl, ap₂, subst}
use mathlib.Core.List.Memᴰ
use mathlib.Core.List.{List, [], ◌∷◌}
use Prim.Native.Nat.{ℕ, zero, suc, ◌+◌, ◌*◌, ◌≤◌, ◌<◌}
use native.Mathlib.Omega.{arith}
use native.Mathlib.Nat.{zero-add}
use lib.IntN.{ℤ}
use lib.ListN.{length, get_or}
use Rattle.lists.specs.Membership.{Mem}
use Rattle.integers.specs.Affine.{Within}
use Rattle.model.specs.Ticket.{Limit, Loop}
use Rattle.model.specs.Ranges.{LoopRanges}
use Rattle.nest_flat.specs.Flat.{limits_at, loop_at, loops_from, Positive, NestOk}
use Rattle.ticket_loops.specs.Laid.{lay_loops, lay_counts}
use Rattle.ticket_loops.proofs.LoopLaws.{Laid, LaidAll, Fit, loops-length, loops-within, loops-laid}

by-sides : (l m : List Limit) (L : Loop) → l ≡ L.lower → m ≡ L.upper → ◌≡◌ {A = Loop} (record { lower = l; upper = m }) L
by-sides l m L p q = rw (p, q)

loop-back : (s : List ℤ) (c : List ℕ) (k : ℕ) (L : Loop) → Laid s c k L → loop_at s c k ≡ L
unfolding loop_at
loop-back s c k L l =
    by-sides (limits_at s k (k * 32) (get_or c (k * 2) 0)) (limits_at s k (k * 32 + 16) (get_or c (k * 2 + 1) 0)) L (rw l.lower-count l.lower)
    (rw l.upper-count l.upper)

loops-back : (s : List ℤ) (c : List ℕ) (k : ℕ) (N : List Loop) → LaidAll s c k N → loops_from s c k (length N) ≡ N
unfolding loops_from
loops-back s c k [] l = refl
loops-back s c k (L ∷ N) l = ap₂ ◌∷◌ (loop-back s c k L l.0) (loops-back s c (suc k) N l.1)

-- loop i of those that are laid
laid-at : (s : List ℤ) (c : List ℕ) (k : ℕ) (N : List Loop) → LaidAll s c k N → (i : ℕ) → i < length N → (L : Loop) × Mem L N × Laid s c (k + i) L
laid-at s c k [] l i h = absurd (omega arith)
laid-at s c k (L ∷ N) l zero h = let e : k ≡ k + 0 = omega arith in (L, Memᴰ.head refl, subst (λ (n : ℕ). Laid s c n L) e l.0)
laid-at s c k (L ∷ N) l (suc i) h =
    let e : suc k + i ≡ k + suc i = omega arith in
    let r = laid-at s c (suc k) N l.1 i (omega arith) in
    (r.0, Memᴰ.tail r.1, subst (λ (n : ℕ). Laid s c n r.0) e r.2)

-- what `nest_points` asks of loop k
record Sound (s : List ℤ) (c : List ℕ) (k : ℕ) : Type 0 where
  lower-count : (1 ≤ get_or c (k * 2) 0) × (get_or c (k * 2) 0 ≤ 16)
  upper-count : (1 ≤ get_or c (k * 2 + 1) 0) × (get_or c (k * 2 + 1) 0 ≤ 16)
  lower-positive : Positive s (k * 32) (get_or c (k * 2) 0)
  upper-positive : Positive s (k * 32 + 16) (get_or c (k * 2 + 1) 0)

sound : (s : List ℤ) (c : List ℕ) (k : ℕ) (L : Loop) → LoopRanges 16 L → Laid s c k L → Sound s c k
sound s c k L r l = let p = r.few-lower in let q = r.few-upper in let e = l.lower-count in let f = l.upper-count in record {
  lower-count = (omega arith, omega arith);
  upper-count = (omega arith, omega arith);
  lower-positive = rw e l.lower-positive;
  upper-positive = rw f l.upper-positive;
}

module _ (s : List ℤ) (c : List ℕ) (N : List Loop) (f : Fit s c 0 N) (w : Within 32767 s) where
  all_laid : LaidAll (lay_loops s 0 N) (lay_counts c 0 N) 0 N
  all_laid = loops-laid s c 0 N f

  each-sound : (k : ℕ) → k < length N → Sound (lay_loops s 0 N) (lay_counts c 0 N) k
  each-sound k h =
      let r = laid-at (lay_loops s 0 N) (lay_counts c 0 N) 0 N all_laid k h in
      sound (lay_loops s 0 N) (lay_counts c 0 N) k r.0 (f.ranges r.0 r.1)
      (subst (λ (n : ℕ). Laid (lay_loops s 0 N) (lay_counts c 0 N) n r.0) (zero-add k) r.2)

  pub nest_back : loops_from (lay_loops s 0 N) (lay_counts c 0 N) 0 (length N) ≡ N
  nest_back = loops-back (lay_loops s 0 N) (lay_counts c 0 N) 0 N all_laid

  pub nest-ok : NestOk (lay_loops s 0 N) (lay_counts c 0 N) (length N)
  nest-ok = let h = f.shallow in record {
    words = (loops-length s c 0 N f).0;
    counts = (loops-length s c 0 N f).1;
    shallow = omega arith;
    small = loops-within s c 0 N f w;
    lower-count = λ k g. (each-sound k g).lower-count;
    upper-count = λ k g. (each-sound k g).upper-count;
    lower-positive = λ k g. (each-sound k g).lower-positive;
    upper-positive = λ k g. (each-sound k g).upper-positive;
  }

pub ranges_more : {m n : ℕ} (L : Loop) → m ≤ n → LoopRanges m L → LoopRanges n L
ranges_more L h r = let p = r.few-lower in let q = r.few-upper in
    record {
      few-lower = record { low = p.low; high = omega arith };
      few-upper = record { low = q.low; high = omega arith };
      lower = r.lower;
      upper = r.upper;
    }
