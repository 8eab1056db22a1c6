-- Loops that flat slices hold, each well-formed (`Held`): one whose words stand as they did, several in a row, a whole nest.
use mathlib.Core.Path.{◌≡◌, refl, sym, ap₂, ◌∙◌, subst}
use mathlib.Core.List.{List, [], ◌∷◌, ◌++◌, map, map-id}
use Prim.Native.Nat.{ℕ, zero, suc, ◌+◌, ◌*◌, ◌≤◌, ◌<◌}
use native.Mathlib.Omega.{arith}
use native.Mathlib.Nat.{add-zero}
use lib.IntN.{ℤ, pos}
use lib.ListN.{length, get_or}
use Rattle.integers.specs.Affine.{Within}
use Rattle.model.specs.Ticket.{Loop}
use Rattle.model.specs.Grammar.{most_sides, nest_room}
use Rattle.nest_flat.specs.Flat.{loop_at, loops_from, NestOk}
use Rattle.step_limits.specs.Words.{LoopOk}
use Rattle.step_changes.proofs.LoopLaws.{loop-same, ok_same}

-- ---- one loop

pub record Held (s : List ℤ) (c : List ℕ) (k : ℕ) (L : Loop) : Type 0 where
  pub made : loop_at s c k ≡ L
  pub ok : LoopOk s c k

pub ok_at : (s : List ℤ) (c : List ℕ) (depth k : ℕ) → NestOk s c depth → k < depth → LoopOk s c k
ok_at s c depth k o h = record {
  lower-count = o.lower-count k h;
  upper-count = o.upper-count k h;
  lower-positive = o.lower-positive k h;
  upper-positive = o.upper-positive k h;
}

pub held-there : (s : List ℤ) (c : List ℕ) (k : ℕ) → LoopOk s c k → Held s c k (loop_at s c k)
held-there s c k o = record { made = refl; ok = o }

-- its words and counts stand as they did
pub held_kept : (s t : List ℤ) (c d : List ℕ) (k : ℕ) (L : Loop) → length s ≡ nest_room → length t ≡ length s → k < 6
    → ((p : ℕ) → k * 256 ≤ p → p < k * 256 + 256 → get_or t p (pos 0) ≡ get_or s p (pos 0))
    → ((p : ℕ) → k * 2 ≤ p → p < k * 2 + 2 → get_or d p 0 ≡ get_or c p 0) → Held s c k L → Held t d k L
held_kept s t c d k L e n h f g o = record { made = loop-same s t c d k e n h o.ok f g ∙ o.made; ok = ok_same s t c d k e n h o.ok f g }

-- ---- loops in a row

abbrev pub HeldAll : List ℤ → List ℕ → ℕ → List Loop → Type 0
HeldAll s c k [] = Unit {0}
HeldAll s c k (L ∷ N) = Held s c k L × HeldAll s c (suc k) N

pub held-append : (s : List ℤ) (c : List ℕ) (k : ℕ) (xs ys : List Loop) → HeldAll s c k xs → HeldAll s c (k + length xs) ys → HeldAll s c k (xs ++ ys)
held-append s c k [] ys f g = subst (λ (i : ℕ). HeldAll s c i ys) (add-zero k) g
held-append s c k (x ∷ xs) ys f g =
    let e : k + suc (length xs) ≡ suc k + length xs = omega arith in
    (f.0, held-append s c (suc k) xs ys f.1 (subst (λ (i : ℕ). HeldAll s c i ys) e g))

pub held-map : (f : Loop → Loop) (s t : List ℤ) (c d : List ℕ) (j k n : ℕ) → ((i : ℕ) → i < n → Held t d (k + i) (f (loop_at s c (j + i))))
    → HeldAll t d k (map f (loops_from s c j n))
unfolding loops_from
held-map f s t c d j k zero h = tt
held-map f s t c d j k (suc n) h = (
  subst (λ (i : ℕ). Held t d i (f (loop_at s c j))) (add-zero k) (subst (λ (i : ℕ). Held t d (k + 0) (f (loop_at s c i))) (add-zero j)
      (h 0 (omega arith))),
  held-map f s t c d (suc j) (suc k) n (λ i g.
      let a : k + suc i ≡ suc k + i = omega arith in
      let b : j + suc i ≡ suc j + i = omega arith in
      subst (λ (x : ℕ). Held t d x (f (loop_at s c (suc j + i)))) a (subst (λ (x : ℕ). Held t d (k + suc i) (f (loop_at s c x))) b
      (h (suc i) (omega arith)))),
)

pub held-run : (s t : List ℤ) (c d : List ℕ) (j k n : ℕ) → ((i : ℕ) → i < n → Held t d (k + i) (loop_at s c (j + i)))
    → HeldAll t d k (loops_from s c j n)
held-run s t c d j k n h = subst (HeldAll t d k) (map-id (loops_from s c j n)) (held-map (λ L. L) s t c d j k n h)

held_back : (s : List ℤ) (c : List ℕ) (k : ℕ) (N : List Loop) → HeldAll s c k N → loops_from s c k (length N) ≡ N
unfolding loops_from
held_back s c k [] h = refl
held_back s c k (L ∷ N) h = ap₂ ◌∷◌ h.0.made (held_back s c (suc k) N h.1)

held-ok : (s : List ℤ) (c : List ℕ) (k : ℕ) (N : List Loop) → HeldAll s c k N → (i : ℕ) → i < length N → LoopOk s c (k + i)
held-ok s c k [] h i g = absurd (omega arith)
held-ok s c k (L ∷ N) h zero g = subst (LoopOk s c) (sym (add-zero k)) h.0.ok
held-ok s c k (L ∷ N) h (suc i) g = let e : suc k + i ≡ k + suc i = omega arith in subst (LoopOk s c) e (held-ok s c (suc k) N h.1 i (omega arith))

-- ---- a nest

module _ (s : List ℤ) (c : List ℕ) (depth : ℕ) (N : List Loop) (deep : length N ≡ depth) (h : HeldAll s c 0 N) where
  pub nest-loops : loops_from s c 0 depth ≡ N
  nest-loops = subst (λ (n : ℕ). loops_from s c 0 n ≡ N) deep (held_back s c 0 N h)

  loop-ok : (k : ℕ) → k < depth → LoopOk s c k
  loop-ok k g = let e : 0 + k ≡ k = omega arith in subst (LoopOk s c) e (held-ok s c 0 N h k (omega arith))

  pub nest-ok : length s ≡ nest_room → length c ≡ most_sides → depth ≤ 6 → Within 32767 s → NestOk s c depth
  nest-ok e f few w = record {
    words = e;
    counts = f;
    shallow = few;
    small = w;
    lower-count = λ k g. (loop-ok k g).lower-count;
    upper-count = λ k g. (loop-ok k g).upper-count;
    lower-positive = λ k g. (loop-ok k g).lower-positive;
    upper-positive = λ k g. (loop-ok k g).upper-positive;
  }
