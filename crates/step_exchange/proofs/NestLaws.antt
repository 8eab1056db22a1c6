-- The new pair put in its places: it is read back, the words and the counts outside the two places stay, and so the nest is one that was judged.
use mathlib.Core.Path.{◌≡◌, sym, ap, ◌∙◌, subst}
use mathlib.Core.List.{List, [], ◌∷◌}
use Prim.Native.Nat.{ℕ, suc, ◌+◌, ◌*◌, ◌≤◌, ◌<◌}
use native.Mathlib.Omega.{arith}
use native.Mathlib.Decide.{dec_lt}
use native.Mathlib.Numerals.{add-one}
use lib.IntN.{ℤ}
use lib.ListN.{length, get_or, take, drop, set}
use lib.Seq.{drop-set-lt}
use Rattle.integers.specs.Affine.{Within}
use Rattle.lists.proofs.MembershipLaws.{all_nil, all_cons}
use Rattle.model.specs.Ticket as Model
use Rattle.model.specs.Shape.{Sized}
use Rattle.model.specs.Ranges.{LoopRanges}
use Rattle.model.specs.Grammar.{most_sides, nest_room}
use Rattle.nest_flat.specs.Flat.{limits_at, loop_at, NestOk}
use Rattle.ticket_loops.specs.Laid.{lay_limits, lay_loop, lay_count, lay_loops, lay_counts}
use Rattle.ticket_loops.proofs.PutLaws.{get_d_front}
use Rattle.ticket_loops.proofs.LimitLaws.{lay-length, limits-front, positive-front}
use Rattle.ticket_loops.proofs.LoopLaws.{Laid, LaidAll, Fit, loop-front, loop-length, count-front, loops-length, loops-within, loops-laid}
use Rattle.step_limits.specs.Words.{LoopOk}
use Rattle.step_exchange.specs.Pair.{PairIn, PairMade}
use Rattle.step_exchange.proofs.BackLaws.{lay-back, get_d-back, limits-back, positive_back}

-- ---- a nest and its loops

pub loop-ok : (s : List ℤ) (c : List ℕ) (depth k : ℕ) → NestOk s c depth → k < depth → LoopOk s c k
loop-ok s c depth k n h = record {
  lower-count = n.lower-count k h;
  upper-count = n.upper-count k h;
  lower-positive = n.lower-positive k h;
  upper-positive = n.upper-positive k h;
}

-- what the exchange asks, of a nest that has both loops
pub pair-in : (s : List ℤ) (c : List ℕ) (depth a : ℕ) → NestOk s c depth → a + 1 < depth → PairIn s c a
pair-in s c depth a n h = let d = n.shallow in
    record {
      words = n.words;
      counts = n.counts;
      place = omega arith;
      small = n.small;
      outer = loop-ok s c depth a n (omega arith);
      inner = loop-ok s c depth (a + 1) n h;
    }

nest-of : (s : List ℤ) (c : List ℕ) (depth : ℕ) → length s ≡ nest_room → length c ≡ most_sides → depth ≤ 6 → Within 32767 s
    → ((k : ℕ) → k < depth → LoopOk s c k) → NestOk s c depth
nest-of s c depth w n h m o = record {
  words = w;
  counts = n;
  shallow = h;
  small = m;
  lower-count = λ k g. (o k g).lower-count;
  upper-count = λ k g. (o k g).upper-count;
  lower-positive = λ k g. (o k g).lower-positive;
  upper-positive = λ k g. (o k g).upper-positive;
}

-- ---- loop k, by what is laid, and by what stays in front and behind

same-loop : {l m u v : List Model.Limit} → l ≡ m → u ≡ v → ◌≡◌ {A = Model.Loop} (record { lower = l; upper = u }) (record { lower = m; upper = v })
same-loop e f i = record { lower = e i; upper = f i }

module _ (s : List ℤ) (c : List ℕ) (k : ℕ) where
  loop-back : (L : Model.Loop) → Laid s c k L → loop_at s c k ≡ L
  unfolding loop_at
  loop-back L l = same-loop (ap (limits_at s k (k * 32)) l.lower-count ∙ l.lower) (ap (limits_at s k (k * 32 + 16)) l.upper-count ∙ l.upper)

  laid-ok : (L : Model.Loop) → LoopRanges 16 L → Laid s c k L → LoopOk s c k
  laid-ok L r l = let p = r.few-lower in let q = r.few-upper in let e = l.lower-count in let f = l.upper-count in
      record {
        lower-count = (omega arith, omega arith);
        upper-count = (omega arith, omega arith);
        lower-positive = rw e l.lower-positive;
        upper-positive = rw f l.upper-positive;
      }

  module _ (t : List ℤ) (d : List ℕ) (o : LoopOk s c k) where
    module _ (m : ℕ) (h : k < m) (f : k ≤ 6) (e : take (m * 256) t ≡ take (m * 256) s) (g : take (m * 2) d ≡ take (m * 2) c) where
      lower-front : get_or d (k * 2) 0 ≡ get_or c (k * 2) 0
      lower-front = get_d_front (m * 2) d c (k * 2) 0 g (omega arith)

      upper-front : get_or d (k * 2 + 1) 0 ≡ get_or c (k * 2 + 1) 0
      upper-front = get_d_front (m * 2) d c (k * 2 + 1) 0 g (omega arith)

      front_same : loop_at t d k ≡ loop_at s c k
      unfolding loop_at
      front_same = let p = o.lower-count.1 in let q = o.upper-count.1 in same-loop
          (ap (limits_at t k (k * 32)) lower-front ∙ limits-front k f (m * 256) t s (k * 32) (get_or c (k * 2) 0) e (omega arith))
          (ap (limits_at t k (k * 32 + 16)) upper-front ∙ limits-front k f (m * 256) t s (k * 32 + 16) (get_or c (k * 2 + 1) 0) e (omega arith))

      front-ok : LoopOk t d k
      front-ok = let p = o.lower-count in let q = o.upper-count in record {
        lower-count = rw lower-front p;
        upper-count = rw upper-front q;
        lower-positive = rw lower-front (positive-front (m * 256) t s (k * 32) (get_or c (k * 2) 0) e (omega arith) o.lower-positive);
        upper-positive = rw upper-front (positive-front (m * 256) t s (k * 32 + 16) (get_or c (k * 2 + 1) 0) e (omega arith) o.upper-positive);
      }

    module _ (m : ℕ) (h : m ≤ k) (e : drop (m * 256) t ≡ drop (m * 256) s) (g : drop (m * 2) d ≡ drop (m * 2) c) where
      lower-behind : get_or d (k * 2) 0 ≡ get_or c (k * 2) 0
      lower-behind = get_d-back (m * 2) d c (k * 2) 0 g (omega arith)

      upper-behind : get_or d (k * 2 + 1) 0 ≡ get_or c (k * 2 + 1) 0
      upper-behind = get_d-back (m * 2) d c (k * 2 + 1) 0 g (omega arith)

      behind-same : loop_at t d k ≡ loop_at s c k
      unfolding loop_at
      behind-same = same-loop
          (ap (limits_at t k (k * 32)) lower-behind ∙ limits-back (m * 256) t s k (k * 32) (get_or c (k * 2) 0) e (omega arith))
          (ap (limits_at t k (k * 32 + 16)) upper-behind ∙ limits-back (m * 256) t s k (k * 32 + 16) (get_or c (k * 2 + 1) 0) e (omega arith))

      behind-ok : LoopOk t d k
      behind-ok = record {
        lower-count = rw lower-behind o.lower-count;
        upper-count = rw upper-behind o.upper-count;
        lower-positive = rw lower-behind (positive_back (m * 256) t s (k * 32) (get_or c (k * 2) 0) e (omega arith) o.lower-positive);
        upper-positive = rw upper-behind (positive_back (m * 256) t s (k * 32 + 16) (get_or c (k * 2 + 1) 0) e (omega arith) o.upper-positive);
      }

-- ---- one loop laid

behind-loop : (s : List ℤ) (k : ℕ) (L : Model.Loop) → length s ≡ nest_room → suc k ≤ 6 → Sized k L.lower × Sized k L.upper → LoopRanges 16 L
    → (m : ℕ) → suc k * 256 ≤ m → drop m (lay_loop s k L) ≡ drop m s
unfolding lay_loop
behind-loop s k L w h z r m g =
    let p = r.few-lower.high in
    let q = r.few-upper.high in
    let n = lay-length k (omega arith) s (k * 32) L.lower z.0 (omega arith) in
    lay-back k (omega arith) (lay_limits s (k * 32) L.lower) (k * 32 + 16) L.upper m (omega arith) z.1 (omega arith)
    ∙ lay-back k (omega arith) s (k * 32) L.lower m (omega arith) z.0 (omega arith)

behind-count : (c : List ℕ) (k : ℕ) (L : Model.Loop) (m : ℕ) → suc k * 2 ≤ m → drop m (lay_count c k L) ≡ drop m c
unfolding lay_count
behind-count c k L m h = drop-set-lt m (set c (k * 2) (length L.lower)) (k * 2 + 1) (length L.upper) (omega arith)
    ∙ drop-set-lt m c (k * 2) (length L.lower) (omega arith)

-- ---- the pair

data Place (a k : ℕ) : Type 0 where
  before : k < a → Place a k
  outer : a ≡ k → Place a k
  inner : suc a ≡ k → Place a k
  behind : suc (suc a) ≤ k → Place a k

place : (a k : ℕ) → Place a k
place a k = first (dec_lt k a)
  where
    third : (k < a → ⊥) → (k < suc a → ⊥) → Dec (k < suc (suc a)) → Place a k
    third f g (yes h) = inner (omega arith)
    third f g (no h) = behind (omega arith)

    second : (k < a → ⊥) → Dec (k < suc a) → Place a k
    second f (yes h) = outer (omega arith)
    second f (no h) = third f h (dec_lt k (suc (suc a)))

    first : Dec (k < a) → Place a k
    first (yes h) = before h
    first (no h) = second h (dec_lt k (suc a))

module _ (s : List ℤ) (c : List ℕ) (a : ℕ) (X Y : Model.Loop) (p : PairIn s c a) (sx : Sized a X.lower × Sized a X.upper)
    (sy : Sized (suc a) Y.lower × Sized (suc a) Y.upper)
    (rx : LoopRanges 16 X) (ry : LoopRanges 16 Y) where
  abbrev pair : List Model.Loop
  pair = X ∷ Y ∷ []

  abbrev t : List ℤ
  t = lay_loop (lay_loop s a X) (suc a) Y

  abbrev d : List ℕ
  d = lay_count (lay_count c a X) (suc a) Y

  fit : Fit s c a pair
  fit = let q = p.place in record {
    words = p.words;
    counts = p.counts;
    shallow = omega arith;
    shaped = (sx, (sy, tt));
    ranges = all_cons (LoopRanges 16) rx (all_cons (LoopRanges 16) ry (all_nil (LoopRanges 16)));
  }

  laid : LaidAll t d a pair
  unfolding lay_loops lay_counts
  laid = loops-laid s c a pair fit

  lengths : (length t ≡ nest_room) × (length d ≡ most_sides)
  unfolding lay_loops lay_counts
  lengths = loops-length s c a pair fit

  within : Within 32767 t
  unfolding lay_loops
  within = loops-within s c a pair fit p.small

  first-length : length (lay_loop s a X) ≡ nest_room
  first-length = let q = p.place in loop-length s a X p.words (omega arith) sx rx ∙ p.words

  words-before : take (a * 256) t ≡ take (a * 256) s
  words-before = let q = p.place in loop-front (lay_loop s a X) (suc a) Y first-length (omega arith) sy ry (a * 256) (omega arith)
      ∙ loop-front s a X p.words (omega arith) sx rx (a * 256) (omega arith)

  counts-before : take (a * 2) d ≡ take (a * 2) c
  counts-before = count-front (lay_count c a X) (suc a) Y (a * 2) (omega arith) ∙ count-front c a X (a * 2) (omega arith)

  words-behind : drop (suc (suc a) * 256) t ≡ drop (suc (suc a) * 256) s
  words-behind = let q = p.place in behind-loop (lay_loop s a X) (suc a) Y first-length (omega arith) sy ry (suc (suc a) * 256) (omega arith)
      ∙ behind-loop s a X p.words (omega arith) sx rx (suc (suc a) * 256) (omega arith)

  counts_behind : drop (suc (suc a) * 2) d ≡ drop (suc (suc a) * 2) c
  counts_behind = behind-count (lay_count c a X) (suc a) Y (suc (suc a) * 2) (omega arith) ∙ behind-count c a X (suc (suc a) * 2) (omega arith)

  each-ok : (k : ℕ) → k ≤ 6 → LoopOk s c k → LoopOk t d k
  each-ok k h o = go (place a k)
    where
      go : Place a k → LoopOk t d k
      go (before g) = front-ok s c k t d o a g h words-before counts-before
      go (outer e) = subst (LoopOk t d) e (laid-ok t d a X rx laid.0)
      go (inner e) = subst (LoopOk t d) e (laid-ok t d (suc a) Y ry laid.1.0)
      go (behind g) = behind-ok s c k t d o (suc (suc a)) g words-behind counts_behind

  other-same : (k : ℕ) → k ≤ 6 → LoopOk s c k → (k ≡ a → ⊥) → (k ≡ suc a → ⊥) → loop_at t d k ≡ loop_at s c k
  other-same k h o f g = go (place a k)
    where
      go : Place a k → loop_at t d k ≡ loop_at s c k
      go (before q) = front_same s c k t d o a q h words-before counts-before
      go (outer e) = absurd (f (sym e))
      go (inner e) = absurd (g (sym e))
      go (behind q) = behind-same s c k t d o (suc (suc a)) q words-behind counts_behind

  made : PairMade s c a X Y t d
  made = record {
    outer = loop-back t d a X laid.0;
    inner = rw (add-one a) (loop-back t d (suc a) Y laid.1.0);
    others = λ depth n k h f g. let q = n.shallow in other-same k (omega arith) (loop-ok s c depth k n h) f (λ e. g (e ∙ sym (add-one a)));
    ok = λ depth n. let q = n.shallow in nest-of t d depth lengths.0 lengths.1 q within
        (λ k h. each-ok k (omega arith) (loop-ok s c depth k n h));
    words-before = words-before;
    words-behind = let z : (a + 2) * 256 ≡ suc (suc a) * 256 = omega arith in rw z words-behind;
    counts-before = counts-before;
    counts_behind = let z : (a + 2) * 2 ≡ suc (suc a) * 2 = omega arith in rw z counts_behind;
  }

-- at a + 1, as the code has it
pub pair_made : (s : List ℤ) (c : List ℕ) (a : ℕ) (X Y : Model.Loop) (t : List ℤ) (d : List ℕ) → PairIn s c a → Sized a X.lower
    × Sized a X.upper → Sized (a + 1) Y.lower × Sized (a + 1) Y.upper
    → LoopRanges 16 X → LoopRanges 16 Y → t ≡ lay_loop (lay_loop s a X) (a + 1) Y → d ≡ lay_count (lay_count c a X) (a + 1) Y → PairMade s c a X Y t d
pair_made s c a X Y t d p sx sy rx ry e f =
    let z = add-one a in
    subst (λ (w : List ℤ). PairMade s c a X Y w d) (sym (e ∙ ap (λ n. lay_loop (lay_loop s a X) n Y) z))
    (subst (λ (w : List ℕ). PairMade s c a X Y (lay_loop (lay_loop s a X) (suc a) Y) w) (sym (f ∙ ap (λ n. lay_count (lay_count c a X) n Y) z))
    (made s c a X Y p sx (subst (λ (n : ℕ). Sized n Y.lower × Sized n Y.upper) z sy) rx ry))
