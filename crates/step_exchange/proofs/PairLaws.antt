-- The two loops of an exchange, from what fills their sides: I and J as they are read, what is too much, then one loop that is put.
use mathlib.Core.Path.{◌≡◌, sym, ap, ap₂, ◌∙◌, subst}
use mathlib.Core.Bool.{Bool, true, false, not, ◌&&◌}
use mathlib.Core.List.{List, ◌++◌, map, flat_map}
use Prim.Native.Nat.{ℕ, ◌+◌, ◌*◌, ◌≤◌, ◌<◌}
use native.Mathlib.Omega.{arith}
use native.Mathlib.Decide.{dec_lt}
use lib.Dec.{leb, ltb, le→leb, leb→le, lt→ltb, ltb→lt}
use borrow.Author.Tests.{not-false}
use lib.IntN.{ℤ}
use lib.ListN.{length, set}
use Rattle.integers.specs.Affine.{Within}
use Rattle.lists.specs.Tests.{all}
use Rattle.lists.proofs.TestLaws.{true-T, T_true, not-T-false, and_both}
use Rattle.model.specs.Ticket as Model
use Rattle.model.specs.Judge.{small_limit, small_loop}
use Rattle.model.specs.Limits.{widened, outer_coefficient, outer_part, new_outer, new_inner, deduplicated}
use Rattle.model.specs.Grammar.{nest_room, most_sides}
use Rattle.nest_flat.specs.Flat.{limits_at, loop_at}
use Rattle.ticket_loops.specs.Laid.{lay_limits, lay_loop, lay_count}
use Rattle.step_exchange_sides.specs.Filling.{Holds, SidePut}
use Rattle.nest_flat.proofs.FlatLaws.{limits-length}
use Rattle.step_exchange_sides.proofs.PutLaws.{untrue}
use Rattle.step_limits.specs.Words.{LoopOk}
use Rattle.step_exchange.specs.declared.SideLimits.{SideLimits}
use Rattle.step_exchange.specs.declared.SideCounts.{SideCounts}
use Rattle.step_exchange.specs.Pair.{taken_of, limits_of, SpanIn, lower_span, upper_span, ThreeIn, LoopHeld, loop_in, PutLoopIn, LoopPut, PairIn}
use Rattle.step_exchange.specs.Pair.{few_in}

-- ---- I and J as they are read

module _ (s : List ℤ) (c : List ℕ) (k : ℕ) (words : length s ≡ nest_room) (small : Within 32767 s) (place : k < 6) (ok : LoopOk s c k) where
  pub lower_in : (p : SideLimits) → p ≡ lower_span c k → SpanIn s p
  unfolding lower_span
  lower_in p e = let h = ok.lower-count.1 in subst (SpanIn s) (sym e) (record {
    words = words;
    small = small;
    inside = omega arith;
    positive = ok.lower-positive;
  })

  pub upper_in : (p : SideLimits) → p ≡ upper_span c k → SpanIn s p
  unfolding upper_span
  upper_in p e = let h = ok.upper-count.1 in subst (SpanIn s) (sym e) (record {
    words = words;
    small = small;
    inside = omega arith;
    positive = ok.upper-positive;
  })

-- il, iu, jl and ju are the sides of I and J
pub record Spans (c : List ℕ) (a : ℕ) (il iu jl ju : SideLimits) : Type 0 where
  pub il-is : il ≡ lower_span c a
  pub iu-is : iu ≡ upper_span c a
  pub jl-is : jl ≡ lower_span c (a + 1)
  pub ju-is : ju ≡ upper_span c (a + 1)

module _ {c : List ℕ} {a : ℕ} {il iu jl ju : SideLimits} (e : Spans c a il iu jl ju) where
  module _ {s : List ℤ} (p : PairIn s c a) (f : List ℤ) (room : length f ≡ 128) where
    pub outer-low-in : ThreeIn a f s jl il iu
    outer-low-in = let q = p.place in record {
      place = omega arith;
      room = room;
      first = lower_in s c (a + 1) p.words p.small q p.inner jl e.jl-is;
      second = lower_in s c a p.words p.small (omega arith) p.outer il e.il-is;
      third = upper_in s c a p.words p.small (omega arith) p.outer iu e.iu-is;
    }

    pub outer-up-in : ThreeIn a f s ju iu il
    outer-up-in = let q = p.place in record {
      place = omega arith;
      room = room;
      first = upper_in s c (a + 1) p.words p.small q p.inner ju e.ju-is;
      second = upper_in s c a p.words p.small (omega arith) p.outer iu e.iu-is;
      third = lower_in s c a p.words p.small (omega arith) p.outer il e.il-is;
    }

    pub inner-low-in : ThreeIn a f s il jl ju
    inner-low-in = record {
      place = outer-low-in.place;
      room = room;
      first = outer-low-in.second;
      second = outer-low-in.first;
      third = outer-up-in.first;
    }

    pub inner-up-in : ThreeIn a f s iu jl ju
    inner-up-in = record {
      place = outer-low-in.place;
      room = room;
      first = outer-low-in.third;
      second = outer-low-in.first;
      third = outer-up-in.first;
    }

  module _ (s : List ℤ) where
    abbrev I : Model.Loop
    I = loop_at s c a

    abbrev J : Model.Loop
    J = loop_at s c (a + 1)

    module _ {f : List ℤ} {n : ℕ} where
      pub outer-low : Holds a f n (flat_map (λ l. outer_part a (limits_of s a il) (limits_of s a iu) (outer_coefficient a l) l) (limits_of s (a + 1) jl))
          → Holds a f n (new_outer a I J).lower
      unfolding new_outer loop_at lower_span upper_span
      outer-low h = rw (e.il-is, e.iu-is, e.jl-is) at h

      pub outer-up : Holds a f n (flat_map (λ l. outer_part a (limits_of s a iu) (limits_of s a il) (outer_coefficient a l) l) (limits_of s (a + 1) ju))
          → Holds a f n (new_outer a I J).upper
      unfolding new_outer loop_at lower_span upper_span
      outer-up h = rw (e.il-is, e.iu-is, e.ju-is) at h

      pub inner-low : Holds (a + 1) f n (map widened (limits_of s a il) ++ (flat_map (taken_of false a) (limits_of s (a + 1) jl) ++ flat_map
          (taken_of true a) (limits_of s (a + 1) ju))) → Holds (a + 1) f n (new_inner a I J).lower
      unfolding new_inner taken_of loop_at lower_span upper_span
      inner-low h = rw (e.il-is, e.jl-is, e.ju-is) at h

      pub inner_up : Holds (a + 1) f n (map widened (limits_of s a iu) ++ (flat_map (taken_of true a) (limits_of s (a + 1) jl) ++ flat_map
          (taken_of false a) (limits_of s (a + 1) ju))) → Holds (a + 1) f n (new_inner a I J).upper
      unfolding new_inner taken_of loop_at lower_span upper_span
      inner_up h = rw (e.iu-is, e.jl-is, e.ju-is) at h

-- ---- a loop's two sides

pub first-full : (m n : ℕ) → 16 < m → true ≡ not (leb m 16 && leb n 16)
first-full m n h = sym (rw (not-T-false (leb m 16) (λ t. let k = leb→le m 16 t in absurd (omega arith))))

pub second-decides : (m n : ℕ) → m ≤ 16 → ltb 16 n ≡ not (leb m 16 && leb n 16)
second-decides m n h = rw (T_true (leb m 16) (le→leb m 16 h)) (go (dec_lt 16 n))
  where
    go : Dec (16 < n) → ltb 16 n ≡ not (leb n 16)
    go (yes k) = T_true (ltb 16 n) (lt→ltb 16 n k) ∙ sym (rw (not-T-false (leb n 16) (λ t. let i = leb→le n 16 t in absurd (omega arith))))
    go (no k) = not-T-false (ltb 16 n) (λ t. k (ltb→lt 16 n t)) ∙ sym (rw (T_true (leb n 16) (le→leb n 16 (omega arith))))

module _ (n : ℕ) (low up : List ℤ) (h : SideCounts) (L : Model.Loop) (p : LoopHeld n L low up h) where
  pub few-sides : leb h.lower 16 && leb h.upper 16 ≡ few_in (deduplicated L)
  unfolding few_in deduplicated
  few-sides = ap₂ ◌&&◌ p.lower.few p.upper.few

  pub sides-whole : h.lower ≤ 16 → h.upper ≤ 16 → loop_in n low up h ≡ deduplicated L
  unfolding deduplicated
  sides-whole f g i = record { lower = p.lower.limits f i; upper = p.upper.limits g i }

-- a test of two counts that failed
pub both-few : (m n : ℕ) (r : Bool) → r ≡ not (leb m 16 && leb n 16) → r ≡ false → (m ≤ 16) × (n ≤ 16)
both-few m n r e f = let b = and_both (leb m 16) (leb n 16) (true-T _ (not-false (leb m 16 && leb n 16) (sym e ∙ f)))
    in (leb→le m 16 b.0, leb→le n 16 b.1)

pub put_in : (room rows k n : ℕ) (L : Model.Loop) (low up : List ℤ) (h : SideCounts) (r : Bool) → LoopHeld n L low up h
    → r ≡ not (leb h.lower 16 && leb h.upper 16) → r ≡ false
    → room ≡ nest_room → rows ≡ most_sides → k < 6 → PutLoopIn room rows k low up h
put_in room rows k n L low up h r p e f w c g = let b = both-few h.lower h.upper r e f in
    record { words = w; counts = c; place = g; lower = (p.lower-filled, b.0); upper = (p.upper-filled, b.1) }

-- ---- one loop is put

module _ (s : List ℤ) (c : List ℕ) (k : ℕ) (low up : List ℤ) (h : SideCounts) where
  abbrev L : Model.Loop
  L = loop_in k low up h

  pub lower-refused : (r : Bool) (t w : List ℤ) (d : List ℕ) → SidePut s (k * 32) (limits_at low k 0 h.lower) r w → r ≡ false
      → LoopPut s c k L false t d
  unfolding small_loop
  lower-refused r t w d p e = record { small = sym (ap (◌&& all small_limit (limits_at up k 0 h.upper)) (sym p.small ∙ e)); made = λ q. untrue q }

  module _ (r : Bool) (w : List ℤ) (p : SidePut s (k * 32) (limits_at low k 0 h.lower) r w) (e : r ≡ true) (q : Bool) (t : List ℤ)
      (u : SidePut w (k * 32 + 16) (limits_at up k 0 h.upper) q t) where
    pub upper-refused : (d : List ℕ) → q ≡ false → LoopPut s c k L false t d
    unfolding small_loop
    upper-refused d f = record { small = sym (ap₂ ◌&&◌ (sym p.small ∙ e) (sym u.small ∙ f)); made = λ q. untrue q }

    pub both-put : q ≡ true → LoopPut s c k L true t (set (set c (k * 2) h.lower) (k * 2 + 1) h.upper)
    unfolding small_loop lay_loop lay_count
    both-put f = record {
      small = sym (ap₂ ◌&&◌ (sym p.small ∙ e) (sym u.small ∙ f));
      made = λ _. (
        u.made f ∙ ap (λ x. lay_limits x (k * 32 + 16) (limits_at up k 0 h.upper)) (p.made e),
        ap₂ (λ i j. set (set c (k * 2) i) (k * 2 + 1) j) (sym (limits-length low k 0 h.lower)) (sym (limits-length up k 0 h.upper)),
      );
    }
