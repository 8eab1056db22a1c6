-- The new loops have limits on both sides, with positive multipliers; so, where they are few and small, they are in range.
use mathlib.Core.Path.{◌≡◌, refl, sym, ap, ◌∙◌, subst}
use mathlib.Core.Bool.{true, ◌&&◌}
use mathlib.Core.List.Memᴰ
use mathlib.Core.List.{List, [], ◌∷◌, ◌++◌}
use Prim.Native.Nat.{ℕ, zero, suc, ◌+◌, ◌≤◌, ◌<◌}
use native.Mathlib.Omega.{arith}
use lib.Dec.{T, leb, leb→le}
use lib.IntN.{ℤ, nat_abs}
use lib.ListN.{length, replicate, length-replicate}
use Rattle.lists.specs.Membership.{All}
use Rattle.lists.specs.Place.{under}
use Rattle.lists.specs.Tests.{all}
use Rattle.lists.proofs.MembershipLaws.{all_nil, all_cons, all_append}
use Rattle.lists.proofs.PlaceLaws.{under-append}
use Rattle.lists.proofs.TestLaws.{true-T, and_both, all-holds}
use Rattle.model.specs.Ticket as Model
use Rattle.model.specs.Ticket.{exchange}
use Rattle.model.specs.Judge.{small, small_limit, small_loop}
use Rattle.model.specs.Limits.{new_outer, new_inner, deduplicated, exchange_at, loops_after}
use Rattle.model.specs.Ranges.{LimitRanges, LoopRanges}
use Rattle.model.specs.Shape.{Runs}
use Rattle.model.proofs.Steps.RunsLaws.{runs_after}
use Rattle.nest_flat.specs.Flat.{loop_at}
use Rattle.nest_flat.proofs.FlatLaws.{loop-runs}
use Rattle.step_limits.specs.Words.{LoopOk}
use Rattle.step_exchange.specs.Pair.{PairIn, outer_of, inner_of, few_in}

-- ---- limits on both sides, with positive multipliers

runs : (s : List ℤ) (c : List ℕ) (k : ℕ) → LoopOk s c k → Runs (loop_at s c k)
runs s c k o = loop-runs s c k o.lower-count.0 o.upper-count.0 o.lower-positive o.upper-positive

-- the law on a whole nest, for one whose loops outside are as I
module _ (a : ℕ) (I J : Model.Loop) (i : Runs I) (j : Runs J) where
  abbrev front : List Model.Loop
  front = replicate a I

  all-front : (n : ℕ) → All Runs (replicate n I)
  all-front zero = all_nil Runs
  all-front (suc n) = all_cons Runs i (all-front n)

  after_is : loops_after (exchange a) (front ++ (I ∷ J ∷ [])) ≡ front ++ exchange_at a (I ∷ J ∷ [])
  unfolding loops_after
  after_is = ap (λ n. under n (exchange_at a) (front ++ (I ∷ J ∷ []))) (sym (length-replicate a I)) ∙ under-append (exchange_at a) front (I ∷ J ∷ [])

  pair_runs : All Runs (exchange_at a (I ∷ J ∷ []))
  pair_runs L m =
      subst (All Runs) after_is (runs_after (exchange a) tt (front ++ (I ∷ J ∷ []))
      (all_append Runs front (I ∷ J ∷ []) (all-front a) (all_cons Runs i (all_cons Runs j (all_nil Runs)))))
      L (Memᴰ.append_right front m)

  outer-runs : Runs (deduplicated (new_outer a I J))
  unfolding exchange_at
  outer-runs = pair_runs (deduplicated (new_outer a I J)) (Memᴰ.head refl)

  inner-runs : Runs (deduplicated (new_inner a I J))
  unfolding exchange_at
  inner-runs = pair_runs (deduplicated (new_inner a I J)) (Memᴰ.tail (Memᴰ.head refl))

-- ---- ranges

not-empty : {A : Type 0} (l : List A) → (l ≡ [] → ⊥) → 1 ≤ length l
not-empty [] h = absurd (h refl)
not-empty (x ∷ l) h = omega arith

limit-ranges : (l : Model.Limit) → 0 < l.multiplier → T (small_limit l) → LimitRanges l
unfolding small_limit small
limit-ranges l h t =
    let b = and_both (leb l.multiplier 32767) (small l.constant && all small l.coefficients) t in
    let d = and_both (small l.constant) (all small l.coefficients) b.1 in
    record {
      multiplier = record { low = omega arith; high = leb→le l.multiplier 32767 b.0 };
      constant = leb→le (nat_abs l.constant) 32767 d.0;
      coefficients = λ z m. leb→le (nat_abs z) 32767 (all-holds small l.coefficients d.1 z m);
    }

loop-ranges : (L : Model.Loop) → Runs L → few_in L ≡ true → small_loop L ≡ true → LoopRanges 16 L
unfolding few_in small_loop
loop-ranges L r f s =
    let b = and_both (leb (length L.lower) 16) (leb (length L.upper) 16) (true-T _ f) in
    let d = and_both (all small_limit L.lower) (all small_limit L.upper) (true-T _ s) in
    record {
      few-lower = record { low = not-empty L.lower r.some-lower; high = leb→le (length L.lower) 16 b.0 };
      few-upper = record { low = not-empty L.upper r.some_upper; high = leb→le (length L.upper) 16 b.1 };
      lower = λ l m. limit-ranges l (r.positive-lower l m) (all-holds small_limit L.lower d.0 l m);
      upper = λ l m. limit-ranges l (r.positive-upper l m) (all-holds small_limit L.upper d.1 l m);
    }

-- ---- the two loops of words that were judged

module _ (s : List ℤ) (c : List ℕ) (a : ℕ) (p : PairIn s c a) where
  abbrev I : Model.Loop
  I = loop_at s c a

  abbrev J : Model.Loop
  J = loop_at s c (a + 1)

  pub outer-ranges : few_in (outer_of s c a) ≡ true → small_loop (outer_of s c a) ≡ true → LoopRanges 16 (outer_of s c a)
  unfolding outer_of
  outer-ranges f h = loop-ranges (deduplicated (new_outer a I J)) (outer-runs a I J (runs s c a p.outer) (runs s c (a + 1) p.inner)) f h

  pub inner-ranges : few_in (inner_of s c a) ≡ true → small_loop (inner_of s c a) ≡ true → LoopRanges 16 (inner_of s c a)
  unfolding inner_of
  inner-ranges f h = loop-ranges (deduplicated (new_inner a I J)) (inner-runs a I J (runs s c a p.outer) (runs s c (a + 1) p.inner)) f h
