-- Digits changed in a number are the digits that the steps change. Each weight is looked at by itself.
use mathlib.Core.Path.{◌≡◌, refl, sym, ap, ◌∙◌, subst}
use mathlib.Core.List.{[], ◌∷◌}
use Prim.Native.Nat.{ℕ, zero, suc, ◌+◌, ◌*◌, ◌-◌, ◌/◌, ◌%◌, ◌^◌, ◌≤◌, ◌<◌}
use native.Mathlib.Omega.{arith}
use lib.ListN.{get_or, set}
use Rattle.integers.specs.Sign.{turned}
use Rattle.lists.specs.Place.{under, on_head, swapped}
use Rattle.model.specs.Directions.{vector_count}
use Rattle.dependence_vectors.specs.Numbers.{base3}
use Rattle.step_preimages.specs.Numbers.{digits_of}
use Rattle.step_preimages.specs.Sources.{Source}
use Rattle.step_preimages.specs.Weights.{ChangeIn}
use Rattle.step_preimages.proofs.NumberLaws.{base3-digits_of}
use Rattle.step_preimages.proofs.SourceLaws.{swap-source, turn-source}

-- ---- as the code reckons

-- the digits of weight 3 w and w exchanged
unfoldable pub traded : ℕ → ℕ → ℕ
traded n w = n + (n / w % 3 * (w * 3) + n / (w * 3) % 3 * w) - (n / (w * 3) % 3 * (w * 3) + n / w % 3 * w)

-- the digit of weight w turned over
unfoldable pub overturned : ℕ → ℕ → ℕ
overturned n w = n + 2 * w - 2 * (n / w % 3 * w)

-- ---- no number is too large, none too small

pub record Fits (n w : ℕ) : Type 0 where
  pub positive : 0 < w
  pub few : w ≤ 243
  pub outer : n / (w * 3) % 3 * (w * 3) + n / w % 3 * w ≤ n
  pub inner : n / w % 3 * w ≤ n
  pub twice : n / w % 3 * w ≤ 2 * w
  pub raised : n / w % 3 * (w * 3) ≤ 1458
  pub lowered : n / (w * 3) % 3 * w ≤ 486

fits-at : (n i : ℕ) → i ≤ 5 → Fits n (3 ^ i)
fits-at n zero h = record {
  positive = omega arith;
  few = omega arith;
  outer = omega arith;
  inner = omega arith;
  twice = omega arith;
  raised = omega
      arith;
  lowered = omega arith;
}
fits-at n (suc zero) h = record {
  positive = omega arith;
  few = omega arith;
  outer = omega arith;
  inner = omega arith;
  twice = omega arith;
  raised = omega arith;
  lowered = omega arith;
}
fits-at n (suc (suc zero)) h = record {
  positive = omega arith;
  few = omega arith;
  outer = omega arith;
  inner = omega arith;
  twice = omega arith;
  raised = omega arith;
  lowered = omega arith;
}
fits-at n (suc (suc (suc zero))) h = record {
  positive = omega arith;
  few = omega arith;
  outer = omega arith;
  inner = omega arith;
  twice = omega
      arith;
  raised = omega arith;
  lowered = omega arith;
}
fits-at n (suc (suc (suc (suc zero)))) h = record {
  positive = omega arith;
  few = omega arith;
  outer = omega arith;
  inner = omega arith;
  twice = omega arith;
  raised = omega arith;
  lowered = omega arith;
}
fits-at n (suc (suc (suc (suc (suc zero))))) h = record {
  positive = omega arith;
  few = omega arith;
  outer = omega arith;
  inner = omega arith;
  twice = omega arith;
  raised = omega arith;
  lowered = omega arith;
}
fits-at n (suc (suc (suc (suc (suc (suc i)))))) h = absurd (omega arith)

pub change-fits : (n w most : ℕ) → most ≤ 5 → ChangeIn n w most → Fits n w
change-fits n w most m h = let l = h.outermost in subst (Fits n) (sym h.weighs) (fits-at n h.inside (omega arith))

-- ---- six digits

abbrev six : ℕ → ℕ → ℕ → ℕ → ℕ → ℕ → ℕ
six a b c d e f = base3 (a ∷ b ∷ c ∷ d ∷ e ∷ f ∷ [])

module _ (n a b c d e f : ℕ) (h : six a b c d e f ≡ n) where
  weighed : n ≡ a * 243 + b * 81 + c * 27 + d * 9 + e * 3 + f
  unfolding base3
  weighed = omega arith

  trade-0 : n + (b * 243 + a * 81) - (a * 243 + b * 81) ≡ six b a c d e f
  unfolding base3
  trade-0 = omega (arith, weighed)

  trade-1 : n + (c * 81 + b * 27) - (b * 81 + c * 27) ≡ six a c b d e f
  unfolding base3
  trade-1 = omega (arith, weighed)

  trade-2 : n + (d * 27 + c * 9) - (c * 27 + d * 9) ≡ six a b d c e f
  unfolding base3
  trade-2 = omega (arith, weighed)

  trade-3 : n + (e * 9 + d * 3) - (d * 9 + e * 3) ≡ six a b c e d f
  unfolding base3
  trade-3 = omega (arith, weighed)

  trade-4 : n + (f * 3 + e * 1) - (e * 3 + f * 1) ≡ six a b c d f e
  unfolding base3
  trade-4 = omega (arith, weighed)

  turn-0 : a < 3 → n + 2 * 243 - 2 * (a * 243) ≡ six (2 - a) b c d e f
  unfolding base3
  turn-0 l = omega (arith, weighed)

  turn-1 : b < 3 → n + 2 * 81 - 2 * (b * 81) ≡ six a (2 - b) c d e f
  unfolding base3
  turn-1 l = omega (arith, weighed)

  turn-2 : c < 3 → n + 2 * 27 - 2 * (c * 27) ≡ six a b (2 - c) d e f
  unfolding base3
  turn-2 l = omega (arith, weighed)

  turn-3 : d < 3 → n + 2 * 9 - 2 * (d * 9) ≡ six a b c (2 - d) e f
  unfolding base3
  turn-3 l = omega (arith, weighed)

  turn-4 : e < 3 → n + 2 * 3 - 2 * (e * 3) ≡ six a b c d (2 - e) f
  unfolding base3
  turn-4 l = omega (arith, weighed)

  turn-5 : f < 3 → n + 2 * 1 - 2 * (f * 1) ≡ six a b c d e (2 - f)
  unfolding base3
  turn-5 l = omega (arith, weighed)

-- ---- the digits of a number

module _ (n : ℕ) (below : n < vector_count) where
  digits : six (n / 243) (n / 81 % 3) (n / 27 % 3) (n / 9 % 3) (n / 3 % 3) (n % 3) ≡ n
  unfolding digits_of
  digits = base3-digits_of n

  first : n / 243 % 3 ≡ n / 243
  first = omega arith

  last : n / 1 % 3 ≡ n % 3
  last = omega arith

  trade-at-0 : traded n 81 ≡ base3 (set (set (digits_of n) 0 (get_or (digits_of n) 1 0)) 1 (get_or (digits_of n) 0 0))
  unfolding traded digits_of
  trade-at-0 = rw first (trade-0 n (n / 243) (n / 81 % 3) (n / 27 % 3) (n / 9 % 3) (n / 3 % 3) (n % 3) digits)

  trade-at-1 : traded n 27 ≡ base3 (set (set (digits_of n) 1 (get_or (digits_of n) 2 0)) 2 (get_or (digits_of n) 1 0))
  unfolding traded digits_of
  trade-at-1 = trade-1 n (n / 243) (n / 81 % 3) (n / 27 % 3) (n / 9 % 3) (n / 3 % 3) (n % 3) digits

  trade-at-2 : traded n 9 ≡ base3 (set (set (digits_of n) 2 (get_or (digits_of n) 3 0)) 3 (get_or (digits_of n) 2 0))
  unfolding traded digits_of
  trade-at-2 = trade-2 n (n / 243) (n / 81 % 3) (n / 27 % 3) (n / 9 % 3) (n / 3 % 3) (n % 3) digits

  trade-at-3 : traded n 3 ≡ base3 (set (set (digits_of n) 3 (get_or (digits_of n) 4 0)) 4 (get_or (digits_of n) 3 0))
  unfolding traded digits_of
  trade-at-3 = trade-3 n (n / 243) (n / 81 % 3) (n / 27 % 3) (n / 9 % 3) (n / 3 % 3) (n % 3) digits

  trade-at-4 : traded n 1 ≡ base3 (set (set (digits_of n) 4 (get_or (digits_of n) 5 0)) 5 (get_or (digits_of n) 4 0))
  unfolding traded digits_of
  trade-at-4 = rw last (trade-4 n (n / 243) (n / 81 % 3) (n / 27 % 3) (n / 9 % 3) (n / 3 % 3) (n % 3) digits)

  turn-at-0 : overturned n 243 ≡ base3 (set (digits_of n) 0 (2 - get_or (digits_of n) 0 0))
  unfolding overturned digits_of
  turn-at-0 = rw first (turn-0 n (n / 243) (n / 81 % 3) (n / 27 % 3) (n / 9 % 3) (n / 3 % 3) (n % 3) digits (omega arith))

  turn-at-1 : overturned n 81 ≡ base3 (set (digits_of n) 1 (2 - get_or (digits_of n) 1 0))
  unfolding overturned digits_of
  turn-at-1 = turn-1 n (n / 243) (n / 81 % 3) (n / 27 % 3) (n / 9 % 3) (n / 3 % 3) (n % 3) digits (omega arith)

  turn-at-2 : overturned n 27 ≡ base3 (set (digits_of n) 2 (2 - get_or (digits_of n) 2 0))
  unfolding overturned digits_of
  turn-at-2 = turn-2 n (n / 243) (n / 81 % 3) (n / 27 % 3) (n / 9 % 3) (n / 3 % 3) (n % 3) digits (omega arith)

  turn-at-3 : overturned n 9 ≡ base3 (set (digits_of n) 3 (2 - get_or (digits_of n) 3 0))
  unfolding overturned digits_of
  turn-at-3 = turn-3 n (n / 243) (n / 81 % 3) (n / 27 % 3) (n / 9 % 3) (n / 3 % 3) (n % 3) digits (omega arith)

  turn-at-4 : overturned n 3 ≡ base3 (set (digits_of n) 4 (2 - get_or (digits_of n) 4 0))
  unfolding overturned digits_of
  turn-at-4 = turn-4 n (n / 243) (n / 81 % 3) (n / 27 % 3) (n / 9 % 3) (n / 3 % 3) (n % 3) digits (omega arith)

  turn-at-5 : overturned n 1 ≡ base3 (set (digits_of n) 5 (2 - get_or (digits_of n) 5 0))
  unfolding overturned digits_of
  turn-at-5 = rw last (turn-5 n (n / 243) (n / 81 % 3) (n / 27 % 3) (n / 9 % 3) (n / 3 % 3) (n % 3) digits (omega arith))

  -- ---- as the code has it

  pub exchange-at : (a w r : ℕ) → a ≤ 4 → w ≡ 3 ^ (4 - a) → r ≡ traded n w → Source (under a swapped) (a + 2) n r
  exchange-at zero w r h e f = swap-source (digits_of n) n 0 below refl r (f ∙ ap (traded n) e ∙ trade-at-0)
  exchange-at (suc zero) w r h e f = swap-source (digits_of n) n 1 below refl r (f ∙ ap (traded n) e ∙ trade-at-1)
  exchange-at (suc (suc zero)) w r h e f = swap-source (digits_of n) n 2 below refl r (f ∙ ap (traded n) e ∙ trade-at-2)
  exchange-at (suc (suc (suc zero))) w r h e f = swap-source (digits_of n) n 3 below refl r (f ∙ ap (traded n) e ∙ trade-at-3)
  exchange-at (suc (suc (suc (suc zero)))) w r h e f = swap-source (digits_of n) n 4 below refl r (f ∙ ap (traded n) e ∙ trade-at-4)
  exchange-at (suc (suc (suc (suc (suc a))))) w r h e f = absurd (omega arith)

  pub reversal-at : (a w r : ℕ) → a ≤ 5 → w ≡ 3 ^ (5 - a) → r ≡ overturned n w → Source (under a (on_head turned)) (a + 1) n r
  reversal-at zero w r h e f = turn-source (digits_of n) n 0 below refl r (f ∙ ap (overturned n) e ∙ turn-at-0)
  reversal-at (suc zero) w r h e f = turn-source (digits_of n) n 1 below refl r (f ∙ ap (overturned n) e ∙ turn-at-1)
  reversal-at (suc (suc zero)) w r h e f = turn-source (digits_of n) n 2 below refl r (f ∙ ap (overturned n) e ∙ turn-at-2)
  reversal-at (suc (suc (suc zero))) w r h e f = turn-source (digits_of n) n 3 below refl r (f ∙ ap (overturned n) e ∙ turn-at-3)
  reversal-at (suc (suc (suc (suc zero)))) w r h e f = turn-source (digits_of n) n 4 below refl r (f ∙ ap (overturned n) e ∙ turn-at-4)
  reversal-at (suc (suc (suc (suc (suc zero))))) w r h e f = turn-source (digits_of n) n 5 below refl r (f ∙ ap (overturned n) e ∙ turn-at-5)
  reversal-at (suc (suc (suc (suc (suc (suc a)))))) w r h e f = absurd (omega arith)
