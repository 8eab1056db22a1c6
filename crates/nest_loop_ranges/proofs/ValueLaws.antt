-- One limit over the ranges outside it: the machine's quotient is the model's.
use mathlib.Core.Path.{◌≡◌, sym, ◌∙◌, ap}
use mathlib.Core.List.{List}
use Prim.Native.Nat.{ℕ, ◌+◌, ◌*◌, ◌≤◌, ◌<◌}
use native.Mathlib.Omega.{arith}
use lib.IntN.{ℤ, pos, ◌+ℤ◌}
use lib.Signed.{◌<ℤ◌}
use lib.ListN.{get_or, take, drop}
use mir.Syntax.{w64}
use mir.Val.{SFits}
use Rattle.integers.specs.Difference.{size}
use Rattle.integers.proofs.RingLaws.{<ℤ-≤ℤ}
use Rattle.integers.proofs.RangeLaws.{back, size_fits, size-add, to-nat}
use Rattle.integers.proofs.AffineLaws.{within-at}
use Rattle.nest_flat.specs.Flat.{limit_at}
use Rattle.nest_index_range.proofs.LimitLaws.{copied, rounded-is}
use Rattle.nest_index_range.specs.declared.Side.{Side}
use Rattle.nest_index_range.specs.Sides.{rounded}
use Rattle.nest_loop_ranges.specs.declared.Range.{Range}
use Rattle.nest_loop_ranges.specs.Ranges.{ranges_of}
use Rattle.nest_loop_ranges.specs.Extremes.{extreme_sum}
use Rattle.nest_loop_ranges.specs.Values.{extreme_of, LimitIn, SideIn}
use Rattle.nest_loop_ranges.proofs.TermLaws.{copy}

-- ---- one limit

module _ (s : List ℤ) (j k : ℕ) (b : List Range) (p : LimitIn s j k b) where
  word_size : (i : ℕ) → size (get_or s i (pos 0)) ≤ 32767
  word_size i = within-at 32767 s p.small i

  word-is : (i : ℕ) {c : ℤ} → c ≡ get_or s i (pos 0) → copy c ≡ get_or s i (pos 0)
  word-is i d = let w = word_size i in ap copy d ∙ copied (get_or s i (pos 0)) (omega arith)

  divisor-is : {m : ℤ} → m ≡ get_or s (j * 8) (pos 0) → copy m ≡ pos (limit_at s k j).multiplier
  unfolding limit_at
  divisor-is d = word-is (j * 8) d ∙ sym (to-nat (get_or s (j * 8) (pos 0)) (<ℤ-≤ℤ p.positive))

  pub divisor-positive : {m : ℤ} → m ≡ get_or s (j * 8) (pos 0) → pos 0 <ℤ copy m
  divisor-positive d = rw (word-is (j * 8) d) p.positive

  module _ (e : ℤ) (h : size e ≤ 6442057734) {c : ℤ} (o : c ≡ get_or s (j * 8 + 1) (pos 0)) where
    addends : copy c +ℤ copy e ≡ (limit_at s k j).constant +ℤ e
    unfolding limit_at
    addends = rw (word-is (j * 8 + 1) o, copied e (omega arith))

    value-size : size ((limit_at s k j).constant +ℤ e) ≤ 34359738368
    unfolding limit_at
    value-size = omega (arith, word_size (j * 8 + 1), size-add (get_or s (j * 8 + 1) (pos 0)) e)

    pub value-fits : SFits w64 (copy c +ℤ copy e)
    value-fits = rw addends (size_fits value-size (omega arith))

    value-is : copy (copy c +ℤ copy e) ≡ (limit_at s k j).constant +ℤ e
    value-is = back value-fits ∙ addends

    pub quotient_is : (d : Side) {m : ℤ} → m ≡ get_or s (j * 8) (pos 0) → (r : ℤ) → e ≡ extreme_sum d (take k (drop (j * 8 + 2) s)) (ranges_of k b)
        → r ≡ rounded d (copy (copy c +ℤ copy e)) (copy m) → (copy r ≡ extreme_of d (ranges_of k b) (limit_at s k j)) × (size (copy r) ≤ 34359738368)
    unfolding limit_at
    quotient_is d q r g f =
        let x = rounded-is d ((limit_at s k j).constant +ℤ e) (pos (limit_at s k j).multiplier) r value-size (f ∙ rw (value-is, divisor-is q)) in
        (x.0 ∙ rw g, x.1)

-- ---- the limits of one side

pub limit-in : (s : List ℤ) (j n k : ℕ) (b : List Range) → SideIn s j n k b → (i : ℕ) → i < n → LimitIn s (j + i) k b
limit-in s j n k b p i h = let v = p.inside in
    record { words = p.words; small = p.small; inside = omega arith; positive = p.positive i h; outside = p.outside }
