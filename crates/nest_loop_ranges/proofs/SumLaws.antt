-- Sums over ranges: the array's ranges as the model's, one by one; then a sum with one coefficient more; then its size.
use mathlib.Core.Path.{◌≡◌, refl, sym, ◌∙◌, ap, subst}
use mathlib.Core.List.{List, [], ◌∷◌}
use Prim.Native.Nat.{ℕ, zero, suc, ◌+◌, ◌*◌, ◌≤◌, ◌<◌}
use native.Mathlib.Omega.{arith}
use native.Mathlib.Numerals.{add-one}
use lib.IntN.{ℤ, pos, ◌+ℤ◌, +ℤ_assoc, +ℤ_idl, +ℤ_idr}
use lib.ListN.{length, get_or, take, drop, length-drop}
use lib.Seq.{get_or-drop}
use Rattle.integers.specs.Difference.{size}
use Rattle.integers.specs.Affine.{Within}
use Rattle.integers.proofs.RangeLaws.{size-add}
use Rattle.integers.proofs.AffineLaws.{within-at, within-take}
use Rattle.model.specs.Quick as Model
use Rattle.nest_index_range.proofs.LimitLaws.{within-drop, copied}
use Rattle.nest_index_range.specs.declared.Side.{Side}
use Rattle.nest_index_range.specs.Sides.{other}
use Rattle.nest_loop_ranges.specs.declared.Range.{Range}
use Rattle.nest_loop_ranges.specs.Ranges.{range_as, ranges_of, NearRange, NearRanges, RangesIn, term_by, TermIn, SumIn}
use Rattle.nest_loop_ranges.specs.Extremes.{end_of, extreme_term, extreme_sum}
use Rattle.nest_loop_ranges.proofs.TermLaws.{copy}
use Rattle.nest_loop_ranges.proofs.ExtremeLaws.{term_is, sum-none, sum-short, sum-cons, end-size}
use Rattle.nest_loop_ranges.proofs.ExtremeLaws.{term-size}

-- ---- the ranges in the array

abbrev pub no_range : Range
no_range = record { least = pos 0; greatest = pos 0 }

pub ranges-length : (n : ℕ) (b : List Range) → n ≤ length b → length (ranges_of n b) ≡ n
unfolding ranges_of
ranges-length zero b h = refl
ranges-length (suc n) [] h = absurd (omega arith)
ranges-length (suc n) (r ∷ b) h = ap suc (ranges-length n b (omega arith))

pub ranges-at : (n : ℕ) (b : List Range) (i : ℕ) → i < n → n ≤ length b → get_or (ranges_of n b) i (range_as no_range) ≡ range_as (get_or b i no_range)
unfolding ranges_of
ranges-at zero b i h k = absurd (omega arith)
ranges-at (suc n) [] i h k = absurd (omega arith)
ranges-at (suc n) (r ∷ b) zero h k = refl
ranges-at (suc n) (r ∷ b) (suc i) h k = ranges-at n b i (omega arith) (omega arith)

near-at : (rs : List Model.Range) (i : ℕ) → NearRanges rs → i < length rs → NearRange (get_or rs i (range_as no_range))
near-at [] i n h = absurd (omega arith)
near-at (r ∷ rs) zero n h = n.0
near-at (r ∷ rs) (suc i) n h = near-at rs i n.1 (omega arith)

module _ (n : ℕ) (b : List Range) (p : RangesIn n b) where
  pub count_of : length (ranges_of n b) ≡ n
  count_of = let s = p.six in let f = p.few in ranges-length n b (omega arith)

  pub range-near : (i : ℕ) → i < n → NearRange (range_as (get_or b i no_range))
  range-near i h = let s = p.six in let f = p.few in let l = count_of in
      subst NearRange (ranges-at n b i h (omega arith)) (near-at (ranges_of n b) i p.near (omega arith))

-- ---- one coefficient more

sum_more : (d : Side) (cs : List ℤ) (rs : List Model.Range) (i : ℕ) → i < length cs → i < length rs
    → extreme_sum d (take (suc i) cs) rs ≡ extreme_sum d (take i cs) rs +ℤ extreme_term d (get_or cs i (pos 0)) (get_or rs i (range_as no_range))
sum_more d [] rs i h k = absurd (omega arith)
sum_more d (c ∷ cs) [] i h k = absurd (omega arith)
sum_more d (c ∷ cs) (r ∷ rs) zero h k = sum-cons d c [] r rs
    ∙ rw (sum-none d rs, sum-none d (r ∷ rs)) (+ℤ_idr (extreme_term d c r) ∙ sym (+ℤ_idl (extreme_term d c r)))
sum_more d (c ∷ cs) (r ∷ rs) (suc i) h k = let x = extreme_term d (get_or cs i (pos 0)) (get_or rs i (range_as no_range)) in
    sum-cons d c (take (suc i) cs) r rs ∙ ap (extreme_term d c r +ℤ◌) (sum_more d cs rs i (omega arith) (omega arith))
    ∙ sym (+ℤ_assoc (extreme_term d c r) (extreme_sum d (take i cs) rs) x) ∙ ap (◌+ℤ x) (sym (sum-cons d c (take i cs) r rs))

sum-size : (d : Side) (cs : List ℤ) (rs : List Model.Range) → Within 32767 cs → NearRanges rs → size (extreme_sum d cs rs) ≤ length rs * 1073676289
sum-size d [] rs w n = rw (sum-none d rs) (omega arith)
sum-size d (c ∷ cs) [] w n = rw (sum-short d c cs) (omega arith)
sum-size d (c ∷ cs) (r ∷ rs) w n = rw (sum-cons d c cs r rs)
    (omega (arith, sum-size d cs rs w.1 n.1, term-size d c r w.0 n.0, size-add (extreme_term d c r) (extreme_sum d cs rs)))

-- ---- what the code's loops keep: the sum of the first i terms

pub record SoFar (d : Side) (w : List ℤ) (at n : ℕ) (b : List Range) (i : ℕ) (e : ℤ) : Type 0 where
  pub is : e ≡ extreme_sum d (take i (drop at w)) (ranges_of n b)

module _ (d : Side) (w : List ℤ) (at n : ℕ) (b : List Range) (p : SumIn w at n b) where
  pub nothing_yet : SoFar d w at n b 0 (pos 0)
  nothing_yet = record { is = sym (sum-none d (ranges_of n b)) }

  small-words : (i : ℕ) → Within 32767 (take i (drop at w))
  small-words i = within-take 32767 (drop at w) i (within-drop 32767 w at p.small)

  module _ (i : ℕ) (e : ℤ) (q : SoFar d w at n b i e) where
    so-far-size : size e ≤ 6442057734
    so-far-size = let l = count_of n b p.ranges in let f = p.ranges.few in
        subst (λ z. size z ≤ 6442057734) (sym q.is)
        (omega (arith, sum-size d (take i (drop at w)) (ranges_of n b) (small-words i) p.ranges.near))

    word_small : size (get_or w (at + i) (pos 0)) ≤ 32767
    word_small = within-at 32767 w p.small (at + i)

    module _ {c : ℤ} (v : c ≡ get_or w (at + i) (pos 0)) (h : i < n) where
      abbrev r : Model.Range
      r = range_as (get_or b i no_range)

      word-is : copy c ≡ get_or w (at + i) (pos 0)
      word-is = let s = word_small in ap copy v ∙ copied (get_or w (at + i) (pos 0)) (omega arith)

      end_is : (f : Side) → copy (end_of f r) ≡ end_of f r
      end_is f = let s = end-size f r (range-near n b p.ranges i h) in copied (end_of f r) (omega arith)

      -- whichever ends are taken
      pub ends-in : (f g : Side) → TermIn e (copy c) (copy (end_of f r)) (copy (end_of g r))
      ends-in f g = let s = so-far-size in let near = range-near n b p.ranges i h in
          record {
            sum = omega arith;
            coefficient = rw word-is word_small;
            up = rw (end_is f) (end-size f r near);
            down = rw (end_is g) (end-size g r near);
          }

      pub term_in : TermIn e (copy c) (copy (end_of d r)) (copy (end_of (other d) r))
      term_in = ends-in d (other d)

      in_words : i < length (drop at w)
      in_words = let l = length-drop at w in let o = p.inside in omega arith

      in-ranges : i < length (ranges_of n b)
      in-ranges = let l = count_of n b p.ranges in omega arith

      range-is : get_or (ranges_of n b) i (range_as no_range) ≡ r
      range-is = let s = p.ranges.six in let g = p.ranges.few in ranges-at n b i h (omega arith)

      pub next-sum : (f : ℤ) → f ≡ e +ℤ term_by (copy c) (copy (end_of d r)) (copy (end_of (other d) r)) → SoFar d w at n b (i + 1) f
      next-sum f g = record {
        is = g ∙ rw (q.is, word-is, end_is d, end_is (other d), ← term_is d (get_or w (at + i) (pos 0)) r)
            (sym (rw (add-one i, sum_more d (drop at w) (ranges_of n b) i in_words in-ranges, get_or-drop at w i (pos 0), range-is)));
      }

    pub whole_sum : i ≡ n → (e ≡ extreme_sum d (take n (drop at w)) (ranges_of n b)) × (size e ≤ 6442057734)
    whole_sum h = (q.is ∙ ap (λ (m : ℕ). extreme_sum d (take m (drop at w)) (ranges_of n b)) h, so-far-size)
