-- Limits on flat words. In order: words that stand as they did; a limit that was put, and the others; small words.
use mathlib.Core.Path.{◌≡◌, sym, ap, ◌∙◌}
use mathlib.Core.Bool.{◌&&◌}
use mathlib.Core.List.{List, [], ◌∷◌}
use Prim.Native.Nat.{ℕ, ◌+◌, ◌*◌, ◌≤◌, ◌<◌}
use native.Mathlib.Omega.{arith}
use native.Mathlib.Nat.{add-zero}
use lib.Dec.{T, leb, leb→le, le→leb}
use lib.IntN.{ℤ, pos, nat_abs}
use lib.ListN.{length, get_or, take, drop, length-drop}
use lib.Seq.{drop-drop, get_or-take, get_or-drop, length-take-le, ext_get_or}
use Rattle.lists.specs.Parts.{put}
use Rattle.lists.specs.Tests.{all}
use Rattle.lists.proofs.PartLaws.{drop-take, put_written, get_d-put, get_d-put-before, get_d-put-after}
use Rattle.lists.proofs.TestLaws.{and_both, and_intro}
use Rattle.integers.specs.Affine.{Within}
use Rattle.integers.specs.Difference.{size}
use Rattle.integers.proofs.AffineLaws.{within-at, within-take}
use Rattle.integers.proofs.RangeLaws.{size-nat_abs}
use Rattle.model.specs.Ticket.{Limit}
use Rattle.model.specs.Encode.{limit_words}
use Rattle.model.specs.Judge.{small, small_limit}
use Rattle.nest_flat.specs.Flat.{limit_at}
use Rattle.nest_index_range.proofs.LimitLaws.{within-drop}
use Rattle.nest_rows.proofs.SmallLaws.{number_small, row_small}
use Rattle.step_limits.specs.Small.{SmallLimit}
use Rattle.step_limits.proofs.LimitLaws.{same-limit}

-- ---- words that stand as they did

pub limit-same : (s t : List ℤ) (k j : ℕ) → k ≤ 6 → j * 8 + 8 ≤ length s → length t ≡ length s
    → ((p : ℕ) → j * 8 ≤ p → p < j * 8 + 8 → get_or t p (pos 0) ≡ get_or s p (pos 0)) → limit_at t k j ≡ limit_at s k j
unfolding limit_at
limit-same s t k j h g e f =
    let n = length-drop (j * 8 + 2) s in
    let m = length-drop (j * 8 + 2) t in
    let a : length (take k (drop (j * 8 + 2) t)) ≡ k = length-take-le k (drop (j * 8 + 2) t) (omega arith) in
    let b : length (take k (drop (j * 8 + 2) s)) ≡ k = length-take-le k (drop (j * 8 + 2) s) (omega arith) in
    same-limit (ap nat_abs (f (j * 8) (omega arith) (omega arith))) (f (j * 8 + 1) (omega arith) (omega arith))
    (ext_get_or (pos 0) (take k (drop (j * 8 + 2) t)) (take k (drop (j * 8 + 2) s)) (a ∙ sym b)
    (λ i q. get_or-take k (drop (j * 8 + 2) t) i (pos 0) (omega arith) ∙ get_or-drop (j * 8 + 2) t i (pos 0)
    ∙ f (j * 8 + 2 + i) (omega arith) (omega arith)
    ∙ sym (get_or-drop (j * 8 + 2) s i (pos 0)) ∙ sym (get_or-take k (drop (j * 8 + 2) s) i (pos 0) (omega arith))))

-- ---- a limit that was put

module _ (s : List ℤ) (j k : ℕ) (l : Limit) (shallow : k ≤ 6) (e : length l.coefficients ≡ k) (h : j * 8 + 8 ≤ length s) where
  words-length : length (limit_words l) ≡ 2 + k
  unfolding limit_words
  words-length = omega arith

  pub put-before : (p : ℕ) → p < j * 8 → get_or (put s (j * 8) (limit_words l)) p (pos 0) ≡ get_or s p (pos 0)
  put-before p q = get_d-put-before s (j * 8) (limit_words l) p (pos 0) q (omega arith)

  pub put-after : (p : ℕ) → j * 8 + 8 ≤ p → get_or (put s (j * 8) (limit_words l)) p (pos 0) ≡ get_or s p (pos 0)
  put-after p q = let n = words-length in get_d-put-after s (j * 8) (limit_words l) p (pos 0) (omega arith) (omega arith)

  pub head-put : get_or (put s (j * 8) (limit_words l)) (j * 8) (pos 0) ≡ pos l.multiplier
  unfolding limit_words
  head-put = ap (λ i. get_or (put s (j * 8) (limit_words l)) i (pos 0)) (sym (add-zero (j * 8)))
      ∙ get_d-put s (j * 8) (limit_words l) 0 (pos 0) (omega arith) (omega arith)

  pub limit-put : limit_at (put s (j * 8) (limit_words l)) k j ≡ l
  unfolding limit_at limit_words
  limit-put =
      let w = limit_words l in
      let P = put s (j * 8) w in
      let n : length w ≡ 2 + k = words-length in
      let q : get_or P (j * 8 + 1) (pos 0) ≡ l.constant = get_d-put s (j * 8) w 1 (pos 0) (omega arith) (omega arith) in
      let f : take k (drop (j * 8 + 2) P) ≡ l.coefficients =
      ap (take k) (sym (drop-drop 2 (j * 8) P)) ∙ sym (drop-take 2 k (drop (j * 8) P)) ∙ ap (λ i. drop 2 (take i (drop (j * 8) P))) (sym n)
      ∙ ap (drop 2) (put_written s (j * 8) w (omega arith)) in
      same-limit (ap nat_abs head-put) q f

-- ---- small words

pub limit-near : (s : List ℤ) (k j : ℕ) → Within 32767 s → SmallLimit (limit_at s k j)
unfolding limit_at
limit-near s k j w = record {
  multiplier = let h = within-at 32767 s w (j * 8) in omega (arith, size-nat_abs (get_or s (j * 8) (pos 0)));
  constant = within-at 32767 s w (j * 8 + 1);
  coefficients = within-take 32767 (drop (j * 8 + 2) s) k (within-drop 32767 s (j * 8 + 2) w);
}

-- what the test says, and what passes it
pub limit-small : (l : Limit) → T (small_limit l) → SmallLimit l
unfolding small_limit
limit-small l t =
    let b = and_both (leb l.multiplier 32767) (small l.constant && all small l.coefficients) t in
    let c = and_both (small l.constant) (all small l.coefficients) b.1 in
    record {
      multiplier = leb→le l.multiplier 32767 b.0;
      constant = number_small l.constant c.0;
      coefficients = row_small
          l.coefficients c.1;
    }

number-passes : (x : ℤ) → size x ≤ 32767 → T (small x)
unfolding small
number-passes x h = le→leb (nat_abs x) 32767 (omega (arith, size-nat_abs x))

row-passes : (cs : List ℤ) → Within 32767 cs → T (all small cs)
unfolding all
row-passes [] w = tt
row-passes (x ∷ cs) w = and_intro (small x) (all small cs) (number-passes x w.0) (row-passes cs w.1)

pub small-passes : (l : Limit) → SmallLimit l → T (small_limit l)
unfolding small_limit
small-passes l s =
    and_intro (leb l.multiplier 32767) (small l.constant && all small l.coefficients) (le→leb l.multiplier 32767 s.multiplier)
    (and_intro (small l.constant) (all small l.coefficients) (number-passes l.constant s.constant)
    (row-passes l.coefficients s.coefficients))

pub words-within : (l : Limit) → SmallLimit l → Within 32767 (limit_words l)
unfolding limit_words
words-within l r = (omega (arith, r.multiplier), (r.constant, r.coefficients))
