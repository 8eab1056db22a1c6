-- What the difference of two terms can be in one loop: a sign by its digit, then the corners that are in a range widened twice, then a law for
-- each sign.
use mathlib.Core.Path.{◌≡◌, sym, ◌∙◌, ap, subst}
use mathlib.Core.List.{[], ◌∷◌}
use Prim.Native.Nat.{ℕ, ◌≤◌, ◌<◌}
use native.Mathlib.Omega.{arith}
use lib.IntN.{ℤ, pos, neg_ℤ, ◌+ℤ◌, ◌-ℤ◌, ◌*ℤ◌}
use lib.Signed.{≤ℤ_refl}
use mir.Syntax.{w64}
use mir.Val.{SFits}
use Rattle.integers.specs.Difference.{size}
use Rattle.integers.specs.Sign.{Sign, less, equal, greater, sign}
use Rattle.integers.proofs.RingLaws.{≤ℤ-trans}
use Rattle.integers.proofs.SignLaws.{Means, sign-means, means-sign}
use Rattle.integers.proofs.RangeLaws.{size-neg}
use Rattle.integers.proofs.Polynomial.{◌⊖◌, ◌⊗◌, ⊝}
use Rattle.integers.proofs.Linear.{lin, ◌≐◌}
use Rattle.nest_loop_ranges.specs.declared.Range.{Range}
use Rattle.nest_loop_ranges.specs.Ranges.{range_as}
use Rattle.nest_loop_ranges.proofs.TermLaws.{copy}
use Rattle.dependence_vectors.specs.Numbers.{digit}
use Rattle.dependence_vectors.proofs.NumberLaws.{digit-unique}
use Rattle.dependence_banerjee.specs.Spans.{SpanIn, TermDifferenceIn, Widened, Spans}
use Rattle.dependence_banerjee.proofs.TermDifferenceLaws.{level-least, level-greatest, rising-least, rising-greatest}
use Rattle.dependence_banerjee.proofs.MachineLaws.{kept, sum_fits, sum_is, difference-fits, difference-is}
use Rattle.model.specs.Quick.{Contains}

digit-means : (s : Sign) (x y : ℤ) → digit (sign x y) ≡ digit s → Means s x y
digit-means s x y e = subst (λ t. Means t x y) (digit-unique (sign x y) s e) (sign-means x y)

-- ---- corners

stays : {r t : Range} {z x : ℤ} → Widened r z t → Contains (range_as r) x → Contains (range_as t) x
stays w h = record { low = ≤ℤ-trans w.low h.low; high = ≤ℤ-trans h.high w.high }

first-in : {t : Range} {z : ℤ} → (t.least ≡ z) × (t.greatest ≡ z) → Contains (range_as t) z
first-in {t} {z} e = record { low = rw e.0 (≤ℤ_refl z); high = rw e.1 (≤ℤ_refl z) }

-- ---- the indices beside an end

module _ (c d : ℤ) (r : Range) (p : SpanIn c d r) where
  least_kept : copy r.least ≡ r.least
  least_kept = kept r.least p.range.low (omega arith)

  greatest-kept : copy r.greatest ≡ r.greatest
  greatest-kept = kept r.greatest p.range.high (omega arith)

  pub next_fits : SFits w64 (copy r.least +ℤ pos 1)
  next_fits = sum_fits r.least (pos 1) {m = 32767} {n = 1} p.range.low (omega arith) (omega arith)

  next-is : (copy (copy r.least +ℤ pos 1) ≡ r.least +ℤ pos 1) × (size (copy (copy r.least +ℤ pos 1)) ≤ 32768)
  next-is = sum_is r.least (pos 1) {m = 32767} {n = 1} p.range.low (omega arith) (omega arith)

  pub last_fits : SFits w64 (copy r.greatest -ℤ pos 1)
  last_fits = difference-fits r.greatest (pos 1) {m = 32767} {n = 1} p.range.high (omega arith) (omega arith)

  last-is : (copy (copy r.greatest -ℤ pos 1) ≡ r.greatest -ℤ pos 1) × (size (copy (copy r.greatest -ℤ pos 1)) ≤ 32768)
  last-is = difference-is r.greatest (pos 1) {m = 32767} {n = 1} p.range.high (omega arith) (omega arith)

  least-near : size (copy r.least) ≤ 32768
  least-near = let h = p.range.low in rw least_kept (omega arith)

  greatest-near : size (copy r.greatest) ≤ 32768
  greatest-near = let h = p.range.high in rw greatest-kept (omega arith)

  term-difference-at : {x y : ℤ} → size x ≤ 32768 → size y ≤ 32768 → TermDifferenceIn c d x y
  term-difference-at h g = record { source = p.source; sink = p.sink; first = h; second = g }

  -- ---- =

  pub level-first : TermDifferenceIn c d (copy r.least) (copy r.least)
  level-first = term-difference-at least-near least-near

  pub level-last : TermDifferenceIn c d (copy r.greatest) (copy r.greatest)
  level-last = term-difference-at greatest-near greatest-near

  pub level-spans : (t : Range) {v : Range} {f g : ℤ} → f ≡ c *ℤ copy r.least -ℤ d *ℤ copy r.least → (t.least ≡ f) × (t.greatest ≡ f)
      → g ≡ c *ℤ copy r.greatest -ℤ d *ℤ copy r.greatest → Widened t g v → Spans c d r 1 v
  unfolding digit
  level-spans t {v} {f} {g} ef et eg w = record {
    low = w.filled.low;
    high = w.filled.high;
    holds = λ x y hx hy e. let q : x ≡ y = digit-means equal x y e in subst (λ z. Contains (range_as v) (c *ℤ x -ℤ d *ℤ z)) q (at x hx);
  }
    where
      first : Contains (range_as v) (c *ℤ r.least -ℤ d *ℤ r.least)
      first = subst (Contains (range_as v)) (ef ∙ rw least_kept) (stays w (first-in {t = t} et))

      last : Contains (range_as v) (c *ℤ r.greatest -ℤ d *ℤ r.greatest)
      last = subst (Contains (range_as v)) (eg ∙ rw greatest-kept) w.new

      at : (x : ℤ) → Contains (range_as r) x → Contains (range_as v) (c *ℤ x -ℤ d *ℤ x)
      at x h = record {
        low = level-least c d r.least r.greatest x h.low h.high v.least first.low last.low;
        high = level-greatest c d r.least r.greatest x h.low h.high v.greatest first.high last.high;
      }

  -- ---- <

  pub rising-first : TermDifferenceIn c d (copy r.least) (copy (copy r.least +ℤ pos 1))
  rising-first = term-difference-at least-near next-is.1

  pub rising-middle : TermDifferenceIn c d (copy r.least) (copy r.greatest)
  rising-middle = term-difference-at least-near greatest-near

  pub rising-last : TermDifferenceIn c d (copy (copy r.greatest -ℤ pos 1)) (copy r.greatest)
  rising-last = term-difference-at last-is.1 greatest-near

  pub rising-spans : (t : Range) {s v : Range} {f g h : ℤ} → f ≡ c *ℤ copy r.least -ℤ d *ℤ copy (copy r.least +ℤ pos 1) → (t.least ≡ f)
      × (t.greatest ≡ f)
      → g ≡ c *ℤ copy r.least -ℤ d *ℤ copy r.greatest → Widened t g s
      → h ≡ c *ℤ copy (copy r.greatest -ℤ pos 1) -ℤ d *ℤ copy r.greatest → Widened s h v → Spans c d r 0 v
  unfolding digit
  rising-spans t {s} {v} {f} {g} {h} ef et eg w eh u = record {
    low = u.filled.low;
    high = u.filled.high;
    holds = λ x y hx hy e. let q = digit-means less x y e in record {
      low = rising-least c d r.least r.greatest x y hx.low q hy.high v.least first.low middle.low last.low;
      high = rising-greatest c d r.least r.greatest x y hx.low q hy.high v.greatest first.high middle.high last.high;
    };
  }
    where
      first : Contains (range_as v) (c *ℤ r.least -ℤ d *ℤ (r.least +ℤ pos 1))
      first = subst (Contains (range_as v)) (ef ∙ rw (next-is.0, least_kept)) (stays u (stays w (first-in {t = t} et)))

      middle : Contains (range_as v) (c *ℤ r.least -ℤ d *ℤ r.greatest)
      middle = subst (Contains (range_as v)) (eg ∙ rw (least_kept, greatest-kept)) (stays u w.new)

      last : Contains (range_as v) (c *ℤ (r.greatest -ℤ pos 1) -ℤ d *ℤ r.greatest)
      last = subst (Contains (range_as v)) (eh ∙ rw (last-is.0, greatest-kept)) u.new

-- ---- >: x > y is y < x, with the two terms negated and exchanged

module _ (c d : ℤ) (r : Range) (p : SpanIn c d r) where
  exchanged : (x y : ℤ) → c *ℤ x -ℤ d *ℤ y ≡ neg_ℤ d *ℤ y -ℤ neg_ℤ c *ℤ x
  exchanged x y = lin (c ∷ d ∷ x ∷ y ∷ []) (λ c d x y. c ⊗ x ⊖ d ⊗ y ≐ ⊝ d ⊗ y ⊖ ⊝ c ⊗ x) tt

  pub falling-in : {e f : ℤ} → e ≡ neg_ℤ d → f ≡ neg_ℤ c → SpanIn e f r
  falling-in a b = record { source = rw (a, size-neg d) p.sink; sink = rw (b, size-neg c) p.source; range = p.range }

  pub falling-spans : {e f : ℤ} {t : Range} → e ≡ neg_ℤ d → f ≡ neg_ℤ c → Spans e f r 0 t → Spans c d r 2 t
  unfolding digit
  falling-spans {e} {f} {t} a b q = record {
    low = q.low;
    high = q.high;
    holds = λ x y hx hy g. rw (exchanged x y, sym a, sym b)
        (q.holds y x hy hx (ap digit (means-sign less y x (digit-means greater x y g))));
  }

-- ---- by the digit

pub span_of : {c d : ℤ} {r : Range} {s : ℕ} {t : Range} (k : ℕ) → s ≡ k → Spans c d r k t → Spans c d r s t
span_of {c} {d} {r} {s} {t} k e h = rw e h

pub last-digit : (s : ℕ) → s < 3 → (s ≡ 0 → ⊥) → (s ≡ 1 → ⊥) → s ≡ 2
last-digit s h a b = omega arith

pub span_between : {c d x y : ℤ} {r t : Range} {s : ℕ} → c ≡ x → d ≡ y → Spans c d r s t → Spans x y r s t
span_between e f h = rw (sym e, sym f) h
