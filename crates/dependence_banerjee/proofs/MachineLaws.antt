-- What the machine makes of small numbers: a sum of words, the difference of two products, an index beside a range, a range widened.
use mathlib.Core.Path.{◌≡◌, ◌∙◌}
use Prim.Native.Nat.{ℕ, ◌+◌, ◌≤◌}
use native.Mathlib.Omega.{arith}
use lib.IntN.{ℤ, ◌+ℤ◌, ◌-ℤ◌, ◌*ℤ◌}
use lib.Signed.{lt_z, ◌≤ℤ◌, ≤ℤ_refl}
use mir.Syntax.{w64}
use mir.Val.{SFits}
use Rattle.std.specs.Int.{int_max, int_min}
use Rattle.integers.specs.Difference.{size}
use Rattle.integers.proofs.RingLaws.{≤ℤ-trans}
use Rattle.integers.proofs.RangeLaws.{back, size_fits, size-add, size-sub, size-mul}
use Rattle.lists.proofs.TestLaws.{cond_cases}
use Rattle.nest_loop_ranges.specs.declared.Range.{Range}
use Rattle.nest_loop_ranges.proofs.TermLaws.{copy}
use Rattle.dependence_banerjee.specs.Spans.{TermDifferenceIn, Filled, Widened}

pub kept : (z : ℤ) {n : ℕ} → size z ≤ n → n ≤ 1099511627776 → copy z ≡ z
kept z {n} h g = back (size_fits {z = z} {n = n} h (omega arith))

-- ---- a sum

module _ (x y : ℤ) {m n : ℕ} (hx : size x ≤ m) (hy : size y ≤ n) (h : m + n ≤ 1099511627776) where
  addends : copy x +ℤ copy y ≡ x +ℤ y
  addends = rw (kept x hx (omega arith), kept y hy (omega arith))

  sum-size : size (x +ℤ y) ≤ m + n
  sum-size = omega (arith, size-add x y)

  pub sum_fits : SFits w64 (copy x +ℤ copy y)
  sum_fits = rw addends (size_fits sum-size (omega arith))

  pub sum_is : (copy (copy x +ℤ copy y) ≡ x +ℤ y) × (size (copy (copy x +ℤ copy y)) ≤ m + n)
  sum_is = let e = back sum_fits ∙ addends in (e, rw e sum-size)

  subtrahend : copy x -ℤ copy y ≡ x -ℤ y
  subtrahend = rw (kept x hx (omega arith), kept y hy (omega arith))

  difference-size : size (x -ℤ y) ≤ m + n
  difference-size = omega (arith, size-sub x y)

  pub difference-fits : SFits w64 (copy x -ℤ copy y)
  difference-fits = rw subtrahend (size_fits difference-size (omega arith))

  pub difference-is : (copy (copy x -ℤ copy y) ≡ x -ℤ y) × (size (copy (copy x -ℤ copy y)) ≤ m + n)
  difference-is = let e = back difference-fits ∙ subtrahend in (e, rw e difference-size)

-- ---- the difference of two products

module _ (c x : ℤ) (hc : size c ≤ 98301) (hx : size x ≤ 32768) where
  factors : copy c *ℤ copy x ≡ c *ℤ x
  factors = rw (kept c hc (omega arith), kept x hx (omega arith))

  product-size : size (c *ℤ x) ≤ 3221127168
  product-size = size-mul c x hc hx

  pub product-fits : SFits w64 (copy c *ℤ copy x)
  product-fits = rw factors (size_fits product-size (omega arith))

  product_is : copy (copy c *ℤ copy x) ≡ c *ℤ x
  product_is = back product-fits ∙ factors

module _ (c d x y : ℤ) (p : TermDifferenceIn c d x y) where
  products : copy (copy c *ℤ copy x) -ℤ copy (copy d *ℤ copy y) ≡ c *ℤ x -ℤ d *ℤ y
  products = rw (product_is c x p.source p.first, product_is d y p.sink p.second)

  term-difference-size : size (c *ℤ x -ℤ d *ℤ y) ≤ 6442254336
  term-difference-size = omega (arith, size-sub (c *ℤ x) (d *ℤ y), product-size c x p.source p.first, product-size d y p.sink p.second)

  pub term-difference-fits : SFits w64 (copy (copy c *ℤ copy x) -ℤ copy (copy d *ℤ copy y))
  term-difference-fits = rw products (size_fits term-difference-size (omega arith))

  pub term-difference-is : (copy (copy (copy c *ℤ copy x) -ℤ copy (copy d *ℤ copy y)) ≡ c *ℤ x -ℤ d *ℤ y)
      × (size (copy (copy (copy c *ℤ copy x) -ℤ copy (copy d *ℤ copy y))) ≤ 6442254336)
  term-difference-is = let e = back term-difference-fits ∙ products in (e, rw e term-difference-size)

-- ---- a range that is widened

pub only-filled : (z : ℤ) → size z ≤ 6442254336 → Filled (record { least = copy z; greatest = copy z }) × (copy z ≡ z) × (copy z ≡ z)
only-filled z h = let e = kept z h (omega arith) in (rw e (record { low = h; high = h; order = ≤ℤ_refl z }), e, e)

-- the lesser and the greater of two
lesser-size : (x y : ℤ) {n : ℕ} → size x ≤ n → size y ≤ n → size (int_min x y) ≤ n
lesser-size x y {n} h g = cond_cases (λ z. size z ≤ n) (lt_z y x) y x (λ _. g) (λ _. h)

greater-size : (x y : ℤ) {n : ℕ} → size x ≤ n → size y ≤ n → size (int_max x y) ≤ n
greater-size x y {n} h g = cond_cases (λ z. size z ≤ n) (lt_z y x) x y (λ _. h) (λ _. g)

pub widened : (r : Range) (z : ℤ) {a b : ℤ} → Filled r × (size z ≤ 6442254336)
    → (a ≡ int_min (copy r.least) (copy z)) × (a ≤ℤ copy r.least) × (a ≤ℤ copy z)
    → (b ≡ int_max (copy r.greatest) (copy z)) × (copy r.greatest ≤ℤ b) × (copy z ≤ℤ b)
    → Widened r z (record { least = copy a; greatest = copy b })
widened r z {a} {b} p l h =
    let kl = kept r.least p.0.low (omega arith) in
    let kh = kept r.greatest p.0.high (omega arith) in
    let kz = kept z p.1 (omega arith) in
    let sa : size a ≤ 6442254336 = rw (l.0, kl, kz) (lesser-size r.least z p.0.low p.1) in
    let sb : size b ≤ 6442254336 = rw (h.0, kh, kz) (greater-size r.greatest z p.0.high p.1) in
    let al : a ≤ℤ r.least = rw kl at l.1 in
    let az : a ≤ℤ z = rw kz at l.2 in
    let hb : r.greatest ≤ℤ b = rw kh at h.1 in
    let zb : z ≤ℤ b = rw kz at h.2 in
    rw (kept a sa (omega arith), kept b sb (omega arith)) (record {
      filled = record { low = sa; high = sb; order = ≤ℤ-trans al (≤ℤ-trans p.0.order hb) };
      low = al;
      high = hb;
      new = record { low = az; high = zb };
    })
