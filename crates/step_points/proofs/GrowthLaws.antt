-- How far a step takes the indices of a point.
use mathlib.Core.Path.{◌≡◌, ap}
use mathlib.Core.List.{List, [], ◌∷◌}
use Prim.Native.Nat.{ℕ, zero, suc, ◌+◌, ◌-◌, ◌*◌, ◌≤◌}
use native.Mathlib.Omega.{arith}
use lib.IntN.{ℤ, pos, neg_ℤ, ◌+ℤ◌, ◌-ℤ◌, ◌*ℤ◌}
use lib.Signed.{◌<ℤ◌}
use Rattle.integers.specs.Affine.{Within}
use Rattle.integers.specs.Difference.{size}
use Rattle.integers.specs.Division.{floor_div}
use Rattle.integers.proofs.AffineLaws.{within_more}
use Rattle.integers.proofs.DivisionLaws.{size-floor, rest-low, rest-high}
use Rattle.integers.proofs.DifferenceLaws.{neg-fact}
use Rattle.integers.proofs.RangeLaws.{size-add, size-neg, size-mul, size-nat_abs, size_of}
use Rattle.integers.proofs.RingLaws.{zarith}
use Rattle.lists.specs.Place.{under, on_head, swapped, swap_all}
use Rattle.model.specs.Grammar.{most_factor}
use Rattle.model.specs.Ranges.{StepThere}
use Rattle.model.specs.Steps.{skewed, sectioned, chain, forward}
use Rattle.model.specs.Ticket.{Step, exchange, reversal, skew, section, circulation}
use Rattle.step_points.specs.Points.{farthest, grown, reach}

-- ---- a change at a place

within-under : {b c : ℕ} (f : List ℤ → List ℤ) → b ≤ c → ((l : List ℤ) → Within b l → Within c (f l))
    → (a : ℕ) (l : List ℤ) → Within b l → Within c (under a f l)
unfolding under
within-under f k h zero l w = h l w
within-under f k h (suc a) [] w = tt
within-under f k h (suc a) (x ∷ l) w = let s = w.0 in (omega arith, within-under f k h a l w.1)

within-on_head : {b c : ℕ} (f : ℤ → ℤ) → b ≤ c → ((x : ℤ) → size x ≤ b → size (f x) ≤ c) → (l : List ℤ) → Within b l → Within c (on_head f l)
unfolding on_head
within-on_head f k h [] w = tt
within-on_head f k h (x ∷ l) w = (h x w.0, within_more l w.1 k)

within-swapped : (b : ℕ) (l : List ℤ) → Within b l → Within b (swapped l)
unfolding swapped
within-swapped b [] w = tt
within-swapped b (x ∷ []) w = w
within-swapped b (x ∷ y ∷ l) w = (w.1.0, (w.0, w.1.1))

within-swap_all : (b : ℕ) (ks : List ℕ) (l : List ℤ) → Within b l → Within b (swap_all ks l)
unfolding swap_all
within-swap_all b [] l w = w
within-swap_all b (k ∷ ks) l w = within-swap_all b ks (under k swapped l) (within-under swapped (omega arith) (within-swapped b) k l w)

-- ---- a skew and a section

within-skewed : (b d : ℕ) (c : ℤ) → size c ≤ most_factor → (l : List ℤ) → Within b l → Within (grown b) (skewed d c l)
unfolding skewed
within-skewed b d c h [] w = tt
within-skewed b d c h (x ∷ p) w = let s = w.0 in let k : size (c *ℤ x) ≤ most_factor * b = size-mul c x h s in (
  omega arith,
  within-under (on_head (λ y. y +ℤ (c *ℤ x))) (omega arith)
      (within-on_head (λ y. y +ℤ (c *ℤ x)) (omega arith) (λ y g. omega (arith, size-add y (c *ℤ x)))) d p w.1,
)

within-sectioned : (b v : ℕ) → 256 ≤ b → 1 ≤ v → v ≤ 256 → (l : List ℤ) → Within b l → Within b (sectioned v l)
unfolding sectioned
within-sectioned b v k h g [] w = tt
within-sectioned b v k h g (x ∷ p) w =
    let s = w.0 in
    let a : pos 0 <ℤ pos v = omega zarith in
    let low = rest-low (pos v) a x in
    let high = rest-high (pos v) a x in
    let e : size (x -ℤ pos v *ℤ floor_div x (pos v)) ≤ 256 =
    size_of (x -ℤ pos v *ℤ floor_div x (pos v)) 256 (omega zarith) (omega (zarith, neg-fact (pos 256))) in
    let f = size-floor x (pos v) in
    (omega arith, (omega arith, w.1))

-- ---- any step

pub within-forward : (b n : ℕ) (t : Step) → StepThere n t → 256 ≤ b → (l : List ℤ) → Within b l → Within (grown b) (forward t l)
unfolding forward
within-forward b n (exchange a) h k l w = within_more (under a swapped l) (within-under swapped (omega arith) (within-swapped b) a l w) (omega arith)
within-forward b n (reversal a) h k l w =
    within-under (on_head neg_ℤ) (omega arith) (within-on_head neg_ℤ (omega arith) (λ x s. omega (arith, size-neg x))) a l w
within-forward b n (skew a d c) h k l w = let g = h.1.high in
    within-under (skewed d c) (omega arith) (within-skewed b d c (omega (arith, size-nat_abs c))) a l w
within-forward b n (section a v) h k l w = let g = h.2.low in
    within_more (under a (sectioned v) l) (within-under (sectioned v) (omega arith) (within-sectioned b v k (omega arith) h.2.high) a l w)
    (omega arith)
within-forward b n (circulation a b') h k l w = within_more (swap_all (chain a b') l) (within-swap_all b (chain a b') l w) (omega arith)

-- ---- k steps

pub reach-low : (k : ℕ) → 256 ≤ reach k
unfolding reach
reach-low zero = omega arith
reach-low (suc k) = let h = reach-low k in omega arith

reach-rise : (k m : ℕ) → reach k ≤ reach (m + k)
unfolding reach
reach-rise k zero = let e : zero + k ≡ k = omega arith in omega (arith, ap reach e)
reach-rise k (suc m) = let h = reach-rise k m in let e : suc m + k ≡ suc (m + k) = omega arith in omega (arith, ap reach e)

-- eight steps leave room for one more
pub reach-small : (k : ℕ) → k ≤ 8 → reach k ≤ farthest
unfolding reach
reach-small k g =
    let h = reach-rise k (8 - k) in
    let e : 8 - k + k ≡ 8 = omega arith in
    let a : reach 8 ≤ farthest = omega arith in
    omega (arith, ap reach e)
