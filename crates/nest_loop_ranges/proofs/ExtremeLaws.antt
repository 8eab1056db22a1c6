-- The least value, which the lower limits of a loop ask for, and the greatest, which the upper ones do: of a term, of a sum, of a limit.
-- What is said of a side here is said of both.
use mathlib.Core.Path.{◌≡◌, refl}
use mathlib.Core.List.{List, [], ◌∷◌}
use Prim.Native.Nat.{◌≤◌}
use lib.IntN.{ℤ, pos, ◌+ℤ◌, ◌*ℤ◌}
use lib.Signed.{lt_z}
use Rattle.integers.specs.Difference.{size}
use Rattle.integers.proofs.RangeLaws.{size-mul}
use Rattle.lists.proofs.TestLaws.{cond_cases}
use Rattle.model.specs.Quick.{Range, least_term, greatest_term, least_sum, greatest_sum}
use Rattle.nest_index_range.specs.declared.Side.{Side}
use Rattle.nest_index_range.specs.declared.Side.TheVariants.{Lower, Upper}
use Rattle.nest_index_range.specs.Sides.{other}
use Rattle.nest_loop_ranges.specs.Extremes.{end_of, extreme_term, extreme_sum}
use Rattle.nest_loop_ranges.specs.Ranges.{NearRange, term_by}

pub term_is : (d : Side) (c : ℤ) (r : Range) → extreme_term d c r ≡ term_by c (end_of d r) (end_of (other d) r)
unfolding least_term greatest_term term_by
term_is Lower c r = refl
term_is Upper c r = refl

pub sum-none : (d : Side) (rs : List Range) → extreme_sum d [] rs ≡ pos 0
unfolding least_sum greatest_sum
sum-none Lower rs = refl
sum-none Upper rs = refl

pub sum-short : (d : Side) (c : ℤ) (cs : List ℤ) → extreme_sum d (c ∷ cs) [] ≡ pos 0
unfolding least_sum greatest_sum
sum-short Lower c cs = refl
sum-short Upper c cs = refl

pub sum-cons : (d : Side) (c : ℤ) (cs : List ℤ) (r : Range) (rs : List Range)
    → extreme_sum d (c ∷ cs) (r ∷ rs) ≡ extreme_term d c r +ℤ extreme_sum d cs rs
unfolding least_sum greatest_sum
sum-cons Lower c cs r rs = refl
sum-cons Upper c cs r rs = refl

-- ---- sizes

pub end-size : (d : Side) (r : Range) → NearRange r → size (end_of d r) ≤ 32767
end-size Lower r n = n.low
end-size Upper r n = n.high

pub term-size : (d : Side) (c : ℤ) (r : Range) → size c ≤ 32767 → NearRange r → size (extreme_term d c r) ≤ 1073676289
unfolding term_by
term-size d c r h n = rw (term_is d c r) (cond_cases (λ z. size z ≤ 1073676289) (lt_z (pos 0) c) (c *ℤ end_of d r) (c *ℤ end_of (other d) r)
    (λ _. size-mul c (end_of d r) h (end-size d r n)) (λ _. size-mul c (end_of (other d) r) h (end-size (other d) r n)))
