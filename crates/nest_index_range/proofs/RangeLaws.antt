-- The range of a loop: what a nest gives that it asks, and how many indices it has.
use mathlib.Core.Path.{◌≡◌, refl, sym, ◌∙◌}
use mathlib.Core.Bool.{true, false}
use mathlib.Core.List.{List}
use Prim.Native.Nat.{ℕ, ◌+◌, ◌*◌, ◌≤◌, ◌<◌}
use native.Mathlib.Omega.{arith}
use native.Mathlib.Numerals.{add-one}
use lib.Dec.{T}
use lib.IntN.{ℤ, pos, negsuc, nat_abs, ◌-ℤ◌}
use lib.Signed.{lt_z, non_neg, ◌≤ℤ◌, ◌<ℤ◌}
use lib.ListN.{length}
use mir.Syntax.{w64}
use mir.Val.{SFits, Fits, to_z, of_z}
use Rattle.integers.specs.Difference.{size}
use Rattle.integers.specs.Affine.{Within}
use Rattle.integers.proofs.DifferenceLaws.{sub-fact}
use Rattle.integers.proofs.RingLaws.{zarith}
use Rattle.integers.proofs.RangeLaws.{back, size_fits, size-sub, size-nat_abs, cast_ok, test-lt, test-lt-no}
use Rattle.model.specs.Points.{span, first_index, last_index}
use Rattle.nest_flat.specs.Flat.{NestOk, loop_at}
use Rattle.nest_index_range.specs.declared.Side.{Side}
use Rattle.nest_index_range.specs.declared.Side.TheVariants.{Lower, Upper}
use Rattle.nest_index_range.specs.Ranges.{Narrow, allowed, end, Outside, EndIn, RangeIn, Ranged}
use Rattle.nest_index_range.proofs.LimitLaws.{copied}

pub range-in : (s : List ℤ) (c : List ℕ) (depth : ℕ) (outer : List ℤ) → NestOk s c depth → length outer < depth → Within 100000 outer
    → RangeIn s c outer
range-in s c depth outer p h w =
    let d = p.shallow in let k = length outer in
    let o : Outside outer = record { few = omega arith; near = w } in
    let a = p.lower-count (length outer) h in let b = p.upper-count (length outer) h in
    record {
      counts = p.counts;
      deep = omega arith;
      lower = record {
        words = p.words;
        small = p.small;
        some = a.0;
        inside = omega arith;
        positive = p.lower-positive (length outer) h;
        outside = o;
      };
      upper = record {
        words = p.words;
        small = p.small;
        some = b.0;
        inside = omega arith;
        positive = p.upper-positive (length outer) h;
        outside = o;
      };
    }

-- one side of it
pub end-in : (d : Side) {s : List ℤ} {c : List ℕ} {outer : List ℤ} → RangeIn s c outer → EndIn d s c outer
end-in Lower {s} {c} {outer} p = record {
  counts = p.counts;
  deep = p.deep;
  side = let e : length outer * 32 ≡ length outer * 2 * 16 = omega arith in rw e at p.lower;
}
end-in Upper {s} {c} {outer} p = record {
  counts = p.counts;
  deep = p.deep;
  side = let e : length outer * 32 + 16 ≡ (length outer * 2 + 1) * 16 = omega arith in rw e at p.upper;
}

-- the model's ends
pub ranged : (s : List ℤ) (c : List ℕ) (outer : List ℤ) {lo hi : ℤ} → (lo ≡ end Lower s c outer) × Narrow lo → (hi ≡ end Upper s c outer) × Narrow hi
    → Ranged (loop_at s c (length outer)) outer (to_z w64 (of_z w64 lo)) (to_z w64 (of_z w64 hi))
unfolding loop_at end first_index last_index allowed
ranged s c outer {lo} {hi} p q =
    let e : length outer * 2 * 16 ≡ length outer * 32 = omega arith in
    let f : (length outer * 2 + 1) * 16 ≡ length outer * 32 + 16 = omega arith in
    let a = copied lo p.1 in let b = copied hi q.1 in
    record { first = a ∙ rw e at p.0; last = b ∙ rw f at q.0; low-size = rw a p.1; high-size = rw b q.1 }

-- ---- how many indices

span-negative : (d : ℤ) → d <ℤ pos 0 → ◌≡◌ {A = ℕ} 0 (span d)
unfolding span
span-negative (pos n) h = absurd (omega zarith)
span-negative (negsuc n) h = refl

span-positive : (d : ℤ) → pos 0 ≤ℤ d → nat_abs d + 1 ≡ span d
unfolding span
span-positive (pos n) h = add-one n
span-positive (negsuc n) h = absurd (omega zarith)

module _ (lo hi : ℤ) (p : Narrow lo × Narrow hi) where
  difference-size : size (hi -ℤ lo) ≤ 68719476736
  difference-size = omega (arith, size-sub hi lo)

  difference-is : to_z w64 (of_z w64 hi) -ℤ to_z w64 (of_z w64 lo) ≡ hi -ℤ lo
  difference-is = rw (copied lo p.0, copied hi p.1)

  pub difference-fits : SFits w64 (to_z w64 (of_z w64 hi) -ℤ to_z w64 (of_z w64 lo))
  difference-fits = rw difference-is (size_fits difference-size (omega arith))

  read_back : to_z w64 (of_z w64 (to_z w64 (of_z w64 hi) -ℤ to_z w64 (of_z w64 lo))) ≡ hi -ℤ lo
  read_back = back difference-fits ∙ difference-is

  read-order : lt_z (to_z w64 (of_z w64 hi)) (to_z w64 (of_z w64 lo)) ≡ lt_z hi lo
  read-order = rw (copied lo p.0, copied hi p.1)

  pub none : lt_z (to_z w64 (of_z w64 hi)) (to_z w64 (of_z w64 lo)) ≡ true → (◌≡◌ {A = ℕ} 0 (span (hi -ℤ lo))) × (0 ≤ 68719476737)
  none e = let h : hi <ℤ lo = test-lt (sym read-order ∙ e) in (span-negative (hi -ℤ lo) (omega (zarith, sub-fact hi lo)), omega arith)

  module _ (e : lt_z (to_z w64 (of_z w64 hi)) (to_z w64 (of_z w64 lo)) ≡ false) where
    not-negative : pos 0 ≤ℤ (hi -ℤ lo)
    not-negative = let h : lo ≤ℤ hi = test-lt-no (sym read-order ∙ e) in omega (zarith, sub-fact hi lo)

    pub difference-cast : T (non_neg (to_z w64 (of_z w64 (to_z w64 (of_z w64 hi) -ℤ to_z w64 (of_z w64 lo)))))
        × Fits w64 (nat_abs (to_z w64 (of_z w64 (to_z w64 (of_z w64 hi) -ℤ to_z w64 (of_z w64 lo)))))
    difference-cast = rw read_back (cast_ok (hi -ℤ lo) not-negative (size_fits difference-size (omega arith)))

    pub one_more : Fits w64 (nat_abs (to_z w64 (of_z w64 (to_z w64 (of_z w64 hi) -ℤ to_z w64 (of_z w64 lo)))) + 1)
    one_more = rw read_back (let d = difference-size in let n = size-nat_abs (hi -ℤ lo) in record { fits = omega arith })

    pub how-many : (nat_abs (to_z w64 (of_z w64 (to_z w64 (of_z w64 hi) -ℤ to_z w64 (of_z w64 lo)))) + 1 ≡ span (hi -ℤ lo))
        × (nat_abs (to_z w64 (of_z w64 (to_z w64 (of_z w64 hi) -ℤ to_z w64 (of_z w64 lo)))) + 1 ≤ 68719476737)
    how-many = rw read_back (let d = difference-size in let n = size-nat_abs (hi -ℤ lo) in (span-positive (hi -ℤ lo) not-negative, omega arith))
