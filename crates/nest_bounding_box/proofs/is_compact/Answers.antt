use mathlib.Core.Path.{◌≡◌, subst}
use mathlib.Core.Bool.{false}
use Prim.Native.Nat.{ℕ, ◌<◌}
use native.Mathlib.Omega.{arith}
use native.Mathlib.Nat.{mul-le-mul}
use lib.ListN.{length-take}
use lib.Seq.{get_or-take}
use Rattle.lists.proofs.TestLaws.{true-T}
use Rattle.nest_loop_ranges.specs.Ranges.{ranges_of}
use Rattle.nest_loop_ranges.proofs.SumLaws.{range-near}
use Rattle.nest_bounding_box.specs.Boxes.{Compact}
use Rattle.nest_bounding_box.proofs.WidthLaws.{no-range, one-range}
use Rattle.nest_bounding_box.proofs.is_compact.Goals as goal

pub loop-range-init : goal.loop-range-init
loop-range-init c = (omega arith, no-range c.args.ranges)

pub is_unclamped-requires : goal.is_unclamped-requires
is_unclamped-requires c = let l = length-take c.args.n c.args.ranges in let v : c.loop-range.range-index < c.args.n = omega arith in
    rw get_or-take (range-near c.args.n c.args.ranges c.requires c.loop-range.range-index v)

pub returns-then-not-is_unclamped : goal.returns-then-not-is_unclamped
returns-then-not-is_unclamped c = λ e. absurd (true-T false e)

pub width-volume-requires : goal.width-volume-requires
width-volume-requires c = let l = length-take c.args.n c.args.ranges in let v : c.loop-range.range-index < c.args.n = omega arith in
    rw get_or-take (range-near c.args.n c.args.ranges c.requires c.loop-range.range-index v)

pub overflow_mul-volume : goal.overflow_mul-volume
overflow_mul-volume c = omega (arith, mul-le-mul c.loop-range.invariant.1.small c.width-volume.ensures.1)

pub returns-then-volume-gt65536 : goal.returns-then-volume-gt65536
returns-then-volume-gt65536 c = λ e. absurd (true-T false e)

pub loop-range-preserved : goal.loop-range-preserved
loop-range-preserved c = let l = c.loop-range in let t = c.is_unclamped in let w = c.width-volume in let z = c.requires.six
    in let f = c.requires.few in let k = length-take c.args.n c.args.ranges in let v : l.range-index < c.args.n = omega arith in (
      omega arith,
      one-range c.args.ranges l.range-index l.volume w.result (omega arith) l.invariant.1
          (rw get_or-take at (t.ensures c.if-not-is_unclamped.false)) (rw get_or-take at w.ensures.0) (omega arith),
    )

pub returns : goal.returns
returns c = λ _. let l = c.loop-range in let k = length-take c.args.n c.args.ranges in let z = c.requires.six in let f = c.requires.few in
    let e : l.range-index ≡ c.args.n = omega arith
    in subst (λ (k : ℕ). Compact (ranges_of k c.args.ranges)) e l.invariant.1.compact
