-- `least_value` and `greatest_value`: the range of a loop that no limit has a coefficient of is not needed.
use Prim.Native.Nat.{◌+◌, ◌*◌}
use native.Mathlib.Omega.{arith}
use mathlib.Core.Path.{sym, subst}
use mathlib.Core.List.{List}
use lib.ListN.{get_or}
use Rattle.nest_index_range.specs.declared.Side.TheVariants.{Lower, Upper}
use Rattle.nest_loop_ranges.specs.declared.Range.{Range}
use Rattle.nest_loop_ranges.proofs.FreeLaws.{NeededAre, needed-free, needed-more, needed-in, needed-extreme}
use Rattle.nest_loop_ranges.proofs.+loop_values.Goals as goal
use Rattle.nest_loop_ranges.proofs.+loop_values.Goals.{least_value-then-has_coefficient, least_value-else-has_coefficient}
use Rattle.nest_loop_ranges.proofs.+loop_values.Goals.{greatest_value-then-has_coefficient, greatest_value-else-has_coefficient}

pub least_value-loop-i-preserved : goal.least_value-loop-i-preserved
least_value-loop-i-preserved t c =
    let l = c.loop-i in
    let f = c.requires.shallow in
    let a = c.args in
    let p = c.place-place.result in
    let are : List Range → Type 0 = NeededAre a.nest.now a.counts.now (p * 16) (get_or a.counts.now p 0) (l.i + 1) in
    elim c.if-has_coefficient.branch [
      | least_value-then-has_coefficient w ↦ subst are (sym w.outer-is) (needed-more _ _ _ _ l.i l.outer l.invariant _ _ (omega arith)
          w.least_value-least.ensures w.greatest_value-greatest.ensures)
      | least_value-else-has_coefficient w ↦ subst are (sym w.outer-is) (needed-free _ _ _ _ l.i l.outer l.invariant
          (c.has_coefficient.ensures.0 w.if-has_coefficient.false))
    ]

pub least_value-loop_extreme-requires : goal.least_value-loop_extreme-requires
least_value-loop_extreme-requires t c = let l = c.loop-i in needed-in _ _ _ _ c.args.k l.i l.outer c.requires l.invariant (omega arith)

pub least_value-returns : goal.least_value-returns
least_value-returns t c = let l = c.loop-i in let v = c.loop_extreme.ensures in (
  needed-extreme _ _ c.args.k l.i l.outer c.requires (omega arith) _ Lower c.place-place.ensures l.invariant v.0,
  v.1,
)

pub greatest_value-loop-i-preserved : goal.greatest_value-loop-i-preserved
greatest_value-loop-i-preserved t c =
    let l = c.loop-i in
    let f = c.requires.shallow in
    let a = c.args in
    let p = c.place-place.result in
    let are : List Range → Type 0 = NeededAre a.nest.now a.counts.now (p * 16) (get_or a.counts.now p 0) (l.i + 1) in
    elim c.if-has_coefficient.branch [
      | greatest_value-then-has_coefficient w ↦ subst are (sym w.outer-is) (needed-more _ _ _ _ l.i l.outer l.invariant _ _ (omega arith)
          w.least_value-least.ensures w.greatest_value-greatest.ensures)
      | greatest_value-else-has_coefficient w ↦ subst are (sym w.outer-is) (needed-free _ _ _ _ l.i l.outer l.invariant
          (c.has_coefficient.ensures.0 w.if-has_coefficient.false))
    ]

pub greatest_value-loop_extreme-requires : goal.greatest_value-loop_extreme-requires
greatest_value-loop_extreme-requires t c = let l = c.loop-i in needed-in _ _ _ _ c.args.k l.i l.outer c.requires l.invariant (omega arith)

pub greatest_value-returns : goal.greatest_value-returns
greatest_value-returns t c = let l = c.loop-i in let v = c.loop_extreme.ensures in (
  needed-extreme _ _ c.args.k l.i l.outer c.requires (omega arith) _ Upper c.place-place.ensures l.invariant v.0,
  v.1,
)
