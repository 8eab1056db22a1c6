use Prim.Native.Nat.{◌≤◌}
use native.Mathlib.Omega.{arith}
use lib.IntN.{ℤ, ◌+ℤ◌, ◌*ℤ◌}
use mir.Syntax.{w32}
use mir.Val.{SFits}
use borrow.Author.Rules.{rules}
use Rattle.integers.specs.Difference.{size}
use Rattle.integers.proofs.RangeLaws.{size-add, size-mul}
use Rattle.step_limits.proofs.NumberLaws.{size_fits}
use Rattle.step_limits.proofs.combine.Goals as goal

ranges : (u x v y : ℤ) → (size u ≤ 32767) × (size x ≤ 32767) × (size v ≤ 32767) × (size y ≤ 32767)
    → SFits w32 (u *ℤ x) × (SFits w32 (v *ℤ y) × SFits w32 (u *ℤ x +ℤ v *ℤ y))
ranges u x v y h =
    let p = size-mul u x h.0 h.1 in
    let q = size-mul v y h.2 h.3 in (
      size_fits {n = 1073676289} p (omega arith),
      (
        size_fits {n = 1073676289} q (omega arith),
        size_fits {n = 2147352578}
            (omega (arith, p, q, size-add (u *ℤ x) (v *ℤ y))) (omega arith),
      ),
    )

pub overflow_mul-result : goal.overflow_mul-result
overflow_mul-result c = let r = ranges c.args.u c.args.x c.args.v c.args.y c.requires in search rules

pub overflow_mul-result-2 : goal.overflow_mul-result-2
overflow_mul-result-2 c = let r = ranges c.args.u c.args.x c.args.v c.args.y c.requires in search rules

pub overflow_add-result : goal.overflow_add-result
overflow_add-result c = let r = ranges c.args.u c.args.x c.args.v c.args.y c.requires in search rules

pub returns : goal.returns
returns c = let r = ranges c.args.u c.args.x c.args.v c.args.y c.requires in search rules
