-- `number`: the product and the sum stay within 64 bits.
use mathlib.Core.Path.{◌≡◌}
use native.Mathlib.Omega.{arith}
use lib.IntN.{pos, ◌+ℤ◌, ◌*ℤ◌}
use mir.Syntax.{w64}
use mir.Val.{SFits, to_z}
use Rattle.integers.proofs.RangeLaws.{back, from-nat}
use Rattle.nest_elements.proofs.FormLaws.{number_fits}
use Rattle.nest_elements.proofs.number.Goals as goal

pub overflow_mul-result : goal.overflow_mul-result
overflow_mul-result c =
    let extent-is : to_z w64 c.args.extent ≡ pos c.args.extent = let h = c.requires.1 in from-nat (omega arith) in
    let fit : SFits w64 (c.args.x *ℤ pos c.args.extent) × SFits w64 (c.args.x *ℤ pos c.args.extent +ℤ c.args.word) = number_fits c.args.x c.args.word c.args.extent c.requires in
    simp (back, c.ranges.x, extent-is) fit.0

pub overflow_add-result : goal.overflow_add-result
overflow_add-result c =
    let extent-is : to_z w64 c.args.extent ≡ pos c.args.extent = let h = c.requires.1 in from-nat (omega arith) in
    let fit : SFits w64 (c.args.x *ℤ pos c.args.extent) × SFits w64 (c.args.x *ℤ pos c.args.extent +ℤ c.args.word) = number_fits c.args.x c.args.word c.args.extent c.requires in
    simp (back, c.ranges.x, c.ranges.word, extent-is, fit.0) fit.1

pub returns : goal.returns
returns c =
    let extent-is : to_z w64 c.args.extent ≡ pos c.args.extent = let h = c.requires.1 in from-nat (omega arith) in
    let fit : SFits w64 (c.args.x *ℤ pos c.args.extent) × SFits w64 (c.args.x *ℤ pos c.args.extent +ℤ c.args.word) = number_fits c.args.x c.args.word c.args.extent c.requires in
    simp (back, c.ranges.x, c.ranges.word, extent-is, fit.0, fit.1)
