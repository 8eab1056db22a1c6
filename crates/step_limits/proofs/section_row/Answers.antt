use mathlib.Core.Path.{◌≡◌, ◌∙◌}
use Prim.Native.Nat.{◌≤◌}
use native.Mathlib.Omega.{arith}
use lib.IntN.{pos}
use lib.ListN.{length, get_or, length-set}
use mir.Syntax.{w32}
use mir.Val.{to_z, of_z}
use borrow.Author.Rules.{rules}
use Rattle.integers.specs.Difference.{size}
use Rattle.step_limits.proofs.NumberLaws.{small-back}
use Rattle.step_limits.proofs.RowLaws.{front_at, front-split}
use Rattle.step_limits.proofs.section_row.Goals as goal

pub times-requires : goal.times-requires
times-requires c =
    let at : size (get_or c.args.cs c.args.a (pos 0)) ≤ 32767 = front_at c.args.n c.args.cs c.args.a c.requires.0 c.requires.3 in
    (rw (small-back _ at) at, c.requires.2)

pub returns : goal.returns
returns c =
    let n : length c.args.cs ≡ 6 = search rules in
    let e : to_z w32 (of_z w32 c.times.result) ≡ c.times.result = search rules in
    let at : size (get_or c.args.cs c.args.a (pos 0)) ≤ 32767 = front_at c.args.n c.args.cs c.args.a c.requires.0 c.requires.3 in
    record {
      is = front-split c.args.w c.args.a c.args.n c.double_place-r.result c.args.cs _ (omega arith) c.requires.0
          c.double_place-r.ensures.is (e ∙ c.times.ensures ∙ rw (small-back _ at));
      room = simp length-set c.double_place-r.ensures.room;
    }
