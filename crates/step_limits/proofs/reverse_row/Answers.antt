use mathlib.Core.Path.{◌≡◌, ◌∙◌, ap}
use Prim.Native.Nat.{◌≤◌}
use native.Mathlib.Omega.{arith}
use lib.IntN.{pos, neg_ℤ}
use lib.ListN.{length, get_or, length-set}
use mir.Syntax.{w32}
use mir.Val.{to_z, of_z}
use borrow.Author.Rules.{rules}
use Rattle.integers.specs.Difference.{size}
use Rattle.step_limits.proofs.RowLaws.{front_at, front-on_head}
use Rattle.step_limits.proofs.reverse_row.Goals as goal

pub negate-requires : goal.negate-requires
negate-requires c =
    let at : size (get_or c.args.cs c.args.a (pos 0)) ≤ 32767 = let l : length c.args.cs ≡ 6 = search rules in front_at c.args.n c.args.cs c.args.a
    (omega arith) c.requires.2 in
    let read : to_z w32 (of_z w32 (get_or c.args.cs c.args.a (pos 0))) ≡ get_or c.args.cs
    c.args.a (pos 0) = search rules in
    rw read at

pub returns : goal.returns
returns c =
    let read : to_z w32 (of_z w32 (get_or c.args.cs c.args.a (pos 0))) ≡ get_or c.args.cs
    c.args.a (pos 0) = search rules in
    let e : to_z w32 (of_z w32 c.negate.result) ≡ c.negate.result = search rules in
    let n : length c.args.cs ≡ 6 = search rules in
    record {
      is = front-on_head (pos 0) neg_ℤ c.args.n c.args.a c.args.cs _ (omega arith)
          (e ∙ c.negate.ensures ∙ ap neg_ℤ read);
      room = simp length-set n;
    }
