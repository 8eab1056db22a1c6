use mathlib.Core.Path.{◌≡◌, ◌∙◌}
use Prim.Native.Nat.{◌+◌, ◌≤◌}
use native.Mathlib.Omega.{arith}
use lib.IntN.{pos}
use lib.ListN.{length, get_or, length-set}
use mir.Syntax.{w64}
use mir.Val.{to_z, of_z}
use Rattle.integers.specs.Difference.{size}
use Rattle.step_limits.proofs.RowLaws.{front_at}
use Rattle.step_points.specs.Points.{farthest}
use Rattle.step_points.proofs.IndexLaws.{index_back, front-skewed}
use borrow.Author.Rules.{rules}
use Rattle.step_points.proofs.skew_index.Goals as goal

pub add_multiple-z-requires : goal.add_multiple-z-requires
add_multiple-z-requires c =
    let factor-read : to_z w64 (of_z w64 c.from.result) ≡ c.args.factor = let b : to_z w64 (of_z w64 c.from.result) ≡ c.from.result = search rules in
    let e : c.from.result ≡ c.args.factor = search rules in b ∙ e in
    let at_x : size (get_or c.args.row c.args.a (pos 0)) ≤ farthest = front_at c.args.n c.args.row c.args.a (omega arith) c.requires.3 in
    let at_y : size (get_or c.args.row (c.args.a + 1 + c.args.d) (pos 0)) ≤ farthest = front_at c.args.n c.args.row (c.args.a + 1 + c.args.d) (omega arith) c.requires.3 in
    let reads-x : to_z w64 (of_z w64 (get_or c.args.row c.args.a (pos 0))) ≡ get_or c.args.row c.args.a (pos 0) = index_back _ at_x in
    let reads_y : to_z w64 (of_z w64 (get_or c.args.row (c.args.a + 1 + c.args.d) (pos 0))) ≡ get_or c.args.row (c.args.a + 1 + c.args.d) (pos 0) = index_back _ at_y in
    (rw reads_y at_y, rw (factor-read) c.requires.2, rw reads-x at_x)

pub returns : goal.returns
returns c =
    let factor-read : to_z w64 (of_z w64 c.from.result) ≡ c.args.factor = let b : to_z w64 (of_z w64 c.from.result) ≡ c.from.result = search rules in
    let e : c.from.result ≡ c.args.factor = search rules in b ∙ e in
    let n : length c.args.row ≡ 6 = search rules in
    let at_x : size (get_or c.args.row c.args.a (pos 0)) ≤ farthest = front_at c.args.n c.args.row c.args.a (omega arith) c.requires.3 in
    let at_y : size (get_or c.args.row (c.args.a + 1 + c.args.d) (pos 0)) ≤ farthest = front_at c.args.n c.args.row (c.args.a + 1 + c.args.d) (omega arith) c.requires.3 in
    let reads-x : to_z w64 (of_z w64 (get_or c.args.row c.args.a (pos 0))) ≡ get_or c.args.row c.args.a (pos 0) = index_back _ at_x in
    let reads_y : to_z w64 (of_z w64 (get_or c.args.row (c.args.a + 1 + c.args.d) (pos 0))) ≡ get_or c.args.row (c.args.a + 1 + c.args.d) (pos 0) = index_back _ at_y in
    let n : length c.args.row ≡ 6 = search rules in
    let e : to_z w64 (of_z w64 c.add_multiple-z.result) ≡ c.add_multiple-z.result = search rules in
    record {
      is = front-skewed c.args.n c.args.a c.args.d c.args.factor c.args.row _ (omega arith) (omega arith)
          (e ∙ c.add_multiple-z.ensures ∙ simp (reads-x, factor-read, reads_y));
      room = simp length-set n;
    }
