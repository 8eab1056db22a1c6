use mathlib.Core.Path.{◌≡◌, ap, ◌∙◌}
use mathlib.Core.List.{List}
use Prim.Native.Nat.{ℕ, ◌<◌, ◌+◌, ◌≤◌}
use native.Mathlib.Omega.{arith}
use lib.IntN.{ℤ, pos, neg_ℤ}
use lib.ListN.{length, get_or, take, length-set}
use mir.Syntax.{w32}
use mir.Val.{to_z, of_z}
use borrow.Author.Rules.{rules}
use Rattle.integers.specs.Affine.{Within}
use Rattle.integers.specs.Difference.{size}
use Rattle.integers.proofs.RangeLaws.{size-neg}
use Rattle.step_limits.proofs.NumberLaws.{small-back}
use Rattle.step_limits.proofs.RowLaws.{front_at, front-skewed}
use Rattle.step_limits.proofs.skew_row.Goals as goal

module _ (n k : ℕ) (cs : List ℤ) (h : k < n) (w : Within 32767 (take n cs)) where
  at : size (get_or cs k (pos 0)) ≤ 32767
  at = front_at n cs k h w

  reads : to_z w32 (of_z w32 (get_or cs k (pos 0))) ≡ get_or cs k (pos 0)
  reads = small-back _ at

pub negate-requires : goal.negate-requires
negate-requires c = rw (small-back c.args.factor c.requires.2) c.requires.2

pub add_multiple-requires : goal.add_multiple-requires
add_multiple-requires c =
    let turned : to_z w32 (of_z w32 c.negate.result) ≡ neg_ℤ c.args.factor = let e : to_z w32 (of_z w32 c.negate.result) ≡ c.negate.result = search rules in e ∙ c.negate.ensures ∙ ap neg_ℤ (small-back c.args.factor c.requires.2) in
    let near : size (neg_ℤ c.args.factor) ≤ 32767 = rw (size-neg c.args.factor) c.requires.2 in
    let w = c.requires.3 in
    let h : c.args.a < c.args.n = omega arith in
    let g : c.args.a + 1 + c.args.d < c.args.n = omega arith in
    (rw (reads _ _ _ h w) (at _ _ _ h w), rw turned near, rw (reads _ _ _ g w) (at _ _ _ g w))

pub returns : goal.returns
returns c =
    let turned : to_z w32 (of_z w32 c.negate.result) ≡ neg_ℤ c.args.factor = let e : to_z w32 (of_z w32 c.negate.result) ≡ c.negate.result = search rules in e ∙ c.negate.ensures ∙ ap neg_ℤ (small-back c.args.factor c.requires.2) in
    let n : length c.args.cs ≡ 6 = search rules in
    let w = c.requires.3 in
    let h : c.args.a < c.args.n = omega arith in
    let g : c.args.a + 1 + c.args.d < c.args.n = omega arith in
    let e : to_z w32 (of_z w32 c.add_multiple.result) ≡ c.add_multiple.result = search rules in
    record {
      is = front-skewed c.args.n c.args.a c.args.d c.args.factor c.args.cs _ (omega arith) (omega arith)
          (e ∙ c.add_multiple.ensures ∙ simp (reads _ _ _ h w, turned, reads _ _ _ g w));
      room = simp length-set n;
    }
