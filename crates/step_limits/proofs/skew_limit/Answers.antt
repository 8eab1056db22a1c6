use mathlib.Core.Path.{◌≡◌, ◌∙◌}
use Prim.Native.Nat.{ℕ, ◌<◌, ◌≤◌}
use native.Mathlib.Omega.{arith}
use lib.IntN.{pos}
use lib.ListN.{length, get_or}
use mir.Syntax.{w32}
use mir.Val.{to_z, of_z}
use borrow.Author.Rules.{rules}
use Rattle.integers.specs.Difference.{size}
use Rattle.integers.proofs.RangeLaws.{sfits}
use Rattle.ticket_loops.specs.declared.Limit.{Limit}
use Rattle.step_limits.specs.Small.{SmallLimit}
use Rattle.ticket_loops.specs.LoopReads.{limit_of}
use Rattle.step_limits.proofs.NumberLaws.{small-back, read-multiplier, small-multiplier}
use Rattle.step_limits.proofs.RowLaws.{front_at}
use Rattle.step_limits.proofs.LimitLaws.{numbers, skewed-is}
use Rattle.step_limits.proofs.skew_limit.Goals as goal

module _ (n k : ℕ) (l : Limit) (h : k < n) (s : SmallLimit (limit_of n l)) where
  at : size (get_or l.coefficients k (pos 0)) ≤ 32767
  unfolding limit_of
  at = front_at n l.coefficients k h s.coefficients

  reads : to_z w32 (of_z w32 (get_or l.coefficients k (pos 0))) ≡ get_or l.coefficients k (pos 0)
  reads = small-back _ at

pub overflow_cast-l : goal.overflow_cast-l
overflow_cast-l c = let m = numbers c.args.n c.args.l c.requires.3 in let h = m.multiplier in sfits (omega arith)

pub add_multiple-requires : goal.add_multiple-requires
add_multiple-requires c =
    let m = numbers c.args.n c.args.l c.requires.3 in
    (rw (reads _ _ _ c.requires.0 c.requires.3) (at _ _ _ c.requires.0 c.requires.3), rw (small-back c.args.factor c.requires.2) c.requires.2, small-multiplier c.args.l.multiplier m.multiplier)

pub returns : goal.returns
returns c =
    let m = numbers c.args.n c.args.l c.requires.3 in
    let q : length c.args.l.coefficients ≡ 6 = search rules in
    let e : to_z w32 (of_z w32 c.add_multiple.result) ≡ c.add_multiple.result = search rules in
    skewed-is c.args.n c.args.l c.args.a c.args.factor _ _ q (omega arith) (small-back c.args.l.constant m.constant)
    (e ∙ c.add_multiple.ensures ∙ simp (
      reads _ _ _ c.requires.0 c.requires.3,
      small-back c.args.factor c.requires.2,
      read-multiplier
          c.args.l.multiplier m.multiplier,
    ))
