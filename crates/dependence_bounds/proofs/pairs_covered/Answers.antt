use mathlib.Core.Path.{◌≡◌}
use Prim.Native.Nat.{ℕ}
use native.Mathlib.Omega.{arith}
use lib.ListN.{length}
use Rattle.dependence_bounds.specs.AccessPairs.{pairs_in}
use Rattle.dependence_bounds.specs.Covered.{CoveredFrom}
use Rattle.dependence_bounds.proofs.PairLaws.{none_yet, one_more, all_done}
use Rattle.dependence_bounds.proofs.pairs_covered.Goals as goal

pub loop-a-init : goal.loop-a-init
loop-a-init c = (
  omega arith,
  none_yet
      (λ i. CoveredFrom (pairs_in c.args.lent.now) c.args.marks.now i (length c.args.lent.now.accessed.now)),
)

pub source_covered-requires : goal.source_covered-requires
source_covered-requires c = (c.requires, c.loop-a-test.true)

pub returns-then-not-source_covered : goal.returns-then-not-source_covered
returns-then-not-source_covered c = λ e. absurd (let z : ◌≡◌ {A = ℕ} 0 1 = cc in omega arith)

pub loop-a-preserved : goal.loop-a-preserved
loop-a-preserved c = let l = c.loop-a in let m = c.source_covered in (
  omega arith,
  one_more (λ i. CoveredFrom
      (pairs_in c.args.lent.now) c.args.marks.now i (length c.args.lent.now.accessed.now)) l.a l.invariant.1
      (m.ensures c.if-not-source_covered.false),
)

pub returns : goal.returns
returns c = let l = c.loop-a in λ _. all_done
    (λ i. CoveredFrom (pairs_in c.args.lent.now) c.args.marks.now i (length c.args.lent.now.accessed.now)) l.a
    (length c.args.lent.now.accessed.now) (omega arith) l.invariant.1
