use mathlib.Core.Path.{◌≡◌}
use Prim.Native.Nat.{ℕ}
use native.Mathlib.Omega.{arith}
use lib.ListN.{length}
use Rattle.dependence_bounds.specs.AccessPairs.{pairs_in}
use Rattle.dependence_bounds.specs.Covered.{PairCovered}
use Rattle.dependence_bounds.proofs.PairLaws.{none_yet, one_more, all_done}
use Rattle.dependence_bounds.proofs.source_covered.Goals as goal

pub loop-b-init : goal.loop-b-init
loop-b-init c = (
  omega arith,
  none_yet
      (PairCovered (pairs_in c.args.lent.now) c.args.marks.now c.args.a),
)

pub pair_covered-requires : goal.pair_covered-requires
pair_covered-requires c = (c.requires.0, c.requires.1, c.loop-b-test.true)

pub returns-then-not-pair_covered : goal.returns-then-not-pair_covered
returns-then-not-pair_covered c = λ e. absurd (let z : ◌≡◌ {A = ℕ} 0 1 = cc in omega arith)

pub loop-b-preserved : goal.loop-b-preserved
loop-b-preserved c = let l = c.loop-b in let m = c.pair_covered in (
  omega arith,
  one_more (PairCovered (pairs_in c.args.lent.now) c.args.marks.now c.args.a)
      l.b l.invariant.1 (m.ensures c.if-not-pair_covered.false),
)

pub returns : goal.returns
returns c = let l = c.loop-b in λ _. all_done
    (PairCovered (pairs_in c.args.lent.now) c.args.marks.now c.args.a) l.b (length c.args.lent.now.accessed.now)
    (omega arith) l.invariant.1
