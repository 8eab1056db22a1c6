use mathlib.Core.Path.{◌≡◌, sym, subst}
use Prim.Native.Nat.{ℕ, ◌+◌}
use native.Mathlib.Omega.{arith}
use Rattle.pair_partners.specs.Partners.{Least}
use Rattle.pair_partners.proofs.ChainLaws.{least-none, least-lower, least-same}
use Rattle.pair_partners.proofs.least_point.Goals.{else-y-least, then-y-least}
use Rattle.pair_partners.proofs.least_point.Goals as goal

pub loop-k-init : goal.loop-k-init
loop-k-init c = (omega arith, least-none _ _)

pub loop-k-preserved : goal.loop-k-preserved
loop-k-preserved c = let l = c.loop-k in
    let t = c.loop-k-test.true in (
      omega arith,
      elim c.if-y-least.branch [
        | then-y-least w ↦ subst (Least (l.k + 1) c.args.count c.args.chains.now) (sym w.least-is) (least-lower c.args.count
            c.args.chains.now
            l.k l.least c.from-y.result c.from-y.ensures w.if-y-least.true l.invariant.1)
        | else-y-least w ↦ subst (Least (l.k + 1) c.args.count c.args.chains.now) (sym w.least-is) (least-same c.args.count c.args.chains.now
            l.k
            l.least c.from-y.result c.from-y.ensures (let u = w.if-y-least.false in omega arith) l.invariant.1)
      ],
    )

pub returns : goal.returns
returns c = let l = c.loop-k in let i = l.invariant.0 in let t = c.loop-k-test.false in
    let e : l.k ≡ c.args.accesses = omega arith in subst (λ (k : ℕ). Least k c.args.count c.args.chains.now l.least) e l.invariant.1
