-- `link_points`: no element has a head at first; then the points are linked, the last one first.
use mathlib.Core.Path.{◌≡◌, ◌∙◌, subst}
use Prim.Native.Nat.{ℕ, suc, ◌-◌}
use native.Mathlib.Omega.{arith}
use Rattle.pair_partners.specs.Chains.{Heads, LinkedFrom}
use Rattle.pair_partners.proofs.ChainLaws.{heads-before, linked-before}
use Rattle.pair_partners.proofs.link_points.Goals as goal

pub loop-x-preserved : goal.loop-x-preserved
loop-x-preserved c = let n = c.args.nest.now in let a = c.args in let l = c.loop-x in let i = l.invariant.0 in
    let t = c.loop-x-test.true in
    let k = c.link_point in let h = c.head_point in
    let kl = k.auto.links in let hl = h.auto.heads in
    let ids = n.numbers.now in let ws = n.writes.now in let m = n.accesses in let x = l.x - 1 in
    let e : l.x ≡ suc x = omega arith in
    let heads-in = subst (λ (z : ℕ). Heads ids ws n.count m a.all z l.heads) e l.invariant.3 in (
      omega arith,
      hl ∙ l.invariant.1,
      kl ∙ l.invariant.2,
      heads-before ids ws n.count a.all m l.heads h.new.heads x (omega arith) hl heads-in h.ensures,
      linked-before ids n.count m ws a.all l.heads l.links k.new.links x (omega arith)
          (λ j b. let f = c.requires.0.below j x b (omega arith) in let q = l.invariant.1 in
          let r = c.fill.ensures.len in
          omega arith) heads-in
          (subst (λ (z : ℕ). LinkedFrom ids ws n.count m a.all z l.links) e l.invariant.4) k.ensures,
    )
