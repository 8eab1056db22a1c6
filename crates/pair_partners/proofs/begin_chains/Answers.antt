use mathlib.Core.Path.{refl, ◌∙◌}
use Prim.Native.Nat.{ℕ, suc}
use native.Mathlib.Omega.{arith}
use lib.ListN.{length-set}
use Rattle.lists.proofs.PartLaws.{row_fits}
use Rattle.pair_partners.specs.Chains.{First}
use Rattle.pair_partners.specs.Partners.{meets_access}
use Rattle.pair_partners.proofs.ChainLaws.{below_set, link-next}
use Rattle.pair_partners.proofs.begin_chains.Goals as goal

pub overflow_mul-at : goal.overflow_mul-at
overflow_mul-at c = let n = c.args.tables.now in let f = row_fits n.accesses c.args.x n.count c.requires.0 in
    let r = c.args.tables.now.links.named-room in omega arith

pub overflow_add-at : goal.overflow_add-at
overflow_add-at c = let n = c.args.tables.now in let f = row_fits n.accesses c.args.x n.count c.requires.0 in
    let r = c.args.tables.now.links.named-room in let t = c.loop-k-test.true in omega arith

pub link_of-requires : goal.link_of-requires
link_of-requires c = let n = c.args.tables.now in let f = row_fits n.accesses c.args.x n.count c.requires.0 in
    let t = c.loop-k-test.true in (omega arith, omega arith)

pub loop-k-preserved : goal.loop-k-preserved
loop-k-preserved c = let a = c.args in let n = a.tables.now in let l = c.loop-k in
    let r = c.requires.1 in let t = c.loop-k-test.true in let i = l.invariant.1 in (
      omega arith,
      length-set l.chains l.k _ ∙ i,
      below_set (λ (j v : ℕ). First (meets_access n.numbers.now n.writes.now n.count n.accesses a.x j) (suc a.x) n.count v)
          l.chains l.k _ (omega arith) l.invariant.2
          (link-next n.numbers.now n.writes.now n.count n.accesses a.tables.now.named.now a.tables.now.written.now a.tables.now.links a.x a.x l.k
          l.k _ c.requires.0 t refl c.link_of.ensures),
    )

pub returns : goal.returns
returns c = λ k h. let l = c.loop-k in let t = c.loop-k-test.false in l.invariant.2 k (omega arith)
