use mathlib.Core.Path.{◌≡◌, refl, ap, ◌∙◌}
use Prim.Native.Nat.{ℕ}
use native.Mathlib.Omega.{arith}
use lib.ListN.{get_or, length-set}
use borrow.Author.Count.{below_none}
use Rattle.lists.proofs.PartLaws.{row_fits}
use Rattle.pair_partners.proofs.ChainLaws.{linking-more}
use Rattle.pair_partners.proofs.link_point.Goals as goal

pub overflow_mul-at : goal.overflow_mul-at
overflow_mul-at c = let n = c.args.nest.now in let f = row_fits n.accesses c.args.x n.count c.requires.1 in
    let r = c.requires.2 in omega arith

pub loop-k-init : goal.loop-k-init
loop-k-init c = (omega arith, refl, (below_none _, λ i h. refl))

pub offset_bounds-heads-from : goal.offset_bounds-heads-from
offset_bounds-heads-from c = let b = c.requires.0.below c.loop-k.k c.args.x c.loop-k-test.true c.requires.1 in
    let e = c.from.ensures in let d = c.number.ensures in omega arith

pub bounds-heads-from : goal.bounds-heads-from
bounds-heads-from c = let b = c.requires.0.below c.loop-k.k c.args.x c.loop-k-test.true c.requires.1 in
    let e = c.from.ensures in let d = c.number.ensures in omega arith

pub overflow_add-links : goal.overflow_add-links
overflow_add-links c = let n = c.args.nest.now in let f = row_fits n.accesses c.args.x n.count c.requires.1 in let r = c.requires.2 in
    let t = c.loop-k-test.true in omega arith

pub offset_bounds-links-at : goal.offset_bounds-links-at
offset_bounds-links-at c = let n = c.args.nest.now in let f = row_fits n.accesses c.args.x n.count c.requires.1 in let r = c.requires.2 in
    let t = c.loop-k-test.true in let i = c.loop-k.invariant.1 in omega arith

pub bounds-links-at : goal.bounds-links-at
bounds-links-at c = let n = c.args.nest.now in let f = row_fits n.accesses c.args.x n.count c.requires.1 in let r = c.requires.2 in
    let t = c.loop-k-test.true in let i = c.loop-k.invariant.1 in omega arith

pub loop-k-preserved : goal.loop-k-preserved
loop-k-preserved c = let l = c.loop-k in let n = c.args.nest.now in
    let f = row_fits n.accesses c.args.x n.count c.requires.1 in let r = c.requires.2 in
    let t = c.loop-k-test.true in let i = l.invariant.1 in (
      omega arith,
      simp length-set i,
      linking-more n.numbers.now n.count n.accesses c.args.heads.now c.args.links.now l.links c.args.x
          l.k _ _ t refl (omega arith) (ap (λ (e : ℕ). get_or c.args.heads.now e 0) (c.from.ensures ∙ c.number.ensures)) l.invariant.2,
    )

pub returns : goal.returns
returns c = let l = c.loop-k in let i = l.invariant.0 in let t = c.loop-k-test.false in
    let e : l.k ≡ c.args.nest.now.accesses = omega arith in (λ k h. l.invariant.2.0 k (omega arith), l.invariant.2.1)
