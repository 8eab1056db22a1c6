use mathlib.Core.Path.{refl, ◌∙◌}
use Prim.Native.Nat.{◌<◌}
use native.Mathlib.Omega.{arith}
use lib.ListN.{length, length-set}
use Rattle.dependence_pair_search.proofs.FullLaws.{level-more}
use Rattle.dependence_pair_search.proofs.find_varying.Goals as goal

pub loop-k-init : goal.loop-k-init
loop-k-init c = (omega arith, refl, λ k h. absurd (omega arith))

pub loop_varies-requires : goal.loop_varies-requires
loop_varies-requires c = (
  c.loop-k-test.true,
  c.requires.0,
  c.requires.1,
)

pub bounds-varying-k : goal.bounds-varying-k
bounds-varying-k c =
    let room : c.loop-k.k < length c.loop-k.varying = let l = c.loop-k.invariant.1 in let p = c.requires.2
    in let t = c.loop-k-test.true in omega arith in
    room

pub loop-k-preserved : goal.loop-k-preserved
loop-k-preserved c =
    let room : c.loop-k.k < length c.loop-k.varying = let l = c.loop-k.invariant.1 in let p = c.requires.2
    in let t = c.loop-k-test.true in omega arith in
    let s = c.args in let l = c.loop-k in let t = c.loop-k-test.true in (
      omega arith,
      length-set l.varying l.k c.loop_varies.result
          ∙ l.invariant.1,
      level-more s.depth s.points.now s.count s.next.now s.start.now l.k l.varying c.loop_varies.result
          room c.loop_varies.ensures l.invariant.2,
    )

pub shape_of-varying : goal.shape_of-varying
shape_of-varying c = c.loop-k.invariant.1

pub returns : goal.returns
returns c = λ k h. c.loop-k.invariant.2 k (let t = c.loop-k-test.false in omega arith)
