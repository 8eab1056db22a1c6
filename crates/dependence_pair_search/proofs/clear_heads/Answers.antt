use mathlib.Core.Path.{refl, ◌∙◌}
use Prim.Native.Nat.{◌-◌, ◌<◌}
use native.Mathlib.Omega.{arith}
use lib.ListN.{length, length-set}
use Rattle.dependence_pair_search.proofs.ChainLaws.{clear-less, clear-all}
use Rattle.dependence_pair_search.proofs.clear_heads.Goals as goal

pub loop-y-init : goal.loop-y-init
loop-y-init c = (omega arith, refl, c.requires.2)

pub offset_bounds-head-to_index : goal.offset_bounds-head-to_index
offset_bounds-head-to_index c =
    let element : (c.to_index.result < 16384)
    × (c.to_index.result < length c.loop-y.head) = let l = c.loop-y in let i = l.invariant.0
    in let t = c.loop-y-test.true in
    let h = c.requires.0 (l.y - 1) (omega arith) in let r = c.requires.1 in let k = l.invariant.1 in let e = c.to_index.ensures in (omega arith, omega arith) in
    let h = element.0 in omega arith

pub bounds-head-to_index : goal.bounds-head-to_index
bounds-head-to_index c =
    let element : (c.to_index.result < 16384)
    × (c.to_index.result < length c.loop-y.head) = let l = c.loop-y in let i = l.invariant.0
    in let t = c.loop-y-test.true in
    let h = c.requires.0 (l.y - 1) (omega arith) in let r = c.requires.1 in let k = l.invariant.1 in let e = c.to_index.ensures in (omega arith, omega arith) in
    element.1

pub loop-y-preserved : goal.loop-y-preserved
loop-y-preserved c =
    let element : (c.to_index.result < 16384)
    × (c.to_index.result < length c.loop-y.head) = let l = c.loop-y in let i = l.invariant.0
    in let t = c.loop-y-test.true in
    let h = c.requires.0 (l.y - 1) (omega arith) in let r = c.requires.1 in let k = l.invariant.1 in let e = c.to_index.ensures in (omega arith, omega arith) in
    let l = c.loop-y in let i = l.invariant.0
    in let t = c.loop-y-test.true in let r = c.requires.1 in let k = l.invariant.1 in (
      omega arith,
      length-set l.head c.to_index.result 0
          ∙ l.invariant.1,
      clear-less c.args.from.now l.head l.y c.to_index.result element.1 t c.to_index.ensures l.invariant.2,
    )

pub shape_of-head : goal.shape_of-head
shape_of-head c = c.loop-y.invariant.1

pub returns : goal.returns
returns c = clear-all c.args.from.now c.loop-y.head c.loop-y.y
    (let t = c.loop-y-test.false in omega arith) c.loop-y.invariant.2
