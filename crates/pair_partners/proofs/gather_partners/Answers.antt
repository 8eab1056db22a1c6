use mathlib.Core.Path.{sym, ◌∙◌}
use mathlib.Core.Logic.{inl, inr}
use Prim.Native.Nat.{suc}
use native.Mathlib.Omega.{arith}
use Rattle.pair_partners.proofs.PartnerLaws.{least-conflicts, finding-begin, finding-more, finding-end}
use Rattle.pair_partners.proofs.gather_partners.Goals as goal
use Rattle.pair_partners.proofs.gather_partners.Goals.{then-row_before, else-row_before}

pub begin_chains-requires : goal.begin_chains-requires
begin_chains-requires c = (c.requires.1, c.requires.2)

pub least_point-y-requires : goal.least_point-y-requires
least_point-y-requires c = let k = c.begin_chains.auto.chains in let r = c.requires.2 in omega arith

pub loop-y-init : goal.loop-y-init
loop-y-init c = let b = c.begin_chains in let n = c.args.tables.now in let s = c.args.rows.now in
    finding-begin n.numbers.now n.writes.now n.count n.accesses c.args.x s.depth s.numbers.now
    c.args.out.now b.new.chains c.least_point-y.result c.requires.1 b.ensures c.least_point-y.ensures

pub row_before-requires : goal.row_before-requires
row_before-requires c = let e = c.requires.0 in let t = c.loop-y-test.true in let x = c.requires.1 in (omega arith, omega arith)

pub overflow_cast-out : goal.overflow_cast-out
overflow_cast-out c = let f = c.args.tables.now.links.few-points in let t = c.loop-y-test.true in omega arith

pub offset_bounds-out-found : goal.offset_bounds-out-found
offset_bounds-out-found c = let f = c.args.tables.now.links.few-points in let t = c.loop-y-test.true in let z = c.loop-y.invariant.few in
    omega arith

pub bounds-out-found : goal.bounds-out-found
bounds-out-found c = let t = c.loop-y-test.true in let z = c.loop-y.invariant.few in
    let r = c.loop-y.invariant.room in let o = c.requires.3 in omega arith

pub overflow_add-found : goal.overflow_add-found
overflow_add-found c = let f = c.args.tables.now.links.few-points in let t = c.loop-y-test.true in let z = c.loop-y.invariant.few in
    omega arith

pub advance_chains-requires : goal.advance_chains-requires
advance_chains-requires c = let l = c.loop-y in
    let k = c.begin_chains.auto.chains in
    let t = l.invariant.table in let r = c.requires.2 in (c.requires.1, c.loop-y-test.true, omega arith, l.invariant.come)

pub least_point-y-requires-in-loop-y : goal.least_point-y-requires-in-loop-y
least_point-y-requires-in-loop-y c = let l = c.loop-y in
    let k = c.begin_chains.auto.chains in let t = l.invariant.table in
    let a = c.advance_chains.auto.chains in let r = c.requires.2 in omega arith

pub loop-y-smaller : goal.loop-y-smaller
loop-y-smaller c = let l = c.loop-y in let n = c.args.tables.now in
    let t = c.loop-y-test.true in let f = c.least_point-y-in-loop-y.ensures.inside in
    let a = (least-conflicts n.numbers.now n.writes.now n.count n.accesses c.args.x (suc l.y) c.least_point-y-in-loop-y.result
    c.advance_chains.new.chains t c.advance_chains.ensures
    c.least_point-y-in-loop-y.ensures).after in omega arith

pub loop-y-preserved : goal.loop-y-preserved
loop-y-preserved c = let l = c.loop-y in let n = c.args.tables.now in let s = c.args.rows.now in
    let t = c.loop-y-test.true in
    let v = c.advance_chains in let i = c.if-row_before in
    let rb = c.row_before in
    finding-more n.numbers.now n.writes.now n.count n.accesses c.args.x s.depth s.numbers.now
    c.args.out.now l.out i.out
    c.begin_chains.new.chains l.chains v.new.chains l.found i.found l.y c.least_point-y-in-loop-y.result
    l.invariant t (let z = l.invariant.few in let r = l.invariant.room in let o = c.requires.3 in omega arith)
    (elim c.if-row_before.branch [
      | then-row_before w ↦ inl (sym rb.ensures ∙ w.if-row_before.true, w.out-is, w.found-is)
      | else-row_before w ↦ inr (sym rb.ensures ∙ w.if-row_before.false, w.out-is, w.found-is)
    ])
    v.auto.chains v.ensures c.least_point-y-in-loop-y.ensures

pub shape_of-chains : goal.shape_of-chains
shape_of-chains c = c.loop-y.invariant.table ∙ c.begin_chains.auto.chains

pub shape_of-out : goal.shape_of-out
shape_of-out c = c.loop-y.invariant.room

pub returns : goal.returns
returns c = let l = c.loop-y in let n = c.args.tables.now in let s = c.args.rows.now in
    let t = c.loop-y-test.false in finding-end n.numbers.now n.writes.now n.count n.accesses c.args.x s.depth
    s.numbers.now c.args.out.now l.out c.begin_chains.new.chains
    l.chains l.found l.y l.invariant (omega arith)
