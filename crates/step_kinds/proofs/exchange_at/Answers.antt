-- `exchange_at`: inwards from a on, outwards from the place before it.
use native.Mathlib.Omega.{arith}
use Rattle.step_kinds.proofs.ChainLaws.{length-in, length-out, place_in, place_out}
use Rattle.step_kinds.proofs.exchange_at.Goals as goal

pub overflow_add-result : goal.overflow_add-result
overflow_add-result c = let h = c.if-a-b.true in let l = length-in c.args.a c.args.b (omega arith) in let p = c.requires
    in let f = c.ranges.b in omega (arith, l, p, f)

pub returns-then-a-b : goal.returns-then-a-b
returns-then-a-b c = place_in c.args.a c.args.b c.args.j (let h = c.if-a-b.true in omega arith) c.requires

pub overflow_sub-result : goal.overflow_sub-result
overflow_sub-result c = let h = c.if-a-b.false in let l = length-out c.args.a c.args.b (omega arith) in let p = c.requires
    in omega (arith, l, p)

pub overflow_sub-result-2 : goal.overflow_sub-result-2
overflow_sub-result-2 c = let h = c.if-a-b.false in let l = length-out c.args.a c.args.b (omega arith) in let p = c.requires
    in omega (arith, l, p)

pub returns : goal.returns
returns c = place_out c.args.a c.args.b c.args.j (let h = c.if-a-b.false in omega arith) c.requires
