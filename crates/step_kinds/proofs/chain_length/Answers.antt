-- `chain_length`: one for each place between.
use native.Mathlib.Omega.{arith}
use Rattle.step_kinds.proofs.ChainLaws.{length-in, length-out}
use Rattle.step_kinds.proofs.chain_length.Goals as goal

pub returns-then-a-b : goal.returns-then-a-b
returns-then-a-b c = length-in c.args.a c.args.b (let h = c.if-a-b.true in omega arith)

pub returns : goal.returns
returns c = length-out c.args.a c.args.b (let h = c.if-a-b.false in omega arith)
