use native.Mathlib.Omega.{arith}
use Rattle.step_exchange.proofs.PairLaws.{first-full, second-decides}
use Rattle.step_exchange.proofs.is_full.Goals as goal

pub returns-then-held-gt-LIMITS : goal.returns-then-held-gt-LIMITS
returns-then-held-gt-LIMITS c = first-full c.args.held.lower c.args.held.upper c.if-held-gt-LIMITS.true

pub returns : goal.returns
returns c = second-decides c.args.held.lower c.args.held.upper (omega arith)
