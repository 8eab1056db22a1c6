use mathlib.Core.Path.{◌≡◌}
use native.Mathlib.Omega.{arith}
use lib.ListN.{length}
use mir.Syntax.{w32}
use mir.Val.{to_z, of_z}
use borrow.Author.Rules.{rules}
use Rattle.step_exchange.proofs.SolveLaws.{widened_is}
use Rattle.step_exchange.proofs.widened.Goals as goal

pub returns : goal.returns
returns c =
    let n : length c.args.l.coefficients ≡ 6 = search rules in
    let e : to_z w32 (of_z w32 c.args.l.constant) ≡ c.args.l.constant = search rules in
    widened_is c.args.n c.args.l _ n (omega arith) e
