use Rattle.std.proofs.Common.{rules, ◌∙◌, ◌≡◌}
use native.Mathlib.Omega.{arith}
use lib.ListN.{length}
use Rattle.nest_rows.proofs.RowLaws.{exchanged}
use Rattle.nest_rows.proofs.exchange_places.Goals as goal

pub returns : goal.returns
returns g c =
    let six : length c.args.row ≡ 6 = search rules in
    record {
      is = exchanged c.args.n c.args.a c.args.row c.swap.new.self (omega arith) c.requires.0 c.swap.ensures.by_index.3;
      room = c.swap.ensures.len ∙ six;
    }
