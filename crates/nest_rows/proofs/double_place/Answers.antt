use Rattle.std.proofs.Common.{rules, ◌∙◌, ◌≡◌}
use native.Mathlib.Omega.{arith}
use lib.ListN.{length}
use Rattle.nest_rows.proofs.RowLaws.{doubled}
use Rattle.nest_rows.proofs.double_place.Goals as goal

pub returns : goal.returns
returns g c =
    let six : length c.args.row ≡ 6 = search rules in
    record {
      is = doubled c.args.n c.args.a c.args.row c.copy_within.new.self (omega arith) c.requires.0 c.copy_within.ensures.after;
      room = c.copy_within.ensures.len ∙ six;
    }
