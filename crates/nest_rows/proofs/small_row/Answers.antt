use Rattle.std.proofs.Common.{◌∙◌, rules, tests}
use lib.ListN.{take}
use Rattle.std.proofs.lemmas.Iterator.{YieldsList-from_slice}
use Rattle.std.proofs.lemmas.Iterator.Search.{all_from_yields_List}
use Rattle.model.specs.Judge.{small}
use Rattle.nest_rows.proofs.SmallLaws.{list_all-all}
use Rattle.nest_rows.proofs.small_row.Goals as goal

pub returns : goal.returns
returns c = all_from_yields_List small _ _ _ c.all.ensures.ran (YieldsList-from_slice (take c.args.n c.args.cs) c.iter.ensures.rest)
    (λ x b q k. search (rules, tests)) ∙ list_all-all small (take c.args.n c.args.cs)
