-- `write_admitted`: 9, or the listing.
use Rattle.entry_answers.proofs.AnswerLaws.{outcome-on}
use Rattle.entry_list.proofs.ListLaws.{found-refused, listable, handed}
use Rattle.entry_list.proofs.write_admitted.Goals as goal

pub returns-in_err-found : goal.returns-in_err-found
returns-in_err-found c = outcome-on _ _ c.from_residual.ensures.1
    (found-refused _ c.args.count c.args.found c.args.marks.now c.requires _ c.in_err-found.was c.args.out.now)

pub write_marked-requires : goal.write_marked-requires
write_marked-requires c = listable _ c.args.count c.args.found c.args.marks.now c.requires c.in_ok-found.was

pub returns : goal.returns
returns c = let w = c.write_marked in handed _ c.args.count c.args.found c.args.marks.now c.requires c.in_ok-found.was c.args.out.now _
    w.result w.ensures
