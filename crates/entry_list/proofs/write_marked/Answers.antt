-- `write_marked`: the text, or a short buffer.
use Rattle.entry_list.proofs.ListLaws.{short-buffer, all-written}
use Rattle.entry_list.proofs.write_marked.Goals as goal

pub returns-in-Some : goal.returns-in-Some
returns-in-Some c = let l = c.write_listing in all-written _ c.args.count c.args.marks.now c.requires c.args.out.now _ l.result l.ensures _ c.in-Some.is

pub returns-in-None : goal.returns-in-None
returns-in-None c = let l = c.write_listing in short-buffer _ c.args.count c.args.marks.now c.requires c.args.out.now _ l.result l.ensures c.in-None.is
