-- `list_in_room`: the marks are clear.
use Rattle.dependence_directions.proofs.SearchResultLaws.{find-in}
use Rattle.entry_list.proofs.list_in_room.Goals as goal

pub list_using_marks-requires : goal.list_using_marks-requires
list_using_marks-requires g c = find-in _ c.args.count c.requires.0 g.row.ROOM c.requires.1
