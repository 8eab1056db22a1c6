-- `find_directions_in_room`: 9, or the vectors of the lines.
use mathlib.Core.Path.{refl}
use Rattle.std.proofs.lemmas.Result.{err_from_is_err_and}
use Rattle.dependence_directions.proofs.SearchResultLaws.{find-in, directs-refused, directs-fine}
use Rattle.dependence_directions.proofs.find_directions_in_room.Goals as goal

pub find_lines-requires : goal.find_lines-requires
find_lines-requires g c = find-in _ c.args.count c.requires.0 g.row.ROOM c.requires.1

pub returns-in_err-find_lines : goal.returns-in_err-find_lines
returns-in_err-find_lines g c = let p = err_from_is_err_and c.from_residual.result c.from_residual.ensures.1 in
    rw (p.1, p.2) (directs-refused _ _ _ c.in_err-find_lines.ensures _ refl c.args.set.now c.requires.3)

pub merge_directions-requires : goal.merge_directions-requires
merge_directions-requires g c = ((c.in_ok-find_lines.ensures.lines refl).marks-in, c.requires.3)

pub returns : goal.returns
returns g c = directs-fine _ _ _ c.in_ok-find_lines.ensures refl _ c.merge_directions.ensures
