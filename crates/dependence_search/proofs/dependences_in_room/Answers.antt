-- `dependences_in_room`: all links are made in room that is clear.
use Rattle.dependence_search.specs.Nests.{flat_of}
use Rattle.dependence_search.proofs.FlatLaws.{lent-clear}
use Rattle.dependence_search.proofs.dependences_in_room.Goals as goal

pub mark_sources-requires : goal.mark_sources-requires
mark_sources-requires g c = (c.requires.0, lent-clear (flat_of c.args.nest.now) g.row.LINKS g.row.HEADS c.requires.3 c.requires.1)
