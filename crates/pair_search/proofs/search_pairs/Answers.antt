-- `search_pairs`: with room for few points, or for any.
use Rattle.pair_search.proofs.SearchLaws.{room-few, room-many}
use Rattle.pair_search.proofs.search_pairs.Goals as goal

pub search_in_room-requires : goal.search_in_room-requires
search_in_room-requires c = (c.requires, room-few _ _ _ _ _ _ c.requires (c.is_few.ensures c.if-is_few.true))

pub search_in_room-requires-2 : goal.search_in_room-requires-2
search_in_room-requires-2 c = (c.requires, room-many _ _ _ _ _ _ c.requires)
