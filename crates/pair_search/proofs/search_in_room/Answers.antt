-- `search_in_room`: the points listed, moved, numbered and linked, then the walk.
use native.Mathlib.Omega.{arith}
use lib.IntN.{ℤ, pos}
use Prim.Native.Nat.{ℕ}
use lib.ListN.{length-replicate}
use Rattle.pair_search.proofs.SearchLaws.{list-in, points-listed, move_in, numbers-in, writes-sized, walkable, searched-is}
use Rattle.pair_search.proofs.search_in_room.Goals as goal

pub list_points-requires : goal.list_points-requires
list_points-requires g c = list-in _ _ _ _ _ _ c.requires.0 _
    (let r = c.requires.1.indices-fit in let e = length-replicate {A = ℤ} g.row.MOST_INDICES (pos 0) in omega arith)

pub move_points-depth-requires : goal.move_points-depth-requires
move_points-depth-requires g c = move_in _ _ _ _ _ _ c.requires.0 _ (points-listed _ _ _ _ _ _ c.requires.0 _ c.list_points.ensures.0) _
    (let r = c.requires.1.moved-fit in let e = length-replicate {A = ℤ} g.row.MOST_MOVED (pos 0) in omega arith)

pub number_accesses-requires : goal.number_accesses-requires
number_accesses-requires g c = numbers-in _ _ _ _ _ _ c.requires.0 _ (points-listed _ _ _ _ _ _ c.requires.0 _ c.list_points.ensures.0) _
    (let r = c.requires.1.numbers-fit in let e = length-replicate {A = ℕ} g.row.MOST_NUMBERS 0 in omega arith)

pub invariant_of-linked : goal.invariant_of-linked
invariant_of-linked g c = record {
  walkable = walkable _ _ _ _ _ _ c.requires.0 _ _ _ _ _ _ _ (record {
    points-are = points-listed _ _ _ _ _ _ c.requires.0 _ c.list_points.ensures.0;
    moved-are = c.move_points-depth.ensures.0;
    numbers-are = c.number_accesses.ensures;
    writes_are = writes-sized _ _ _ _ _ _ c.requires.0 c.uses_of-uses.result c.uses_of-uses.ensures;
    links-are = c.link_all.ensures;
  });
}

pub returns : goal.returns
returns g c = searched-is _ _ _ _ _ _ c.requires.0 _ _ _ _ _ _ _ (record {
  points-are = points-listed _ _ _ _ _ _ c.requires.0 _ c.list_points.ensures.0;
  moved-are = c.move_points-depth.ensures.0;
  numbers-are = c.number_accesses.ensures;
  writes_are = writes-sized _ _ _ _ _ _ c.requires.0 c.uses_of-uses.result c.uses_of-uses.ensures;
  links-are = c.link_all.ensures;
}) c.walk.ensures
