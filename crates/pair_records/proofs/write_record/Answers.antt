-- `write_record`: the indices of both points, then three words.
use mathlib.Core.Path.{◌∙◌}
use native.Mathlib.Omega.{arith}
use Prim.Native.Nat.{◌+◌, ◌/◌, ◌%◌}
use lib.IntN.{pos}
use lib.ListN.{length, get_or, length-set}
use Rattle.model.specs.Directions.{kind_count, kinds, flow}
use Rattle.model.specs.Listing.{letter}
use Rattle.pair_records.proofs.RecordLaws.{block-parts, record-written, word_back, letter-small}
use Rattle.pair_records.proofs.write_record.Goals as goal

pub write_indices-requires-2 : goal.write_indices-requires-2
write_indices-requires-2 c = let r = c.requires.1 in
    (c.requires.0.sink, omega arith, c.write_indices.auto.found ∙ c.requires.2)

pub nonzero_div-block-2 : goal.nonzero_div-block-2
nonzero_div-block-2 c = (block-parts (length c.args.nest.now.sizes.now) c.args.conflict.block c.requires.0.block).0

pub overflow_add-block : goal.overflow_add-block
overflow_add-block c = let q = (block-parts (length c.args.nest.now.sizes.now) c.args.conflict.block c.requires.0.block).1 in
    let m = c.args.nest.now.walkable.ready.accesses.few-statements in omega arith

pub number_word-requires : goal.number_word-requires
number_word-requires c = let q = (block-parts (length c.args.nest.now.sizes.now) c.args.conflict.block c.requires.0.block).1 in let m = c.args.nest.now.walkable.ready.accesses.few-statements in omega arith

pub nonzero_rem-block : goal.nonzero_rem-block
nonzero_rem-block c = (block-parts (length c.args.nest.now.sizes.now) c.args.conflict.block c.requires.0.block).0

pub overflow_add-block-2 : goal.overflow_add-block-2
overflow_add-block-2 c = let q = (block-parts (length c.args.nest.now.sizes.now) c.args.conflict.block c.requires.0.block).2 in let m = c.args.nest.now.walkable.ready.accesses.few-statements in omega arith

pub number_word-requires-2 : goal.number_word-requires-2
number_word-requires-2 c = let q = (block-parts (length c.args.nest.now.sizes.now) c.args.conflict.block c.requires.0.block).2 in let m = c.args.nest.now.walkable.ready.accesses.few-statements in omega arith

pub bounds-found-last-2 : goal.bounds-found-last-2
bounds-found-last-2 c = let r = c.requires.1 in
    let n = c.write_indices.auto.found in
    let k = c.write_indices-2.auto.found
    in let e = c.requires.2 in simp length-set (omega arith)

pub bounds-found-last-3 : goal.bounds-found-last-3
bounds-found-last-3 c = let r = c.requires.1 in
    let n = c.write_indices.auto.found in
    let k = c.write_indices-2.auto.found
    in let e = c.requires.2 in simp length-set (omega arith)

pub shape_of-found : goal.shape_of-found
shape_of-found c = let n = c.write_indices.auto.found in
    let k = c.write_indices-2.auto.found in simp length-set (k ∙ n)

pub returns : goal.returns
returns c = let a = c.args in let r = c.requires.1 in
    let e = c.requires.2 in let m = c.args.nest.now.walkable.ready.accesses.few-statements in
    let q = block-parts (length a.nest.now.sizes.now) a.conflict.block c.requires.0.block in let u = q.1 in let v = q.2 in let k = a.conflict.block % kind_count in
    let z = letter-small (get_or kinds k flow) in
    record-written a.nest.now.points.now a.nest.now.depth (length a.nest.now.sizes.now) a.conflict.source a.conflict.sink a.conflict.block a.found.now _ _ a.at _ _ _
    c.write_indices.ensures c.write_indices-2.ensures
    (word_back (pos (a.conflict.block / kind_count / (length a.nest.now.sizes.now) + 1)) c.number_word.result (omega arith)
    c.number_word.ensures)
    (word_back (pos (a.conflict.block / kind_count % (length a.nest.now.sizes.now) + 1)) c.number_word-2.result (omega arith) c.number_word-2.ensures)
    (word_back (pos (letter (get_or kinds k flow))) c.letter_word.result (omega arith) c.letter_word.ensures) (omega arith)
