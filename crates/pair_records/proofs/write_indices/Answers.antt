use mathlib.Core.Path.{◌≡◌, sym, ◌∙◌}
use lib.IntN.{ℤ, pos}
use Prim.Native.Nat.{◌+◌, ◌*◌, ◌≤◌}
use native.Mathlib.Omega.{arith}
use lib.ListN.{length, get_or, take, set}
use mir.Syntax.{w16}
use mir.Val.{to_z, of_z}
use Rattle.lists.specs.Parts.{put}
use Rattle.lists.proofs.PartLaws.{put-nil}
use Rattle.integers.specs.Difference.{size}
use Rattle.model.specs.Pairs.{indices_in}
use Rattle.dependence_vectors.specs.Candidates.{row}
use Rattle.pair_records.proofs.RecordLaws.{point-inside, index-there, index-beyond, index-near}
use Rattle.pair_records.proofs.RecordLaws.{near-read, word_back, indices-room, index-written, indices-written}
use Rattle.pair_records.proofs.write_indices.Goals as goal
use Rattle.pair_records.proofs.write_indices.Goals.{then-l-nest, else-l-nest}

pub overflow_mul-first : goal.overflow_mul-first
overflow_mul-first c = let q = (point-inside c.args.nest.now.points.now c.args.nest.now.depth c.args.nest.now.count c.args.nest.now.walkable.ready.points c.args.x c.requires.0).1 in omega arith

pub loop-l-init : goal.loop-l-init
loop-l-init c = (omega arith, sym (put-nil c.args.found.now c.args.at))

pub overflow_add-first : goal.overflow_add-first
overflow_add-first c =
    let inside : (c.args.x * c.args.nest.now.depth + c.args.nest.now.depth ≤ length c.args.nest.now.points.now)
    × (c.args.x * c.args.nest.now.depth + c.args.nest.now.depth ≤ 16384) = point-inside c.args.nest.now.points.now c.args.nest.now.depth c.args.nest.now.count c.args.nest.now.walkable.ready.points c.args.x c.requires.0 in
    let q = inside.1 in let t = c.if-l-nest.true in omega arith

pub offset_bounds-nest-first : goal.offset_bounds-nest-first
offset_bounds-nest-first c =
    let inside : (c.args.x * c.args.nest.now.depth + c.args.nest.now.depth ≤ length c.args.nest.now.points.now)
    × (c.args.x * c.args.nest.now.depth + c.args.nest.now.depth ≤ 16384) = point-inside c.args.nest.now.points.now c.args.nest.now.depth c.args.nest.now.count c.args.nest.now.walkable.ready.points c.args.x c.requires.0 in
    let q = inside.1 in let t = c.if-l-nest.true in omega arith

pub bounds-nest-first : goal.bounds-nest-first
bounds-nest-first c =
    let inside : (c.args.x * c.args.nest.now.depth + c.args.nest.now.depth ≤ length c.args.nest.now.points.now)
    × (c.args.x * c.args.nest.now.depth + c.args.nest.now.depth ≤ 16384) = point-inside c.args.nest.now.points.now c.args.nest.now.depth c.args.nest.now.count c.args.nest.now.walkable.ready.points c.args.x c.requires.0 in
    let q = inside.0 in let t = c.if-l-nest.true in omega arith

pub to_word-requires : goal.to_word-requires
to_word-requires c =
    let read : ℤ = let a = c.args in get_or a.nest.now.points.now (a.x * a.nest.now.depth + c.loop-l.l) (pos 0) in
    let near : size read ≤ 32767 = index-near c.args.nest.now.points.now c.args.nest.now.depth c.args.nest.now.count c.args.nest.now.walkable.ready.points c.args.x
    c.requires.0 c.loop-l.l c.if-l-nest.true in
    (near-read read near).0

pub bounds-found-at : goal.bounds-found-at
bounds-found-at c = let l = c.loop-l in
    let r = indices-room c.args.nest.now.points.now c.args.nest.now.depth c.args.nest.now.count c.args.nest.now.walkable.ready.points c.args.x c.requires.0 c.args.found.now
    c.args.at (let p = c.requires.1 in let q = c.requires.2 in omega arith) l.found l.l l.invariant.1 l.invariant.0 in let t = c.loop-l-test.true
    in let p = c.requires.1 in let q = c.requires.2 in omega arith

pub slice_set_of-found : goal.slice_set_of-found
slice_set_of-found c = let l = c.loop-l in
    let r = indices-room c.args.nest.now.points.now c.args.nest.now.depth c.args.nest.now.count c.args.nest.now.walkable.ready.points c.args.x c.requires.0 c.args.found.now
    c.args.at (let p = c.requires.1 in let q = c.requires.2 in omega arith) l.found l.l l.invariant.1 l.invariant.0 in let t = c.loop-l-test.true
    in let p = c.requires.1 in let q = c.requires.2 in omega arith

pub loop-l-preserved : goal.loop-l-preserved
loop-l-preserved c =
    let l = c.loop-l in let t = c.loop-l-test.true in
    let a = c.args in let d = a.nest.now.depth in let q = c.requires.2 in let r = c.requires.1 in
    let put_next : (z : ℤ) → get_or (indices_in (row d a.nest.now.points.now a.x)) l.l (pos 0) ≡ z
    → set l.found (a.at + l.l) z ≡ put a.found.now a.at (take (l.l + 1) (indices_in (row d a.nest.now.points.now a.x))) =
    index-written a.nest.now.points.now d a.nest.now.count c.args.nest.now.walkable.ready.points a.x c.requires.0 a.found.now a.at (omega arith) l.found l.l l.invariant.1
    t in (
      omega arith,
      elim c.if-l-nest.branch [
        | then-l-nest w ↦
            let read : ℤ = get_or a.nest.now.points.now (a.x * d + l.l) (pos 0) in
            let near : size read ≤ 32767 = index-near a.nest.now.points.now d a.nest.now.count c.args.nest.now.walkable.ready.points a.x c.requires.0 l.l w.if-l-nest.true in
            w.found-is ∙ put_next (to_z w16 (of_z w16 w.to_word.result)) (index-there a.nest.now.points.now d a.nest.now.count c.args.nest.now.walkable.ready.points a.x c.requires.0 l.l
            w.if-l-nest.true
            ∙ sym (word_back read w.to_word.result near (w.to_word.ensures ∙ (near-read read near).1)))
        | else-l-nest w ↦
            w.found-is ∙ put_next (pos 0) (index-beyond a.nest.now.points.now d a.nest.now.count c.args.nest.now.walkable.ready.points a.x c.requires.0 l.l w.if-l-nest.false t)
      ],
    )

pub shape_of-found : goal.shape_of-found
shape_of-found c = let l = c.loop-l in indices-room c.args.nest.now.points.now c.args.nest.now.depth c.args.nest.now.count c.args.nest.now.walkable.ready.points c.args.x c.requires.0 c.args.found.now
    c.args.at (let p = c.requires.1 in let q = c.requires.2 in omega arith) l.found l.l l.invariant.1 l.invariant.0

pub returns : goal.returns
returns c = let l = c.loop-l in let t = c.loop-l-test.false in let i = l.invariant.0 in
    indices-written c.args.nest.now.points.now c.args.nest.now.depth c.args.nest.now.count c.args.nest.now.walkable.ready.points c.args.x c.requires.0 c.args.found.now
    c.args.at (let p = c.requires.1 in let q = c.requires.2 in omega arith) l.found l.l l.invariant.1 (omega arith)
