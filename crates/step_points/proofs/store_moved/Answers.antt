-- `store_moved`: the indices that count are stored.
use mathlib.Core.Path.{◌≡◌, sym, ap, ◌∙◌}
use native.Mathlib.Omega.{arith}
use lib.ListN.{length, take}
use Rattle.lists.specs.Parts.{put}
use Rattle.step_points.proofs.MoveLaws.{moved_length}
use Rattle.step_points.proofs.store_moved.Goals as goal

pub slice_bounds-store-end : goal.slice_bounds-store-end
slice_bounds-store-end c =
    let front : length (take c.point_after_steps-moved.result.depth c.point_after_steps-moved.result.row)
    ≡ c.point_after_steps-moved.result.depth = moved_length c.point_after_steps-moved.ensures in
    sym front

pub store-requires : goal.store-requires
store-requires c =
    let front : length (take c.point_after_steps-moved.result.depth c.point_after_steps-moved.result.row)
    ≡ c.point_after_steps-moved.result.depth = moved_length c.point_after_steps-moved.ensures in
    let h = c.requires.2 in
    let e = front in
    let g = c.point_after_steps-moved.ensures.shallow in
    omega arith

pub returns : goal.returns
returns c =
    c.store.ensures ∙ ap (put c.args.out.now c.args.at) c.point_after_steps-moved.ensures.is.is
