use mathlib.Core.Path.{sym, subst}
use mathlib.Core.Bool.{Bool, false}
use mathlib.Core.List.{List}
use Prim.Native.Nat.{ℕ, ◌+◌, ◌-◌, ◌/◌, ◌≤◌, ◌<◌}
use native.Mathlib.Omega.{arith}
use lib.ListN.{replicate, length-replicate}
use Rattle.integers.specs.Sign.{Sign}
use Rattle.model.specs.Directions.{vector_count}
use Rattle.model.specs.Grammar.{most_loops}
use Rattle.step_kinds.specs.Kinds.{step_of}
use Rattle.dependence_vectors.proofs.DepthLaws.{depth-positive}
use Rattle.step_directions.specs.Preimages.{loops_named, came}
use Rattle.step_directions.proofs.AfterLaws.{few-after, named-after, pulled-after}
use Rattle.step_directions.proofs.SetLaws.{Filling, fill-first, fill-next, fill-all}
use Rattle.step_directions.proofs.set_after.Goals as goal

pub depth_after-depth-requires : goal.depth_after-depth-requires
depth_after-depth-requires c = c.requires.few

pub stride-stride-requires : goal.stride-stride-requires
stride-stride-requires c =
    let few : c.depth_after-depth.result ≤ most_loops = subst (λ m. m ≤ most_loops) (sym c.depth_after-depth.ensures) (few-after (step_of c.args.step) c.args.s.depth c.requires.few c.requires.there) in
    few

pub overflow_sub-n : goal.overflow_sub-n
overflow_sub-n c =
    let depth : ℕ = c.depth_after-depth.result in
    let positive : 0 < c.stride-stride.result = depth-positive depth c.stride-stride.result c.stride-stride.ensures.0 in
    positive

pub nonzero_div-stride : goal.nonzero_div-stride
nonzero_div-stride c = depth-positive c.depth_after-depth.result c.stride-stride.result c.stride-stride.ensures.0

pub loop-n-init : goal.loop-n-init
loop-n-init c =
    let wanted : List Sign → Bool = came c.args.s.marks (step_of c.args.step) in
    let depth : ℕ = c.depth_after-depth.result in
    let few : c.depth_after-depth.result ≤ most_loops = subst (λ m. m ≤ most_loops) (sym c.depth_after-depth.ensures) (few-after (step_of c.args.step) c.args.s.depth c.requires.few c.requires.there) in
    subst (λ m. Filling wanted depth (replicate vector_count false) m ((c.stride-stride.result - 1) / 2))
    (sym c.no_marks-marks.ensures)
    (fill-first wanted depth (replicate vector_count false) few c.stride-stride.result c.stride-stride.ensures.0
    (length-replicate vector_count false))

pub has_preimage-requires : goal.has_preimage-requires
has_preimage-requires c =
    let few : c.depth_after-depth.result ≤ most_loops = subst (λ m. m ≤ most_loops) (sym c.depth_after-depth.ensures) (few-after (step_of c.args.step) c.args.s.depth c.requires.few c.requires.there) in
    let named : loops_named (step_of c.args.step) ≤ c.depth_after-depth.result = subst (λ m. loops_named (step_of c.args.step) ≤ m) (sym c.depth_after-depth.ensures)
    (named-after (step_of c.args.step) c.args.s.depth c.requires.there) in
    let m = few in
    let l = named in
    record { below = c.loop-n-test.true; few = omega arith }

pub bounds-marks-n : goal.bounds-marks-n
bounds-marks-n c = c.loop-n-test.true

pub loop-n-smaller : goal.loop-n-smaller
loop-n-smaller c =
    let depth : ℕ = c.depth_after-depth.result in
    let positive : 0 < c.stride-stride.result = depth-positive depth c.stride-stride.result c.stride-stride.ensures.0 in
    let t = c.loop-n-test.true in let p = positive in omega arith

pub loop-n-preserved : goal.loop-n-preserved
loop-n-preserved c =
    let wanted : List Sign → Bool = came c.args.s.marks (step_of c.args.step) in
    let depth : ℕ = c.depth_after-depth.result in
    let few : c.depth_after-depth.result ≤ most_loops = subst (λ m. m ≤ most_loops) (sym c.depth_after-depth.ensures) (few-after (step_of c.args.step) c.args.s.depth c.requires.few c.requires.there) in
    let named : loops_named (step_of c.args.step) ≤ c.depth_after-depth.result = subst (λ m. loops_named (step_of c.args.step) ≤ m) (sym c.depth_after-depth.ensures)
    (named-after (step_of c.args.step) c.args.s.depth c.requires.there) in
    let l = c.loop-n in
    let m = few in
    let l' = named in
    fill-next wanted depth (replicate vector_count false) m c.stride-stride.result c.stride-stride.ensures.0 l.marks l.n l.invariant
    c.has_preimage.result
    c.loop-n-test.true (λ v k. c.has_preimage.ensures v (omega arith) (omega arith))

pub returns : goal.returns
returns c =
    let wanted : List Sign → Bool = came c.args.s.marks (step_of c.args.step) in
    let depth : ℕ = c.depth_after-depth.result in
    let few : c.depth_after-depth.result ≤ most_loops = subst (λ m. m ≤ most_loops) (sym c.depth_after-depth.ensures) (few-after (step_of c.args.step) c.args.s.depth c.requires.few c.requires.there) in
    let l = c.loop-n in
    pulled-after c.args.s (record { marks = l.marks; depth = depth }) (step_of c.args.step) c.requires.there
    c.depth_after-depth.ensures
    (fill-all wanted depth (replicate vector_count false) few c.stride-stride.result c.stride-stride.ensures.0 l.marks l.n
    l.invariant c.loop-n-test.false)

pub returns-2 : goal.returns-2
returns-2 c =
    let wanted : List Sign → Bool = came c.args.s.marks (step_of c.args.step) in
    let depth : ℕ = c.depth_after-depth.result in
    let few : depth ≤ most_loops = subst (λ m. m ≤ most_loops) (sym c.depth_after-depth.ensures) (few-after (step_of c.args.step) c.args.s.depth c.requires.few c.requires.there) in
    let named : loops_named (step_of c.args.step) ≤ depth = subst (λ m. loops_named (step_of c.args.step) ≤ m) (sym c.depth_after-depth.ensures)
    (named-after (step_of c.args.step) c.args.s.depth c.requires.there) in
    let l = c.loop-n in
    let s = c.stride-stride.result in
    let e = c.stride-stride.ensures.0 in
    let next = fill-next wanted depth (replicate vector_count false) few s e l.marks l.n l.invariant
    c.has_preimage.result c.loop-n-test.true (λ v k. c.has_preimage.ensures v (omega arith) (omega arith)) in
    pulled-after c.args.s (record { marks = _; depth = depth }) (step_of c.args.step) c.requires.there
    c.depth_after-depth.ensures
    (fill-all wanted depth (replicate vector_count false) few s e _ (l.n + s) next (omega arith))
