use mathlib.Core.Path.{◌≡◌, refl, sym, ap, ◌∙◌}
use Prim.Native.Nat.{◌+◌}
use native.Mathlib.Omega.{arith}
use lib.ListN.{take, length-set, length-append, length-drop}
use lib.Seq.{length-take-le}
use Rattle.std.proofs.lemmas.List.{take-append-le}
use Rattle.model.specs.Grammar as Grammar
use Rattle.model.specs.Grammar.{natural, shape}
use Rattle.std.proofs.lemmas.Result.{err_from_is_err_and}
use Rattle.ticket_words.proofs.ReaderLaws.{refused-first, read-then, times-begin, times-next, times-stop, times-end, taken_more}
use Rattle.ticket_arrays.specs.Arrays.{shape_of}
use Rattle.ticket_arrays.proofs.ArrayLaws.{elements-next, elements-all, most, most-next, most-three}
use Rattle.ticket_arrays.proofs.read_shape.Goals as goal

pub returns-in_err-dimensions : goal.returns-in_err-dimensions
unfolding shape
returns-in_err-dimensions c =
    let p = err_from_is_err_and c.from_residual.result c.from_residual.ensures.1 in
    rw (p.1, p.2) (refused-first _ c.in_err-dimensions.ensures.reads)

pub loop-extent-init : goal.loop-extent-init
unfolding Grammar.elements most
loop-extent-init c = record { all = length-take-le _ _ c.in_ok-dimensions.ensures.within.1; total = refl; bounded = omega arith; underway = times-begin (natural 1 4096) _ _ }

pub overflow_mul-elements : goal.overflow_mul-elements
overflow_mul-elements c =
    let d = c.in_ok-dimensions.ensures.within.1 in
    let h = c.in_ok-extent.ensures.within.1 in
    let l = c.loop-extent.invariant.all in
    omega (arith, most-next _ _ _ c.loop-extent.invariant.bounded h, most-three (c.loop-extent.extent-index + 1) (omega arith))

pub loop-extent-preserved : goal.loop-extent-preserved
loop-extent-preserved c =
    let i = c.loop-extent.invariant in
    let d = c.in_ok-dimensions.ensures.within.1 in
    let l = i.all in
    record {
      all = simp length-set l;
      total = elements-next c.loop-extent.extent-items c.loop-extent.extent-index _ c.loop-extent.elements (omega arith) i.total;
      bounded = most-next _ _ _ i.bounded c.in_ok-extent.ensures.within.1;
      underway = times-next (natural 1 4096) _ _ i.underway (omega arith) c.in_ok-extent.ensures.reads
          (taken_more _ _ _ _ (omega arith) refl);
    }

pub returns-in_err-extent : goal.returns-in_err-extent
unfolding shape
returns-in_err-extent c =
    let r = c.from_residual-in_err-extent in
    let p = err_from_is_err_and r.result r.ensures.1 in
    let l = c.loop-extent.invariant.all in
    rw (p.1, p.2)
    (read-then _ c.in_ok-dimensions.ensures.reads
    (times-stop (natural 1 4096) _ _ c.loop-extent.invariant.underway (omega arith) c.in_err-extent.ensures.reads))

pub invariant_of-result : goal.invariant_of-result
invariant_of-result c =
    let i = c.loop-extent.invariant in
    let d = c.in_ok-dimensions.ensures.within.1 in
    let l = i.all in
    record {
      within = record {
        few = d;
        room = simp (length-append, length-drop) (omega arith);
        total = elements-all c.loop-extent.extent-items c.loop-extent.extent-index _ _ (omega arith) (omega arith) i.total
            ∙ ap Grammar.elements (sym (take-append-le c.in_ok-dimensions.dimensions c.loop-extent.extent-items _ (omega arith)));
        bounded = omega (arith, i.bounded, most-three c.loop-extent.extent-index (omega arith));
      };
    }

pub returns : goal.returns
unfolding shape shape_of
returns c =
    let l = c.loop-extent.invariant.all in
    let z : c.loop-extent.extent-index ≡ c.in_ok-dimensions.dimensions = omega arith in
    read-then _ c.in_ok-dimensions.ensures.reads
    (times-end (natural 1 4096) _ _ c.loop-extent.invariant.underway (omega arith) (ap (λ m. take m c.loop-extent.extent-items) z
    ∙ sym (take-append-le c.in_ok-dimensions.dimensions c.loop-extent.extent-items _ (omega arith))))
