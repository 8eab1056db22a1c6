use mathlib.Core.Path.{◌≡◌, sym, ◌∙◌, ap, ap₂}
use Prim.Native.Nat.{◌+◌}
use native.Mathlib.Omega.{arith}
use Rattle.model.specs.Store.{base}
use Rattle.nest_flat.specs.Layout.{arrays_of}
use Rattle.nest_elements.proofs.ElementLaws.{no-base, next-base, array-fits}
use Rattle.nest_elements.proofs.base_of.Goals as goal

pub loop-j-init : goal.loop-j-init
loop-j-init c = (omega arith, sym (no-base (arrays_of c.args.arrays.now)))

pub elements_of-r-requires : goal.elements_of-r-requires
elements_of-r-requires c = c.requires.before c.loop-j.j c.loop-j-test.true

pub overflow_add-r : goal.overflow_add-r
overflow_add-r c = let l = c.loop-j in let f = array-fits c.args.arrays.now l.j (c.requires.before l.j c.loop-j-test.true) in
    let t = c.requires.fits in let e = l.invariant.1 in let g = c.elements_of-r.ensures in record { fits = omega arith }

pub loop-j-preserved : goal.loop-j-preserved
loop-j-preserved c = let l = c.loop-j in let v = c.loop-j-test.true in (
  omega arith,
  ap₂ ◌+◌ l.invariant.1 c.elements_of-r.ensures ∙ sym (next-base c.args.arrays.now l.j (c.requires.before l.j v)),
)

pub returns : goal.returns
returns c = let l = c.loop-j in let z : l.j ≡ c.args.i = omega (arith, l.invariant.0, c.loop-j-test.false)
    in l.invariant.1 ∙ ap (base (arrays_of c.args.arrays.now)) z
