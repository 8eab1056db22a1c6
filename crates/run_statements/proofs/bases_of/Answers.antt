use Rattle.std.proofs.Common.{refl, ◌∙◌, arith, length-set}
use Rattle.run_statements.proofs.BaseLaws.{base-in, one-base, all-bases}
use Rattle.run_statements.proofs.bases_of.Goals as goal

pub loop-i-init : goal.loop-i-init
loop-i-init c = (refl, omega arith, λ j h. absurd (omega arith))

pub base_of-requires : goal.base_of-requires
base_of-requires c = base-in c.requires.0 c.loop-i.i c.loop-i-test.true

pub offset_bounds-r-i : goal.offset_bounds-r-i
offset_bounds-r-i c = let f = c.requires.1 in let t = c.loop-i-test.true in omega arith

pub bounds-r-i : goal.bounds-r-i
bounds-r-i c = let f = c.requires.1 in let t = c.loop-i-test.true
    in let l = c.loop-i.invariant.0 in omega arith

pub loop-i-preserved : goal.loop-i-preserved
loop-i-preserved c = let l = c.loop-i in let f = c.requires.1
    in let t = c.loop-i-test.true in (
      length-set l.r l.i _ ∙ l.invariant.0,
      omega arith,
      one-base c.args.arrays.now l.r l.i _ (let k = l.invariant.0 in omega arith)
          l.invariant.2 c.base_of.ensures,
    )

pub returns : goal.returns
returns c = let l = c.loop-i in all-bases _ l.r _ l.i c.loop-i-test.false l.invariant.2
