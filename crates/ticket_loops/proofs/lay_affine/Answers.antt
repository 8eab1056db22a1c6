-- `lay_affine`: the constant, and the coefficients after it.
use mathlib.Core.Path.{sym}
use native.Mathlib.Omega.{arith}
use lib.ListN.{length-set}
use Rattle.ticket_loops.proofs.WriteLaws.{constant-fits, row-length, row_small, affine-wrote}
use Rattle.ticket_loops.proofs.lay_affine.Goals as goal

pub overflow_cast-words : goal.overflow_cast-words
overflow_cast-words c = constant-fits c.args.words.now c.args.at c.args.n c.args.affine c.requires

pub slice_bounds-lay_row-end : goal.slice_bounds-lay_row-end
slice_bounds-lay_row-end c = sym (row-length c.args.words.now c.args.at c.args.n
    c.args.affine c.requires)

pub lay_row-requires : goal.lay_row-requires
lay_row-requires c = let n = row-length c.args.words.now c.args.at c.args.n
    c.args.affine c.requires in let p = c.requires in
    (simp length-set (omega arith), row_small c.args.words.now c.args.at c.args.n c.args.affine c.requires)

pub returns : goal.returns
returns c = affine-wrote c.args.words.now c.args.at c.args.n
    c.args.affine c.requires _ c.lay_row.ensures
