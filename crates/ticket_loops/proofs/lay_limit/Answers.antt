-- `lay_limit`: the multiplier, and the words after it.
use mathlib.Core.Path.{◌≡◌}
use mir.Syntax.{w32}
use mir.Val.{to_z, of_z}
use Rattle.ticket_loops.proofs.WriteLaws.{multiplier-fits, rest_in, wrote}
use borrow.Author.Rules.{rules}
use Rattle.ticket_loops.proofs.lay_limit.Goals as goal

pub overflow_cast-words : goal.overflow_cast-words
overflow_cast-words c = record {
  sfits = (multiplier-fits c.args.words.now c.args.j c.args.outer
      c.args.limit c.requires).sfits;
}

pub lay_affine-requires : goal.lay_affine-requires
lay_affine-requires c = let e : to_z w32 (of_z w32 c.args.limit.constant) ≡
    c.args.limit.constant = search rules in rest_in c.args.words.now c.args.j c.args.outer c.args.limit c.requires _ _ e

pub returns : goal.returns
returns c = let e : to_z w32 (of_z w32 c.args.limit.constant) ≡
    c.args.limit.constant = search rules in wrote c.args.words.now c.args.j c.args.outer c.args.limit c.requires _ e _
    c.lay_affine.ensures
