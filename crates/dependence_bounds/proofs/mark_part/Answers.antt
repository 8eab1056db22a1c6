-- `mark_part`: the part is cut and marked; then every pair of accesses is looked at.
use borrow.Author.Rules.{rules}
use Rattle.dependence_bounds.proofs.BoundLaws.{cut_in, part_in, cover-in, lines-known}
use Rattle.dependence_bounds.proofs.mark_part.Goals as goal

pub restrict_nest-requires : goal.restrict_nest-requires
restrict_nest-requires c = let f = c.copy_words in cut_in c.args.nest.now.header.now c.args.nest.now.limits.now c.args.nest.now.words.now c.args.marks.now c.requires.0 c.args.ranges c.requires.1 _
    f.ensures

pub mark_if_few-requires : goal.mark_if_few-requires
mark_if_few-requires c = let f = c.copy_words in let k = c.restrict_nest in let w = c.with_counts-header in part_in c.args.nest.now.header.now
    c.args.nest.now.limits.now c.args.nest.now.words.now c.args.marks.now c.requires.0 c.args.ranges c.requires.1 _ f.ensures _ _ k.ensures
    w.result w.ensures

pub flat_nest_covered-requires : goal.flat_nest_covered-requires
flat_nest_covered-requires c = let f = c.copy_words in let k = c.restrict_nest in let w = c.with_counts-header in let m = c.mark_if_few in cover-in c.args.nest.now.header.now c.args.nest.now.limits.now c.args.nest.now.words.now c.args.marks.now c.requires.0 c.args.ranges c.requires.1 _
    f.ensures _ _ k.ensures w.result w.ensures _ m.result m.ensures

pub returns : goal.returns
returns c = let f = c.copy_words in let k = c.restrict_nest in let w = c.with_counts-header in let m = c.mark_if_few in (
  lines-known c.args.nest.now.header.now c.args.nest.now.limits.now c.args.nest.now.words.now
      c.args.marks.now c.requires.0 c.args.ranges c.requires.1 _ f.ensures _ _ k.ensures w.result w.ensures _ m.result
      m.ensures (search rules) c.flat_nest_covered.result c.flat_nest_covered.ensures,
  m.ensures.1,
)
