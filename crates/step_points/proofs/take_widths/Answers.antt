use borrow.Author.Rules.{rules}
use Rattle.step_points.proofs.IndexLaws.{product-fits, difference-fits}
use Rattle.step_points.proofs.take_widths.Goals as goal

pub overflow_mul-result : goal.overflow_mul-result
overflow_mul-result c = let r = product-fits c.args.x c.args.w c.args.q c.requires.0 c.requires.1 c.requires.2 in search rules

pub overflow_sub-result : goal.overflow_sub-result
overflow_sub-result c =
    let r = product-fits c.args.x c.args.w c.args.q c.requires.0 c.requires.1 c.requires.2 in
    let s = difference-fits c.args.x c.args.w c.args.q c.requires.0 c.requires.1 c.requires.2 in
    search rules

pub returns : goal.returns
returns c =
    let r = product-fits c.args.x c.args.w c.args.q c.requires.0 c.requires.1 c.requires.2 in
    let s = difference-fits c.args.x c.args.w c.args.q c.requires.0 c.requires.1 c.requires.2 in
    search rules
