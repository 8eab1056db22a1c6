use borrow.Author.Rules.{rules}
use Rattle.step_points.proofs.IndexLaws.{product-fits, sum_fits}
use Rattle.step_points.proofs.add_multiple.Goals as goal

pub overflow_mul-result : goal.overflow_mul-result
overflow_mul-result c = let r = product-fits c.args.x c.args.c c.args.y c.requires.0 c.requires.1 c.requires.2 in search rules

pub overflow_add-result : goal.overflow_add-result
overflow_add-result c =
    let r = product-fits c.args.x c.args.c c.args.y c.requires.0 c.requires.1 c.requires.2 in
    let s = sum_fits c.args.x c.args.c c.args.y c.requires.0 c.requires.1 c.requires.2 in
    search rules

pub returns : goal.returns
returns c =
    let r = product-fits c.args.x c.args.c c.args.y c.requires.0 c.requires.1 c.requires.2 in
    let s = sum_fits c.args.x c.args.c c.args.y c.requires.0 c.requires.1 c.requires.2 in
    search rules
