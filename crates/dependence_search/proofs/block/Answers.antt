-- `block`: the place of the first mark.
use Prim.Native.Nat.{◌+◌, ◌*◌, ◌≤◌}
use native.Mathlib.Omega.{arith}
use Rattle.model.specs.Directions.{vector_count}
use Rattle.dependence_vectors.specs.Numbers.{place_of, pair_marks}
use Rattle.dependence_search.proofs.FlatLaws.{block-fits}
use Rattle.dependence_search.proofs.block.Goals as goal

pub overflow_mul-result : goal.overflow_mul-result
overflow_mul-result c =
    let fits : place_of c.args.body c.args.s c.args.t c.args.k 0 + vector_count ≤ c.args.body * c.args.body * pair_marks = let a = c.args in block-fits a.body a.s a.t a.k c.requires.1 c.requires.2 c.requires.3 in
    let h = fits in omega arith

pub overflow_add-result : goal.overflow_add-result
overflow_add-result c =
    let fits : place_of c.args.body c.args.s c.args.t c.args.k 0 + vector_count ≤ c.args.body * c.args.body * pair_marks = let a = c.args in block-fits a.body a.s a.t a.k c.requires.1 c.requires.2 c.requires.3 in
    let h = fits in omega arith

pub overflow_mul-result-2 : goal.overflow_mul-result-2
overflow_mul-result-2 c =
    let fits : place_of c.args.body c.args.s c.args.t c.args.k 0 + vector_count ≤ c.args.body * c.args.body * pair_marks = let a = c.args in block-fits a.body a.s a.t a.k c.requires.1 c.requires.2 c.requires.3 in
    let h = fits in omega arith

pub overflow_add-result-2 : goal.overflow_add-result-2
overflow_add-result-2 c =
    let fits : place_of c.args.body c.args.s c.args.t c.args.k 0 + vector_count ≤ c.args.body * c.args.body * pair_marks = let a = c.args in block-fits a.body a.s a.t a.k c.requires.1 c.requires.2 c.requires.3 in
    let h = fits in omega arith

pub overflow_mul-result-3 : goal.overflow_mul-result-3
overflow_mul-result-3 c =
    let fits : place_of c.args.body c.args.s c.args.t c.args.k 0 + vector_count ≤ c.args.body * c.args.body * pair_marks = let a = c.args in block-fits a.body a.s a.t a.k c.requires.1 c.requires.2 c.requires.3 in
    let h = fits in omega arith

pub returns : goal.returns
returns c =
    let fits : place_of c.args.body c.args.s c.args.t c.args.k 0 + vector_count ≤ c.args.body * c.args.body * pair_marks = let a = c.args in block-fits a.body a.s a.t a.k c.requires.1 c.requires.2 c.requires.3 in
    let h = fits in (omega arith, omega arith)
