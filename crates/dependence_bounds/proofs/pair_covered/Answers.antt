-- `pair_covered`: no conflict, different arrays, or Banerjee's inequalities.
use native.Mathlib.Omega.{arith}
use Rattle.dependence_bounds.specs.AccessPairs.{pairs_in}
use Rattle.dependence_bounds.specs.Covered.{Pairs}
use Rattle.dependence_bounds.proofs.PairLaws.{no-conflict, other-array, dimensions-read, block_in, cover-in, pair_is}
use Rattle.dependence_bounds.proofs.pair_covered.Goals as goal

pub returns-in_default : goal.returns-in_default
returns-in_default c =
    let lent : Pairs = pairs_in c.args.lent.now in
    λ _. no-conflict lent c.args.marks.now
    c.requires.0 c.args.a c.args.b c.requires.1 c.requires.2 c.in_default.ensures

pub returns-then-lent-a : goal.returns-then-lent-a
returns-then-lent-a c =
    let lent : Pairs = pairs_in c.args.lent.now in
    λ _. other-array lent
    c.args.marks.now c.requires.0 c.args.a c.args.b c.requires.1 c.requires.2 c.if-lent-a.true

pub block-first-requires : goal.block-first-requires
block-first-requires c =
    let lent : Pairs = pairs_in c.args.lent.now in
    block_in lent c.args.marks.now c.requires.0 c.args.a c.args.b c.requires.1 c.requires.2
    c.in-Some.k c.in-Some.ensures.1

pub overflow_mul-lent : goal.overflow_mul-lent
overflow_mul-lent c =
    let lent : Pairs = pairs_in c.args.lent.now in
    let r = dimensions-read lent c.args.marks.now c.requires.0 c.args.a c.args.b c.requires.1 c.requires.2 in omega
    (arith, r.0)

pub offset_bounds-lent-lent : goal.offset_bounds-lent-lent
offset_bounds-lent-lent c =
    let lent : Pairs = pairs_in c.args.lent.now in
    let r = dimensions-read lent c.args.marks.now c.requires.0 c.args.a c.args.b c.requires.1 c.requires.2 in omega
    (arith, r.0)

pub bounds-lent-lent : goal.bounds-lent-lent
bounds-lent-lent c =
    let lent : Pairs = pairs_in c.args.lent.now in
    let r = dimensions-read lent c.args.marks.now c.requires.0 c.args.a c.args.b
    c.requires.1 c.requires.2 in omega (arith, r.1)

pub covers_vectors-requires : goal.covers_vectors-requires
covers_vectors-requires c =
    let lent : Pairs = pairs_in c.args.lent.now in
    cover-in lent c.args.marks.now c.requires.0 c.args.a c.args.b c.requires.1 c.requires.2
    c.in-Some.k c.block-first.result c.in-Some.ensures.0 c.in-Some.ensures.1 c.block-first.ensures.0

pub returns : goal.returns
returns c =
    let lent : Pairs = pairs_in c.args.lent.now in
    pair_is lent c.args.marks.now c.requires.0 c.args.a c.args.b c.requires.1 c.requires.2
    c.in-Some.k c.block-first.result c.in-Some.ensures.0 c.in-Some.ensures.1 c.block-first.ensures.0
    c.covers_vectors.result c.covers_vectors.ensures
