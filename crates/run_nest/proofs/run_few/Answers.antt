-- `run_few`: in room for 32 points, or for 256 with few numbers or with all.
use native.Mathlib.Omega.{arith}
use Rattle.run_nest.proofs.ExecutionLaws.{few-numbers}
use Rattle.run_nest.proofs.run_few.Goals as goal

pub run_listed-requires : goal.run_listed-requires
run_listed-requires c =
    let l = c.if-count-le32.true in
    (c.requires.0, omega arith, few-numbers _ c.args.count _ c.requires.0 32 l)

pub overflow_mul-nest : goal.overflow_mul-nest
overflow_mul-nest c =
    let f = few-numbers _ c.args.count _ c.requires.0 256 c.requires.1 in
    omega arith

pub run_listed-requires-then-nest-count-le1024 : goal.run_listed-requires-then-nest-count-le1024
run_listed-requires-then-nest-count-le1024 c =
    let l = c.requires.1 in
    (c.requires.0, omega arith, c.if-nest-count-le1024.true)

pub run_listed-requires-2 : goal.run_listed-requires-2
run_listed-requires-2 c =
    let l = c.requires.1 in
    (c.requires.0, omega arith, few-numbers _ c.args.count _ c.requires.0 256 l)
