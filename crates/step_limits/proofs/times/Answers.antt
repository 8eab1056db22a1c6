use mir.Facts.{to_z-of_z}
use Rattle.step_limits.proofs.NumberLaws.{read-multiplier, times-fits}
use Rattle.step_limits.proofs.times.Goals as goal

pub overflow_mul-result : goal.overflow_mul-result
overflow_mul-result c = rw (to_z-of_z c.ranges.x, read-multiplier c.args.w c.requires.1) (times-fits c.args.x c.args.w c.requires.0 c.requires.1)

pub returns : goal.returns
returns c = rw (to_z-of_z c.ranges.x, read-multiplier c.args.w c.requires.1) (to_z-of_z
    (times-fits c.args.x c.args.w c.requires.0 c.requires.1))
