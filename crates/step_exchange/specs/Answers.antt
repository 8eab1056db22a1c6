-- What a step answers, from its two tests in their order: no side of a loop has more than 16 limits (11), every number is within ±32767 (12).
use Rattle.std.specs.Prelude.{Bool, cond, Result, Ok, Err, ⊤}
use Rattle.step_exchange.specs.declared.StepError.{StepError}
use Rattle.step_exchange.specs.declared.StepError.TheVariants.{TooManyLimits, NumberOutOfRange}

abbrev pub step_answer : Bool → Bool → Result ⊤ StepError
step_answer few small = cond few (cond small (Ok tt) (Err NumberOutOfRange)) (Err TooManyLimits)
