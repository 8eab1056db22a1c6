-- The survey of a nest, depth by depth: the answers 7 and 8, or 13, with the numbers that the caller gives them.
use Rattle.std.specs.Prelude.{ℕ, Result, Ok, Err}
use Rattle.model.specs.Answer.{Answer, accepted, refused}
use Rattle.nest_points.specs.declared.SpaceError.{SpaceError}
use Rattle.nest_points.specs.declared.SpaceError.TheVariants.{IndexTooLarge, CountTooLarge}

-- 7 and 8 of a ticket, 13 and 13 of a new nest
abbrev pub answer_of : ℕ → ℕ → Result ℕ SpaceError → Answer (Unit {0})
answer_of far many (Ok n) = accepted tt
answer_of far many (Err (IndexTooLarge k)) = refused far k
answer_of far many (Err (CountTooLarge k)) = refused many k
