-- The bytes that an entry hands out are within the buffer that it was lent.
use mathlib.Core.List.{List, ◌++◌}
use Prim.Native.Nat.{ℕ, ◌≤◌}
use native.Mathlib.Omega.{arith}
use lib.ListN.{length, length-append}
use Rattle.model.specs.Answer as Model
use Rattle.model.specs.Answer.{count_in}
use Rattle.model.specs.Entries.{hand_out, write, write_of, list, list_of}
use Rattle.std.specs.Prelude.{Result, Ok, Err}
use Rattle.ticket_refusals.specs.declared.Refusal.{Refusal}
use Rattle.ticket_refusals.specs.Refusals.{answer_of}
use Rattle.entry_answers.specs.Answers.{OutcomeIs}
use Rattle.entry_answers.proofs.AnswerLaws.{handed-fits}

fits : (m : Model.Answer (List ℕ)) (o e : List ℕ) (a : Result ℕ Refusal) → OutcomeIs (hand_out m o) a e → count_in (answer_of a) ≤ length o
unfolding count_in
fits m o e (Ok n) h = handed-fits m o e n h
fits m o e (Err r) h = omega arith

pub write-fits : (b o e : List ℕ) (a : Result ℕ Refusal) → OutcomeIs (write b o) a e → count_in (answer_of a) ≤ length o
unfolding write_of
write-fits b o e a h = fits _ o e a h

pub list-fits : (b o e : List ℕ) (a : Result ℕ Refusal) → OutcomeIs (list b o) a e → count_in (answer_of a) ≤ length o
unfolding list_of
list-fits b o e a h = fits _ o e a h

pub in-front : (n : ℕ) (xs ys : List ℕ) → n ≤ length xs → n ≤ length (xs ++ ys)
in-front n xs ys h = omega (arith, length-append xs ys)
